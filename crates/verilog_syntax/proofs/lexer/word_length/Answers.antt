use Rattle.std.proofs.Common.{◌∙◌, sym, arith}
use Rattle.std.proofs.lemmas.List.Sums.{prefix_len_is}
use Rattle.verilog_syntax.specs.Characters.{in_word}
use Rattle.verilog_syntax.proofs.lexer.word_length.Goals as goal

pub returns-else-is_word_byte : goal.returns-else-is_word_byte
returns-else-is_word_byte c = sym (prefix_len_is in_word c.args.bytes.now c.loop-n.n 0 c.loop-n.invariant.0 c.loop-n.invariant.1 (λ h. sym c.is_word_byte.ensures ∙ c.if-is_word_byte.false))

pub returns-after-loop-n : goal.returns-after-loop-n
returns-after-loop-n c = sym (prefix_len_is in_word c.args.bytes.now c.loop-n.n 0 c.loop-n.invariant.0 c.loop-n.invariant.1 (λ h. absurd (omega arith)))
