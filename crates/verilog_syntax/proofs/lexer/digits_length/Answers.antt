use Rattle.std.proofs.Common.{◌∙◌, sym, arith}
use Rattle.std.proofs.lemmas.List.Sums.{prefix_len_is}
use Rattle.verilog_syntax.specs.Characters.{is_digit}
use Rattle.verilog_syntax.proofs.lexer.digits_length.Goals as goal

pub returns-else-is_digit : goal.returns-else-is_digit
returns-else-is_digit c = sym (prefix_len_is is_digit c.args.bytes.now c.loop-n.n 0 c.loop-n.invariant.0 c.loop-n.invariant.1 (λ h. sym c.is_digit.ensures ∙ c.if-is_digit.false))

pub returns-after-loop-n : goal.returns-after-loop-n
returns-after-loop-n c = sym (prefix_len_is is_digit c.args.bytes.now c.loop-n.n 0 c.loop-n.invariant.0 c.loop-n.invariant.1 (λ h. absurd (omega arith)))
