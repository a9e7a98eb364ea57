use Rattle.std.proofs.Common.{sym, ap, arith, eqb, not}
use Rattle.std.proofs.lemmas.Bool.{eq-eqb}
use Rattle.std.proofs.lemmas.List.Sums.{prefix_len_is}
use Rattle.verilog_syntax.proofs.lexer.line_length.Goals as goal

pub returns-else-bytes-n-ne10 : goal.returns-else-bytes-n-ne10
returns-else-bytes-n-ne10 c = sym (prefix_len_is (λ x. not (eqb x 10)) c.args.bytes.now c.loop-n.n 0 c.loop-n.invariant.0 c.loop-n.invariant.1 (λ h. ap not (eq-eqb _ 10 c.if-bytes-n-ne10.false)))

pub returns-after-loop-n : goal.returns-after-loop-n
returns-after-loop-n c = sym (prefix_len_is (λ x. not (eqb x 10)) c.args.bytes.now c.loop-n.n 0 c.loop-n.invariant.0 c.loop-n.invariant.1 (λ h. absurd (omega arith)))
