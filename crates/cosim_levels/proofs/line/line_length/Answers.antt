use Rattle.std.proofs.Common.{◌==◌, arith, sym}
use Rattle.std.proofs.lemmas.List.Sums.{position_or_len_is}
use Rattle.cosim_levels.proofs.line.line_length.Goals as goal

pub returns-then-bytes-i-eq10-clause-value : goal.returns-then-bytes-i-eq10-clause-value
returns-then-bytes-i-eq10-clause-value c =
    sym (position_or_len_is (λ b. b == 10) c.args.bytes.now c.loop-i.i 0 (omega arith) c.loop-i.invariant (λ _. rw c.if-bytes-i-eq10.true))

pub returns-clause-value : goal.returns-clause-value
returns-clause-value c =
    sym (position_or_len_is (λ b. b == 10) c.args.bytes.now _ 0 (omega arith) (λ k h. c.loop-i.invariant k (omega arith)) (λ h. absurd (omega arith)))
