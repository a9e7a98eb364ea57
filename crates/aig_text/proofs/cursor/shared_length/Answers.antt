use Rattle.std.proofs.Common.{inl, inr}
use Rattle.aig_text.proofs.Atoms.{shared_apart, shared_end}
use Rattle.aig_text.proofs.cursor.shared_length.Goals as goal

pub returns-else-a-n-clause-shared : goal.returns-else-a-n-clause-shared
returns-else-a-n-clause-shared c = shared_apart _ _ _ c.loop-n.invariant.0 c.loop-n-test.true c.if-n-b.true c.if-a-n.false

pub returns-else-n-b-clause-shared : goal.returns-else-n-b-clause-shared
returns-else-n-b-clause-shared c = shared_end _ _ _ c.loop-n.invariant.0 c.loop-n.invariant.1 (inr c.if-n-b.false)

pub returns-after-loop-n-clause-shared : goal.returns-after-loop-n-clause-shared
returns-after-loop-n-clause-shared c = shared_end _ _ _ c.loop-n.invariant.0 c.loop-n.invariant.1 (inl c.loop-n-test.false)
