use Rattle.c_names.proofs.ConflictsLemmas.Knowing.{knows_first}
use Rattle.c_names.proofs.conflicts.accesses.Accesses.with_first.Goals as goal

pub invariant_of-result : goal.invariant_of-result
invariant_of-result c = rw c.in_ok-push_front.ensures.items (knows_first c.args.access _ _ _ c.self.invariant c.in_ok-note.ensures)
