use Rattle.c_names.proofs.ConflictsLemmas.Knowing.{knows_last}
use Rattle.c_names.proofs.conflicts.accesses.Accesses.with_last.Goals as goal

pub invariant_of-result : goal.invariant_of-result
invariant_of-result c = rw c.in_ok-push_back.ensures.items (knows_last c.args.access _ _ _ c.self.invariant c.in_ok-note.ensures)
