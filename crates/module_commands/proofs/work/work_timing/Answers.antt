use Rattle.module_commands.specs.Outcomes.{IsRead}
use Rattle.module_commands.proofs.ReadFiles.{first_holds}
use Rattle.module_commands.proofs.work.work_timing.Goals as goal

pub returns-clause-outcome : goal.returns-clause-outcome
returns-clause-outcome g c = (c.in_ok-text.text.items, c.in_ok-text.ensures.bytes, rw c.as_slice.ensures.value at c.in_ok-timing.ensures.outcome)

pub returns-clause-complete : goal.returns-clause-complete
returns-clause-complete g c = λ can.
    c.in_ok-timing.ensures.complete
    (first_holds IsRead (g.F.Shelf.files c.args.shelf.now) c.args.module_file.now c.as_slice.result.now (rw c.as_slice.ensures.value c.in_ok-text.ensures.bytes) can)
