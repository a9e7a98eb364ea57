use Rattle.std.specs.List.{All}
use Rattle.block_schedule.specs.Schedules.{IsThereBefore}
use Rattle.block_schedule.proofs.schedule.length_for_end.Goals as goal

pub returns-in-Choose-clause-least : goal.returns-in-Choose-clause-least
returns-in-Choose-clause-least c = λ len some is_ready.
    let cases : All (λ a. IsThereBefore c.args.body.now.ops.items c.args.times.now a.0 len) c.in-Choose.cases.items = rw c.in-Choose.is at is_ready in
    c.length_for_cases.ensures.least len some (rw c.deref.ensures.value cases)
