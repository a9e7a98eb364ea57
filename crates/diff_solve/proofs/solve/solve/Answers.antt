use Rattle.diff_solve.specs.Cycles.{IsPositiveCycle}
use Rattle.diff_solve.proofs.Walks.{HasNoSolution-cycle}
use Rattle.diff_solve.proofs.solve.solve.Goals as goal

pub returns-in_ok-cycle-in-Some : goal.returns-in_ok-cycle-in-Some
returns-in_ok-cycle-in-Some c =
    let cs = c.args.constraints.now in
    let cycle : IsPositiveCycle cs c.new-in-Some.result = rw c.new-in-Some.ensures c.in_ok-cycle-in-Some.ensures in
    (cycle, HasNoSolution-cycle c.args.n cs c.new-in-Some.result cycle)
