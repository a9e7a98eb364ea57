use Rattle.std.proofs.Common.{refl}
use Rattle.std.proofs.lemmas.Result.{IfOk-weaker}
use Rattle.datapath.specs.Cycles.{Cycle, Passed, holds}
use Rattle.datapath.specs.Reading.{has_passed}
use Rattle.circuit_control.proofs.Telling.{tells_as}
use Rattle.circuit_control.proofs.Pieces.{passed_some}
use Rattle.circuit_control.proofs.loops.passed.Goals as goal

pub returns-else-intervals-eq0 : goal.returns-else-intervals-eq0
returns-else-intervals-eq0 c = λ p names d context begun.
    IfOk-weaker c.register_bit.result _ _
    (λ a tells. tells_as p names d a (λ (x : Cycle). holds x (Passed c.args.intervals)) (λ (x : Cycle). has_passed x c.args.intervals) (λ (x : Cycle). passed_some x c.args.intervals c.if-intervals-eq0.false) tells)
    (c.register_bit.ensures p names d context begun refl)
