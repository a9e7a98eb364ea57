use Rattle.std.proofs.Common.{subst}
use Rattle.std.proofs.lemmas.List.{take_all}
use Rattle.std.proofs.lemmas.List.Elements.{All-more}
use Rattle.std.specs.List.{All}
use Rattle.stage_runs.specs.Agreement.{Agrees}
use Rattle.stage_runs.proofs.comparison.first_among.Goals as goal

pub loop-stage-preserved : goal.loop-stage-preserved
loop-stage-preserved c =
    All-more (Agrees c.args.ended.now) c.args.stages.now c.loop-stage.stage-index c.stage-item.result c.loop-stage-test.true c.loop-stage.invariant
    (subst (Agrees c.args.ended.now) c.stage-item.is (c.agrees.ensures c.if-not-agrees.false))

pub returns : goal.returns
returns c = λ _. subst (All (Agrees c.args.ended.now)) (take_all c.loop-stage.stage-index c.args.stages.now c.loop-stage-test.false) c.loop-stage.invariant
