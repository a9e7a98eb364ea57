use Rattle.cosim_levels.proofs.RunInC.{from_start}
use Rattle.cosim_levels.proofs.levels.outcome_within.Goals as goal

pub returns : goal.returns
returns c = from_start c.go.result _ _ c.in_ok-run.run'.passed c.args.points c.in_ok-run.ensures.begun c.in_ok-run.ensures.passed c.go.ensures.answer
