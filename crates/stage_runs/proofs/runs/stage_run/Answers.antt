use Rattle.std.proofs.Common.{sym, subst}
use Rattle.pieces.specs.Program.{expanded_of}
use Rattle.stage_runs.specs.declared.stage.StageName.{StageName}
use Rattle.stage_runs.specs.Stages.{IsStageOf}
use Rattle.stage_runs.proofs.runs.stage_run.Goals as goal

pub returns-clause-run : goal.returns-clause-run
returns-clause-run c = λ whole.
    let cfg = c.in_ok-cfg.cfg in
    let plain = c.args.given.now.plain in
    record {
      cfg = cfg;
      is = subst (λ (name : StageName). IsStageOf (expanded_of c.args.expanded.now) plain name cfg) (sym c.in_ok-stage.ensures.name) c.in_ok-cfg.ensures;
      told = c.in_ok-stage.ensures.told (whole plain c.args.name cfg c.in_ok-cfg.ensures);
      valid = c.in_ok-stage.ensures.valid;
      counts = c.in_ok-stage.ensures.counts;
      tallied = c.in_ok-stage.ensures.tallied;
      points = c.in_ok-stage.ensures.points;
      in_c = c.in_ok-stage.ensures.in_c;
    }
