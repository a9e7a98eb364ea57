-- The point that a step passes, if it passes one, is counted.
use Rattle.std.proofs.Common.{List, [], ◌∷◌, refl, ap, ◌∙◌, subst, arith}
use Rattle.std.specs.Option.{option_map}
use Rattle.hls_base.specs.declared.point.Point.{Point}
use Rattle.c_meaning.specs.Points.{count_point}
use Rattle.flat_programs.specs.Machine.Rest.{Passes, rest}
use Rattle.flat_programs.specs.Machine.Steps.{listed}
use Rattle.stage_runs.proofs.running.pass_counted.Goals as goal

pub returns-in_default-clause-passes : goal.returns-in_default-clause-passes
returns-in_default-clause-passes c = λ whole. record {
  points = [];
  few = omega arith;
  passes = subst (λ (ps : List Point). Passes ps 1 (rest c.args.machine.now.cfg.now c.args.machine.now.state) (rest c.pass.new.self.cfg.now c.pass.new.self.state))
      (ap (λ o. listed (option_map (λ point. point.now) o)) c.in_default.is) (c.pass.ensures.passes whole);
  counts = refl;
}

pub returns-in_ok-count-clause-passes : goal.returns-in_ok-count-clause-passes
returns-in_ok-count-clause-passes c = λ whole.
    let p = c.in-Some.point.now in
    record {
      points = p ∷ [];
      few = omega arith;
      passes = subst (λ (ps : List Point). Passes ps 1 (rest c.args.machine.now.cfg.now c.args.machine.now.state) (rest c.pass.new.self.cfg.now c.pass.new.self.state))
          (ap (λ o. listed (option_map (λ point. point.now) o)) c.in-Some.is) (c.pass.ensures.passes whole);
      counts = c.in_ok-count.ensures.counts ∙ ap (λ path. count_point (record { path = path; at = p.at; kind = p.kind }) c.args.meter.now.counts) c.items.ensures;
    }
