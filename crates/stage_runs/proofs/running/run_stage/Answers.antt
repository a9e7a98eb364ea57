use Rattle.std.proofs.Common.{◌∙◌, map, ap, sym, subst}
use Rattle.c_machine.specs.State.Reading.{Reading}
use Rattle.flat_programs.specs.declared.machine.machine.SeqMachine.{SeqMachine}
use Rattle.stage_runs.specs.declared.stage.PointCount.{PointCount}
use Rattle.stage_runs.specs.Points.{counted}
use Rattle.stage_runs.proofs.Ending.{HasCome, has_come, points_are, counts_in_c, told_at}
use Rattle.stage_runs.proofs.running.run_stage.Goals as goal

pub returns-clause-told : goal.returns-clause-told
returns-clause-told c =
    let cfg = c.args.cfg.now in
    let inputs = c.args.inputs.now in
    let first = c.in_ok-machine.machine in
    let ran = c.run_to_end.new.machine in
    let last = c.halt_of-halt.new.machine in
    let steps = c.in_ok-steps.steps in
    let tally = c.in_ok-tally.tally in
    let come : HasCome cfg inputs steps tally ran.cfg.now ran.state =
    has_come cfg inputs steps first.cfg.now first.state ran.cfg.now ran.state _ _ tally c.in_ok-machine.ensures.program
    (ap (λ (r : Reading). r.counts) c.allow.ensures ∙ ap (λ (r : Reading). r.counts) c.new-meter.ensures) c.in_ok-tally.ensures c.in_ok-machine.ensures.begins c.in_ok-steps.ensures.passes in
    told_at cfg last.cfg.now inputs last.state tally c.args.ended.now.tally _
    (ap (λ (m : SeqMachine). m.cfg.now) c.halt_of-halt.ensures.same ∙ (c.run_to_end.ensures.program ∙ c.in_ok-machine.ensures.program))
    (subst (λ (m : SeqMachine). HasCome cfg inputs steps tally m.cfg.now m.state) (sym c.halt_of-halt.ensures.same) come)
    (record {
      ended = c.halts_as_the_run.ensures.ended;
      undefined = c.halts_as_the_run.ensures.undefined;
      passes = c.passes_as_the_run.ensures;
      tallies = c.tallies_count.ensures;
      halts = c.halt_of-halt.ensures.halt;
      result = c.ret.ensures.result;
      void = c.ret.ensures.void;
      arrays = c.in_ok-all_elements.ensures.words;
    })
    (c.in_ok-point_counts.ensures ∙ ap (map (counted tally c.args.ended.now.tally)) c.deref-2.ensures.value)

pub returns-clause-points : goal.returns-clause-points
returns-clause-points c =
    let tally = c.in_ok-tally.tally in
    let in_c = c.args.ended.now.tally in
    ap (map (λ (p : PointCount). p.point)) (c.in_ok-point_counts.ensures ∙ ap (map (counted tally in_c)) c.deref-2.ensures.value) ∙ points_are tally in_c c.args.cfg.now.nodes.items

pub returns-clause-in_c : goal.returns-clause-in_c
returns-clause-in_c c =
    let tally = c.in_ok-tally.tally in
    let in_c = c.args.ended.now.tally in
    ap (map (λ (p : PointCount). p.in_c)) (c.in_ok-point_counts.ensures ∙ ap (map (counted tally in_c)) c.deref-2.ensures.value) ∙ counts_in_c tally in_c c.args.cfg.now.nodes.items
