use Rattle.std.proofs.Common.{ℕ, sym, subst}
use Rattle.std.proofs.lemmas.Result.{IfOk-weaker}
use Rattle.pieces.specs.Program.{expanded_of}
use Rattle.cycle_report.specs.PlainReport.{plain_of}
use Rattle.hls_flow.specs.Clocked.{EndsAfter, IsClockOf}
use Rattle.promises.proofs.Compilable.{accepted_compilable}
use Rattle.hls_flow.specs.Ending.{IsCompiledTo}
use Rattle.hls_flow.proofs.Ended.{ended_in_edges, ended_in_time}
use Rattle.hls_flow.proofs.cosim.agreement.Goals as goal

pub compile_expanded-requires : goal.compile_expanded-requires
compile_expanded-requires c =
    let h = c.requires in
    accepted_compilable h.source h.program h.index h.name h.faultless h.within (expanded_of c.args.expanded.now) h.is

pub clocked_steps-requires : goal.clocked_steps-requires
clocked_steps-requires c =
    let made = c.in_ok-compiled.compiled in
    ended_in_time c.clocked_runs_end_in_time.ensures c.args.expanded.now c.args.counted.now.inputs c.args.ended.now c.requires c.args.counted.now.settings made.untimed made.timed (record {
      rows = (plain_of made.report).loops;
      flat = c.in_ok-compiled.ensures.flat;
      is_timed = c.in_ok-compiled.ensures.timed;
      frame = c.in_ok-compiled.ensures.frame;
    })

pub returns : goal.returns
returns c =
    let made = c.in_ok-compiled.compiled in
    let compiled : IsCompiledTo (expanded_of c.args.expanded.now) c.args.counted.now.settings made.untimed made.timed = record {
      rows = (plain_of made.report).loops;
      flat = c.in_ok-compiled.ensures.flat;
      is_timed = c.in_ok-compiled.ensures.timed;
      frame = c.in_ok-compiled.ensures.frame;
    } in
    let clock : IsClockOf (expanded_of c.args.expanded.now) c.args.counted.now.settings c.args.counted.now.inputs c.args.ended.now.ret c.args.ended.now.arrays c.from.result = record {
      untimed = made.untimed;
      timed = made.timed;
      rows = (plain_of made.report).loops;
      flat = c.in_ok-compiled.ensures.flat;
      is_timed = c.in_ok-compiled.ensures.timed;
      frame = c.in_ok-compiled.ensures.frame;
      ends = subst (λ (n : ℕ). EndsAfter (expanded_of c.args.expanded.now) made.timed c.args.counted.now.inputs n c.args.ended.now.ret c.args.ended.now.arrays) (sym c.from.ensures)
          (c.in_ok-clock.ensures (expanded_of c.args.expanded.now) c.args.ended.now.ret c.args.ended.now.arrays
          (ended_in_edges c.clocked_runs_end_in_time.ensures c.args.expanded.now c.args.counted.now.inputs c.args.ended.now c.requires c.args.counted.now.settings made.untimed made.timed compiled));
    } in
    IfOk-weaker c.agreeing.result _ _ (λ v h. record { clock = c.from.result; clock_is = clock; is = h }) c.agreeing.ensures
