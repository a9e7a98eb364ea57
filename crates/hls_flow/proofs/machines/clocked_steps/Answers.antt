-- The run ends within the edges that are counted.
use Rattle.std.proofs.Common.{arith}
use Rattle.ir_core.specs.FirstContents.{first_words}
use Rattle.clock_ir.specs.ClockRuns.{timed_program}
use Rattle.hls_flow.proofs.Ended.{ends_at}
use Rattle.hls_flow.proofs.machines.clocked_steps.Goals as goal

pub unreachable-requires : goal.unreachable-requires
unreachable-requires c =
    let timed = c.args.timed.now in
    let p = timed_program timed in
    let t = first_words timed.frame c.args.inputs.now in
    let ends = c.requires.3 in
    let few = ends.few in
    let none = c.in-None.ensures.none p t (c.in_ok-machine.ensures.first ends.ready.orderly ends.ready.whole ends.named) in
    none ends.edges (omega (arith, few)) c.requires.1 ends.ends.words ends.ends.run

pub returns : goal.returns
returns c = λ e value arrays h.
    let timed = c.args.timed.now in
    let end = c.in-Some.ensures.end (timed_program timed) (first_words timed.frame c.args.inputs.now) (c.in_ok-machine.ensures.first h.ready.orderly h.ready.whole h.named) in
    ends_at e timed c.args.inputs.now value arrays _ _ _ end.1 h
