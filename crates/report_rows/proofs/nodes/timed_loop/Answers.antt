use Rattle.report_rows.proofs.Loops.{loop_made}
use Rattle.report_rows.proofs.nodes.timed_loop.Goals as goal

pub returns : goal.returns
returns c =
    loop_made c.args.memories.now c.args.units c.args.region.now c.in_ok-pipelined.pipelined c.in_ok-copy.field-0 c.in_ok-cycle_of.field-0.items c.in_ok-all.all.items c.as_slice-constraints.result.now c.in_ok-binding.binding
    c.in_ok-all.ensures.all c.as_slice-constraints.ensures.value c.in_ok-binding.ensures.bound c.in_ok-pipelined.ensures c.in_ok-copy.ensures c.in_ok-cycle_of.ensures
