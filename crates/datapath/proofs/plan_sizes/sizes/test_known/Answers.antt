use Rattle.std.proofs.Common.{◌≡◌, ◌-◌, ◌^◌, ap, sym, ◌∙◌}
use Rattle.std.specs.Prelude.{Some, Option, min}
use Rattle.hls_base.specs.declared.number.OpId.{OpId}
use Rattle.dep_graph.specs.Dependences.{test_maker}
use Rattle.clock_ir.specs.Flows.{ready_if, timed_body}
use Rattle.datapath.proofs.plan_sizes.sizes.test_known.Goals as goal

pub returns-in-Some-result_of : goal.returns-in-Some-result_of
returns-in-Some-result_of c = λ interval.
    let body = c.args.body.now in
    let named : test_maker body.test ≡ Some c.in-Some-result_of.op = ap test_maker c.in-Some.is ∙ sym c.in-Some-result_of.ensures in
    c.ready_at.ensures interval ∙ sym (ap (λ (o : Option OpId). min (ready_if (timed_body interval body) o) (2 ^ 64 - 1)) named)
