use Rattle.std.proofs.Common.{◌≡◌, ◌<◌, ◌≤◌, ◌+◌, ◌^◌, length, map, slice_get, Some, refl, sym, ap, ◌∙◌, subst, arith}
use Rattle.std.specs.Option.{option_map}
use Rattle.std.proofs.lemmas.List.{length-map}
use Rattle.clock_ir.specs.Flows as flows
use Rattle.clock_machine.specs.declared.lines.program.Action.{Action}
use Rattle.clock_machine.specs.declared.lines.program.Assignment.{Assignment}
use Rattle.clock_machine.specs.Lines.Agendas.{IsAgenda}
use Rattle.clock_machine.specs.Lines.Reads.{Each, IsCovered, read_of}
use Rattle.clock_machine.specs.Lines.Regions.{body_of}
use Rattle.clock_machine.proofs.LinesLemmas.Covering.{action_further, assignments_further, way_further}
use Rattle.clock_machine.proofs.lines.making.work_of.Goals as goal

pub returns-clause-work : goal.returns-clause-work
returns-clause-work c = λ orderly small few known_small.
    let region = c.args.region.now in
    let b = body_of region in
    let known_is = c.known-known.ensures region.interval orderly.early in
    let starts_are = c.deref-4.ensures.value ∙ c.in_ok-starts_of.ensures ∙ ap (map (λ (a : Action). a.start)) c.deref-3.ensures.value in
    let arrivals_are = c.deref-6.ensures.value ∙ c.in_ok-arrivals_of.ensures ∙ ap (map (λ (a : Action). a.ready)) c.deref-5.ensures.value in record {
      count = c.in_ok-actions.ensures.count ∙ sym (length-map region.body.now.ops.items flows.timed_op);
      actions = c.in_ok-actions.ensures.actions orderly known_is;
      assignments = c.in_ok-assignments.ensures orderly small few;
      starts = subst (λ ts. IsAgenda region.interval ts c.in_ok-starts.starts.first.items c.in_ok-starts.starts.next.items) starts_are (c.in_ok-starts.ensures orderly.positive);
      arrivals = subst (λ ts. IsAgenda region.interval ts c.in_ok-arrivals.arrivals.first.items c.in_ok-arrivals.arrivals.next.items) arrivals_are (c.in_ok-arrivals.ensures orderly.positive);
      interval = refl;
      known_time = known_is;
      test = subst (λ n. c.operand_if-test.result ≡ option_map (read_of b n) region.body.now.test) known_is (c.operand_if-test.ensures orderly (subst (λ n. n < 2 ^ 32) (sym known_is) known_small));
    }

pub returns-clause-deep : goal.returns-clause-deep
returns-clause-deep c =
    let d1 = c.deeper_actions.result in
    let d2 = c.deeper_assignments.result in
    let d3 = c.deeper_way.result in
    let depth = c.deeper_if-depth.result in
    let size = c.saturating_add.result in
    let far1 : d1 ≤ depth = omega (arith, c.deeper_assignments.ensures.grows, c.deeper_way.ensures.grows, c.deeper_if-depth.ensures.grows) in
    let far2 : d2 ≤ depth = omega (arith, c.deeper_way.ensures.grows, c.deeper_if-depth.ensures.grows) in
    let far3 : d3 ≤ depth = omega (arith, c.deeper_if-depth.ensures.grows) in (
      depth,
      (
        size,
        (
          record {
            actions = λ k a is. action_further d1 depth a far1 (c.deeper_actions.ensures.covers k a (subst (λ xs. slice_get xs k ≡ Some a) (sym c.deref.ensures.value) is));
            assignments = assignments_further d2 depth c.in_ok-assignments.assignments.items far2 (subst (Each (λ (x : Assignment). IsCovered d2 x.value)) c.deref-2.ensures.value c.deeper_assignments.ensures.covers);
            test = c.deeper_if-depth.ensures.covers;
            long = omega (arith, c.saturating_add.ensures);
            count = c.in_ok-lines.ensures.count ∙ (let z : c.saturating_add-count.result ≡ length c.in_ok-actions.actions.items + length c.in_ok-actions.actions.items = omega (arith, c.saturating_add-count.ensures, c.len.ensures, c.len-2.ensures, c.in_ok-actions.actions.ok.0, c.in_ok-actions.actions.small) in z);
            lines = c.in_ok-lines.ensures.lines;
          },
          way_further d3 depth c.args.way.now far3 c.deeper_way.ensures.covers,
        ),
      ),
    )
