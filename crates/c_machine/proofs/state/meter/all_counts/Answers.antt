use Rattle.std.proofs.Common.{ap, sym, arith, ℕ}
use Rattle.c_machine.specs.declared.state.meter.NumberedPoint.{NumberedPoint}
use Rattle.std.proofs.lemmas.Option.{get_or_from_slice_get}
use Rattle.c_machine.specs.State.Metering.{point_of}
use Rattle.c_meaning.proofs.Rows.{pushed_map}
use Rattle.c_machine.proofs.state.meter.all_counts.Goals as goal

pub loop-i-preserved : goal.loop-i-preserved
loop-i-preserved c =
    let row : NumberedPoint × ℕ = (c.in-Some.point.now, c.in-Some.count.now) in
    pushed_map (λ row. (point_of c.args.calls.now.entries row.0, row.1)) c.args.counts.now.entries c.loop-i.i row c.loop-i.all.items c.push.new.self.items
    (record { path = c.in_ok-path.path; at = c.in-Some.point.now.at; kind = c.in-Some.point.now.kind }, c.in-Some.count.now) (omega (arith, c.loop-i-test.true, c.len-i-end.ensures.len))
    (sym (get_or_from_slice_get c.args.counts.now.entries c.loop-i.i row row (sym c.in-Some.ensures.entry))) c.loop-i.invariant
    (ap (λ path. (record { path = path; at = c.in-Some.point.now.at; kind = c.in-Some.point.now.kind }, c.in-Some.count.now)) c.in_ok-path.ensures) c.in_ok-push.ensures.items
