use Rattle.std.proofs.Common.{◌≡◌, ◌*◌, ◌^◌, ◌-◌, get_or}
use Rattle.std.specs.Prelude.{min}
use Rattle.std.proofs.Math.Nat.{min-le_right}
use Rattle.program_validity.proofs.Numbers.{one_more, all_taken}
use Rattle.program_validity.proofs.frames.element_count.Goals as goal

pub loop-length-preserved : goal.loop-length-preserved
loop-length-preserved c =
    let dims = c.args.dims.now in
    let limit = 2 ^ 64 - 1 in
    let cut : c.saturating_mul-count.result ≡ min (c.loop-length.count * get_or dims c.loop-length.length-index 0) limit = cc in
    rw cut (one_more limit c.loop-length.count c.loop-length.length-index 0 dims c.loop-length-test.true c.loop-length.invariant.0, min-le_right _ limit)

pub returns : goal.returns
returns c =
    all_taken (2 ^ 64 - 1) c.loop-length.count c.loop-length.length-index c.args.dims.now c.loop-length-test.false c.loop-length.invariant.1 c.loop-length.invariant.0
