use Rattle.std.proofs.Common.{◌≡◌, ◌+◌, ◌-◌, slice_index, arith}
use Rattle.diff_solve.specs.Cycles.{nothing}
use Rattle.diff_solve.proofs.Trails.{GoesOn-more}
use Rattle.diff_solve.proofs.solve.is_in_a_loop.Goals as goal

pub offset_bounds-constraints-position : goal.offset_bounds-constraints-position
offset_bounds-constraints-position c =
    let lt = (c.requires.ends c.back.node (slice_index c.args.entered.now c.back.node - 1) (omega arith)).0 in
    omega (arith, lt)

pub bounds-constraints-position : goal.bounds-constraints-position
bounds-constraints-position c = (c.requires.ends c.back.node (slice_index c.args.entered.now c.back.node - 1) (omega arith)).0

pub back-preserved : goal.back-preserved
back-preserved c =
    let cs = c.args.constraints.now in
    let entered = c.args.entered.now in
    let node = c.back.node in
    let p = slice_index entered node - 1 in
    let here : slice_index entered node ≡ p + 1 = omega arith in
    record {
      in_range = (c.requires.in_range p nothing (c.requires.ends node p here).0).0;
      goes_on = GoesOn-more cs entered c.args.start c.back._step node p c.back.invariant.goes_on here;
    }
