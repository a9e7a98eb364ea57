use Rattle.std.proofs.Common.{map, sym}
use Rattle.c_tree.specs.View.{param_of}
use Rattle.cosim_levels.proofs.Taking.{row_is_inside, further}
use Rattle.cosim_levels.proofs.read.taken_lines.Goals as goal

pub take_row-requires : goal.take_row-requires
take_row-requires c =
    record { inside = row_is_inside (map param_of c.args.params.now) c.in-Some.line.now c.in_ok-row.row _ c.in_ok-row.ensures.row c.loop-line.invariant.given_are.count }

pub loop-line-preserved : goal.loop-line-preserved
loop-line-preserved c =
    let next = further (map param_of c.args.params.now) c.args.bytes.now c.loop-line.rest.now c.in-Some.line.now c.in-Some.behind.now c.loop-line.given.items c.loop-line.count c.in_ok-row.row
    c.loop-line.invariant c.in-Some.ensures.some c.in_ok-row.ensures.row (sym c.if-not-take_row.ensures.taken) c.in-Some.ensures.shorter in
    rw c.take_row.ensures.given next
