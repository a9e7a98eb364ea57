use Rattle.std.proofs.lemmas.Bool.Decides.{same_from_decides}
use Rattle.pieces.specs.View.{piece_of}
use Rattle.ir_lower.specs.Points.{is_loop_that_overlaps}
use Rattle.ir_lower.proofs.Shapes.{overlaps}
use Rattle.ir_lower.proofs.points.may_overlap.Goals as goal

pub returns : goal.returns
returns c =
    let repeat = piece_of c.args.repeat.now in
    same_from_decides c.is_eligible.result (is_loop_that_overlaps repeat) c.is_eligible.ensures (overlaps repeat)
