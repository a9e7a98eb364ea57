use Rattle.std.proofs.Common.{◌∙◌, ap, sym}
use Rattle.std.specs.Prelude.{◌&&◌}
use Rattle.std.proofs.lemmas.Bool.Decides.{same_from_decides}
use Rattle.pieces.specs.View.{piece_of}
use Rattle.ir_lower.specs.Points.{is_fork_that_converts}
use Rattle.ir_lower.proofs.Shapes.{converts}
use Rattle.ir_lower.proofs.points.converts.Goals as goal

pub returns-then-live : goal.returns-then-live
returns-then-live c =
    let fork = piece_of c.args.fork.now in
    same_from_decides c.is_convertible.result (is_fork_that_converts fork) c.is_convertible.ensures (converts fork) ∙ sym (ap (λ b. b && is_fork_that_converts fork) c.if-live.true)
