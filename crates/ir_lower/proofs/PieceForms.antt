-- The trees of pieces, an equation for each variant.
use Rattle.std.proofs.Common.{◌≡◌, Bool, Vec, Global, sym, ap, ◌∙◌}
use Rattle.hls_base.specs.declared.place.Place.{Place}
use Rattle.hls_base.specs.declared.point.Point.{Point}
use Rattle.hls_base.specs.declared.number.ArrayId.{ArrayId}
use Rattle.hls_base.specs.declared.number.LoopId.{LoopId}
use Rattle.hls_base.specs.declared.number.VarId.{VarId}
use Rattle.pieces.specs.declared.piece.CallId.{CallId}
use Rattle.pieces.specs.declared.piece.Label.{Label}
use Rattle.pieces.specs.declared.pure_expr.Pure.{Pure}
use Rattle.pieces.specs.declared.piece.Piece.{Piece}
use Rattle.pieces.specs.declared.piece.Piece.TheVariants as p
use Rattle.pieces.specs.declared.piece.Piece.TheOpen.{Piece-F}
use Rattle.pieces.specs.declared.piece.Piece.TheFolds.{fold-roll-Piece}
use Rattle.pieces.specs.Trees as tree
use Rattle.pieces.specs.Trees.{PieceTree}
use Rattle.pieces.specs.View.{pure_of, pures_of, piece_of, pieces_of, piece_step}

pub set_tree : (variable : VarId) (value : Pure) → piece_of (p.Set variable value) ≡ tree.set variable (pure_of value)
set_tree variable value = ap piece_of (sym (p.rolls-Set variable value)) ∙ fold-roll-Piece PieceTree piece_step (Piece-F.Set variable value)

pub put_tree : (array : ArrayId) (subscripts : Vec Pure Global) (value : Pure) (at : Place) → piece_of (p.Put array subscripts value at) ≡ tree.put array (pures_of subscripts.items) (pure_of value) at
put_tree array subscripts value at = ap piece_of (sym (p.rolls-Put array subscripts value at)) ∙ fold-roll-Piece PieceTree piece_step (Piece-F.Put array subscripts value at)

pub fork_tree : (test : Pure) (left right : Vec Piece Global) (end : Point) → piece_of (p.Fork test left right end) ≡ tree.fork (pure_of test) (pieces_of left.items) (pieces_of right.items) end
fork_tree test left right end = ap piece_of (sym (p.rolls-Fork test left right end)) ∙ fold-roll-Piece PieceTree piece_step (Piece-F.Fork test left right end)

pub repeat_tree : (id : LoopId) (post : Bool) (before : Vec Piece Global) (test : Pure) (body step : Vec Piece Global) (end : Point)
    → piece_of (p.Repeat id post before test body step end) ≡ tree.repeat_ id post (pieces_of before.items) (pure_of test) (pieces_of body.items) (pieces_of step.items) end
repeat_tree id post before test body step end = ap piece_of (sym (p.rolls-Repeat id post before test body step end)) ∙ fold-roll-Piece PieceTree piece_step (Piece-F.Repeat id post before test body step end)

pub pick_tree : (test : Pure) (labels : Vec Label Global) (body : Vec Piece Global) (end : Point) → piece_of (p.Pick test labels body end) ≡ tree.pick (pure_of test) labels.items (pieces_of body.items) end
pick_tree test labels body end = ap piece_of (sym (p.rolls-Pick test labels body end)) ∙ fold-roll-Piece PieceTree piece_step (Piece-F.Pick test labels body end)

pub break_tree : piece_of p.Break ≡ tree.break_
break_tree = ap piece_of (sym p.rolls-Break) ∙ fold-roll-Piece PieceTree piece_step Piece-F.Break

pub next_tree : piece_of p.Next ≡ tree.next_
next_tree = ap piece_of (sym p.rolls-Next) ∙ fold-roll-Piece PieceTree piece_step Piece-F.Next

pub leave_tree : (call : CallId) → piece_of (p.Leave call) ≡ tree.leave call
leave_tree call = ap piece_of (sym (p.rolls-Leave call)) ∙ fold-roll-Piece PieceTree piece_step (Piece-F.Leave call)

pub land_tree : (call : CallId) (end : Point) → piece_of (p.Land call end) ≡ tree.land call end
land_tree call end = ap piece_of (sym (p.rolls-Land call end)) ∙ fold-roll-Piece PieceTree piece_step (Piece-F.Land call end)

pub mark_tree : (point : Point) → piece_of (p.Mark point) ≡ tree.mark point
mark_tree point = ap piece_of (sym (p.rolls-Mark point)) ∙ fold-roll-Piece PieceTree piece_step (Piece-F.Mark point)
