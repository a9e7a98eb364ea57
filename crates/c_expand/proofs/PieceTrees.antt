-- The trees of pieces, an equation for each variant that a proof names.
use Rattle.std.proofs.Common.{◌≡◌, Bool, Vec, Global, sym, ap, ◌∙◌}
use Rattle.hls_base.specs.declared.point.Point.{Point}
use Rattle.hls_base.specs.declared.number.LoopId.{LoopId}
use Rattle.pieces.specs.declared.piece.CallId.{CallId}
use Rattle.pieces.specs.declared.piece.Label.{Label}
use Rattle.pieces.specs.declared.piece.Piece.{Piece}
use Rattle.pieces.specs.declared.piece.Piece.TheVariants as p
use Rattle.pieces.specs.declared.piece.Piece.TheOpen.{Piece-F}
use Rattle.pieces.specs.declared.piece.Piece.TheFolds.{fold-roll-Piece}
use Rattle.pieces.specs.declared.pure_expr.Pure.{Pure}
use Rattle.pieces.specs.Trees as tree
use Rattle.pieces.specs.Trees.{PieceTree}
use Rattle.pieces.specs.View.{pure_of, piece_of, piece_step, pieces_of}

pub fork_tree : (test own : Pure) (first second : Vec Piece Global) (end at : Point) → test ≡ own → end ≡ at
    → piece_of (p.Fork test first second end) ≡ tree.fork (pure_of own) (pieces_of first.items) (pieces_of second.items) at
fork_tree test own first second end at s e =
    ap piece_of (sym (p.rolls-Fork test first second end)) ∙ (fold-roll-Piece PieceTree piece_step (Piece-F.Fork test first second end)
    ∙ (ap (tree.fork (pure_of test) (pieces_of first.items) (pieces_of second.items)) e ∙ ap (λ (x : Pure). tree.fork (pure_of x) (pieces_of first.items) (pieces_of second.items) at) s))

pub repeat_tree : (id : LoopId) (post : Bool) (before : Vec Piece Global) (test own : Pure) (body step : Vec Piece Global) (end at : Point) → test ≡ own → end ≡ at
    → piece_of (p.Repeat id post before test body step end) ≡ tree.repeat_ id post (pieces_of before.items) (pure_of own) (pieces_of body.items) (pieces_of step.items) at
repeat_tree id post before test own body step end at s e =
    ap piece_of (sym (p.rolls-Repeat id post before test body step end)) ∙ (fold-roll-Piece PieceTree piece_step (Piece-F.Repeat id post before test body step end)
    ∙ (ap (tree.repeat_ id post (pieces_of before.items) (pure_of test) (pieces_of body.items) (pieces_of step.items)) e
    ∙ ap (λ (x : Pure). tree.repeat_ id post (pieces_of before.items) (pure_of x) (pieces_of body.items) (pieces_of step.items) at) s))

pub pick_tree : (test own : Pure) (labels : Vec Label Global) (body : Vec Piece Global) (end at : Point) → test ≡ own → end ≡ at
    → piece_of (p.Pick test labels body end) ≡ tree.pick (pure_of own) labels.items (pieces_of body.items) at
pick_tree test own labels body end at s e =
    ap piece_of (sym (p.rolls-Pick test labels body end)) ∙ (fold-roll-Piece PieceTree piece_step (Piece-F.Pick test labels body end)
    ∙ (ap (tree.pick (pure_of test) labels.items (pieces_of body.items)) e ∙ ap (λ (x : Pure). tree.pick (pure_of x) labels.items (pieces_of body.items) at) s))

pub break_piece : piece_of p.Break ≡ tree.break_
break_piece = ap piece_of (sym p.rolls-Break) ∙ fold-roll-Piece PieceTree piece_step Piece-F.Break

pub next_piece : piece_of p.Next ≡ tree.next_
next_piece = ap piece_of (sym p.rolls-Next) ∙ fold-roll-Piece PieceTree piece_step Piece-F.Next

pub leave_piece : (call : CallId) → piece_of (p.Leave call) ≡ tree.leave call
leave_piece call = ap piece_of (sym (p.rolls-Leave call)) ∙ fold-roll-Piece PieceTree piece_step (Piece-F.Leave call)
