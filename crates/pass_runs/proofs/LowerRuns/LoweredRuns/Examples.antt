-- A program with each kind of piece suits.
use Rattle.std.proofs.Common.{ℕ, Bool, false, not, ◌||◌, refl, arith, [], ◌∷◌, pos, Some, None}
use Rattle.std.specs.Prelude.{◌==◌}
use Rattle.hls_base.specs.declared.point.Point.{Point}
use Rattle.hls_base.specs.declared.point.PointKind.{PointKind}
use Rattle.hls_base.specs.declared.point.PointKind.TheVariants as point
use Rattle.c_value.specs.Values.{int_type}
use Rattle.pieces.specs.declared.piece.CallId.{CallId}
use Rattle.pieces.specs.Trees as tree
use Rattle.pieces.specs.Trees.{PureTree, PieceTree, PieceTrees, piece_row}
use Rattle.c_meaning.specs.PieceRuns.Pieces.{Frame}
use Rattle.pass_runs.specs.LowerRuns.Suits.{Suits}
use Rattle.pass_runs.proofs.LowerRuns.OperatorWords.Resizing.{conversions_agree}
use Rattle.pass_runs.specs.LowerRuns.LoweredTrees.Fitting.{PiecesFit}
use Rattle.pass_runs.specs.LowerRuns.Holding.{none_hidden}
use Rattle.pass_runs.specs.LowerRuns.Suiting.{shut, with_hidden, PieceSuits, BeginSuits}

abbrev at : ℕ → PointKind → Point
at n kind = record { path = []; at = record { line = 1; column = n; part = 0 }; kind = kind }

abbrev mark : ℕ → PointKind → PieceTree
mark n kind = tree.mark (at n kind)

abbrev set : ℕ → PureTree → PieceTree
set n value = tree.set (record { 0 = n }) value

abbrev v : ℕ → PureTree
v n = tree.variable (record { 0 = n }) int_type

abbrev number : ℕ → PureTree
number n = tree.number n int_type

abbrev call : CallId
call = record { 0 = 1 }

abbrev frame : Frame
frame = record { variables = int_type ∷ int_type ∷ []; arrays = [] }

-- all points but those of the marks in columns 3, 7 and 15
abbrev kept : Point → Bool
kept p = not (p.at.column == 3 || (p.at.column == 7 || p.at.column == 15))

-- a `&&` whose second operand is in a branch, a loop with a step, a switch that falls through, and a return out of a call
abbrev junction_piece : PieceTree
junction_piece = tree.fork (v 0) (piece_row (mark 2 point.Arm ∷ mark 3 point.Begin ∷ set 1 (number 1) ∷ [])) (piece_row (set 1 (number 0) ∷ [])) (at 4 point.End)

abbrev loop_piece : PieceTree
loop_piece = tree.repeat_ (record { 0 = 0 }) false (piece_row (mark 5 point.Test ∷ [])) (v 1) (piece_row (mark 6 point.Body ∷ set 1 (v 0) ∷ [])) (piece_row (mark 7 point.Step ∷ set 0 (number 0) ∷ [])) (at 8 point.End)

abbrev switch_piece : PieceTree
switch_piece = tree.pick (v 0) (record { value = Some 3; target = 0 } ∷ record { value = None; target = 2 } ∷ []) (piece_row (mark 9 point.Arm ∷ set 1 (v 0) ∷ mark 10 point.Arm ∷ tree.break_ ∷ set 0 (number 1) ∷ [])) (at 11 point.End)

abbrev returning_piece : PieceTree
returning_piece = tree.fork (v 1) (piece_row (mark 12 point.Arm ∷ tree.leave call ∷ [])) (piece_row []) (at 13 point.End)

abbrev pieces : PieceTrees
pieces = piece_row (mark 1 point.Begin ∷ set 0 (number 3) ∷ junction_piece ∷ loop_piece ∷ switch_piece ∷ returning_piece ∷ tree.land call (at 14 point.End) ∷ mark 15 point.End ∷ [])

module _ (hidden : ℕ → Bool) where
  number_suits0 : Suits frame hidden (number 0)
  number_suits0 = (refl, record { number = conversions_agree.number int_type (pos 0); word = refl })

  number_suits1 : Suits frame hidden (number 1)
  number_suits1 = (refl, record { number = conversions_agree.number int_type (pos 1); word = refl })

  number_suits3 : Suits frame hidden (number 3)
  number_suits3 = (refl, record { number = conversions_agree.number int_type (pos 3); word = refl })

fits : PiecesFit shut pieces
fits = (tt, (tt, (((tt, (tt, (tt, tt))), (tt, tt)), (((tt, tt), (tt, (tt, tt)), (tt, (tt, tt)), tt), ((tt, (tt, (tt, (refl, (tt, tt))))), (((tt, (refl, tt)), tt), (tt, (tt, tt))))))))

suits : BeginSuits frame kept [] none_hidden pieces
suits =
    let variable_0 : Suits frame none_hidden (v 0) = (refl, refl, refl) in
    let variable_1 : Suits frame none_hidden (v 1) = (refl, refl, refl) in
    let junction : PieceSuits frame kept (1 ∷ []) none_hidden (junction_piece) =
    (variable_0, refl, ((int_type, refl), number_suits0 none_hidden, (refl, (refl, (((int_type, refl), number_suits1 (with_hidden none_hidden 1)), tt))), (tt, (tt, (tt, tt))), refl)) in
    let loop : PieceSuits frame kept (1 ∷ []) none_hidden (loop_piece) =
    (variable_1, refl, (refl, tt), (refl, (((int_type, refl), variable_0), tt)), ((refl, (((int_type, refl), number_suits0 none_hidden), tt)), (tt, (tt, tt)))) in
    let switch : PieceSuits frame kept (1 ∷ []) none_hidden (switch_piece) =
    (variable_0, refl, (omega arith, (omega arith, tt)), (refl, tt, (((int_type, refl), variable_0), tt, (refl, tt, (tt, tt, (((int_type, refl), number_suits1 none_hidden), tt, tt)))))) in
    let returning : PieceSuits frame kept (1 ∷ []) none_hidden (returning_piece) = (variable_1, refl, (refl, (tt, tt))) in
    (refl, (((int_type, refl), number_suits3 none_hidden), (junction, (loop, (switch, (returning, (refl, (refl, tt))))))))
