-- The points of a small program, and that its blocks begin at them.
use Rattle.std.proofs.Common.{◌≡◌, ℕ, [], ◌∷◌, refl}
use Rattle.hls_base.specs.declared.point.Point.{Point}
use Rattle.hls_base.specs.declared.point.PointKind.{PointKind}
use Rattle.hls_base.specs.declared.point.PointKind.TheVariants as point
use Rattle.hls_base.specs.declared.number.VarId.{VarId}
use Rattle.c_token.specs.declared.ctype.CType.TheVariants as type
use Rattle.c_value.specs.Values.{int_type}
use Rattle.pieces.specs.declared.piece.CallId.{CallId}
use Rattle.pieces.specs.Trees as tree
use Rattle.pieces.specs.Trees.{PureTree, PieceTrees, piece_row}
use Rattle.pass_runs.specs.LowerRuns.Holding.{none_hidden}
use Rattle.expanded_pieces.specs.BegunPieces.Beginning.{BeginsWell}
use Rattle.expanded_pieces.specs.BegunPieces.Points.{begin_points, dropped_points, begins_at, MarksDiffer}

abbrev outer : ℕ → PointKind → Point
outer line kind = record { path = []; at = record { line = line; column = 1; part = 0 }; kind = kind }

abbrev inner : ℕ → PointKind → Point
inner line kind = record { path = record { line = 2; column = 1; part = 0 } ∷ []; at = record { line = line; column = 1; part = 0 }; kind = kind }

abbrev id : ℕ → VarId
id n = record { 0 = n }

abbrev v : ℕ → PureTree
v n = tree.variable (id n) int_type

abbrev one : PureTree
one = tree.number 1 int_type

abbrev call : CallId
call = record { 0 = 1 }

-- v0 && f(), where f is: if (v0) return 1; return v0;
abbrev program : PieceTrees
program =
    piece_row
    (tree.mark (outer 1 point.Begin)
    ∷ tree.fork (v 0)
    (piece_row
    (tree.mark (outer 2 point.Arm)
    ∷ tree.mark (inner 5 point.Begin)
    ∷ tree.fork (v 0) (piece_row (tree.mark (inner 6 point.Arm) ∷ tree.set (id 2) one ∷ tree.leave call ∷ [])) tree.no_pieces (inner 6 point.End)
    ∷ tree.set (id 2) (v 0)
    ∷ tree.land call (inner 5 point.End)
    ∷ tree.set (id 1) (tree.cast type.Bool (v 2))
    ∷ []))
    (piece_row (tree.set (id 1) (tree.number 0 int_type) ∷ [])) (outer 2 point.End)
    ∷ tree.set (id 3) (v 1)
    ∷ tree.mark (outer 1 point.End)
    ∷ [])

begun : begin_points program ≡ outer 1 point.Begin ∷ outer 2 point.Arm ∷ inner 6 point.Arm ∷ inner 6 point.End ∷ inner 5 point.End ∷ outer 2 point.End ∷ []
begun = refl

dropped : dropped_points program ≡ inner 5 point.Begin ∷ outer 1 point.End ∷ []
dropped = refl

differ : MarksDiffer program
differ = (refl, (refl, tt))

-- The variable of `&&` is set before the fork, and the call, which returns early, does not read it.
well : BeginsWell (begins_at program) [] none_hidden program
well = (refl, ((refl, refl, ((refl, (refl, ((refl, refl, (refl, (tt, (tt, tt)))), (refl, (refl, (refl, tt)))))), (tt, (tt, (((tt, (tt, (refl, tt))), tt), (tt, (tt, (tt, tt)))))), refl)), (refl, (refl, tt))))
