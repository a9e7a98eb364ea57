-- A small program, its points, and which of them stay.
use Rattle.std.specs.Prelude.{ℕ, ◌≡◌, Bool, true, false, List, [], ◌∷◌, map, refl}
use Rattle.hls_base.specs.declared.point.Point.{Point}
use Rattle.hls_base.specs.declared.point.PointKind.{PointKind}
use Rattle.hls_base.specs.declared.point.PointKind.TheVariants as point
use Rattle.hls_base.specs.declared.number.VarId.{VarId}
use Rattle.c_tree.specs.declared.operator.Binary.TheVariants as b
use Rattle.c_value.specs.Values.{int_type}
use Rattle.pieces.specs.Trees as tree
use Rattle.pieces.specs.Trees.{PureTree, PieceTree, PieceTrees, piece_row}
use Rattle.ir_core.specs.Trees.{SequenceTree}
use Rattle.passes.specs.Lowering.Expressions.{joined}
use Rattle.passes.specs.Lowering.Blocks.{Scope, begun}
use Rattle.passes.specs.Lowering.{last, lowered}
use Rattle.passes.specs.Numbering.{numbered_sequence}
use Rattle.pass_runs.specs.ConvertRuns.ConvertedTrees.Points.{live_points, stays_in}
use Rattle.pass_runs.specs.ConvertRuns.LoweredConversions.Suiting.{widths_of, PiecesSuit, NoCallEnds}
use Rattle.pass_runs.specs.ConvertRuns.LoweredConversions.PiecePoints.{points_in}

abbrev at : ℕ → PointKind → Point
at line kind = record { path = []; at = record { line = line; column = 1; part = 0 }; kind = kind }

abbrev id : ℕ → VarId
id n = record { 0 = n }

abbrev v : ℕ → PureTree
v n = tree.variable (id n) int_type

abbrev sum : PureTree → PureTree → PureTree
sum x y = tree.binary b.Add x y int_type (record { line = 9; column = 1; part = 0 })

abbrev less : PureTree → PureTree → PureTree
less x y = tree.binary b.Lt x y int_type (record { line = 9; column = 2; part = 0 })

-- three variables of type int
abbrev scope : Scope
scope = record { variables = int_type ∷ int_type ∷ int_type ∷ []; arrays = [] }

-- if (v2 < v0) v2 = v2 + v0; v0 = v0 + v1;
abbrev body : PieceTrees
body =
    piece_row
    (tree.mark (at 2 point.Body) ∷ tree.fork (less (v 2) (v 0)) (piece_row (tree.mark (at 3 point.Arm) ∷ tree.set (id 2) (sum (v 2) (v 0)) ∷ [])) tree.no_pieces (at 3 point.End) ∷ tree.set (id 0) (sum (v 0) (v 1)) ∷ [])

-- while (v0 < v1) with this body
abbrev program : PieceTrees
program = piece_row (tree.repeat_ (record { 0 = 0 }) false (piece_row (tree.mark (at 2 point.Test) ∷ [])) (less (v 0) (v 1)) body tree.no_pieces (at 2 point.End) ∷ [])

points : points_in program ≡ at 2 point.Test ∷ at 2 point.Body ∷ at 3 point.Arm ∷ at 3 point.End ∷ at 2 point.End ∷ []
points = refl

abbrev blocks : SequenceTree
blocks = lowered scope program last (begun (at 1 point.Begin))

same_points : live_points blocks ≡ at 1 point.Begin ∷ points_in program
same_points = refl

suits : PiecesSuit scope program
suits = (((tt, tt), (refl, refl), (tt, (((refl, refl), (tt, ((refl, refl), tt)), tt), ((refl, refl), tt))), tt), tt)

no_call : NoCallEnds body
no_call = (tt, ((((tt, (tt, tt)), tt)), (tt, tt)))

-- Where loops are overlapped, the point of the body stays, and those of the test and of the fork do not.
abbrev stay : Bool → List Bool
stay loops = map (stays_in (record { widths = widths_of scope; loops = loops }) (numbered_sequence (record { widths = widths_of scope; apart = false }) blocks)) (live_points blocks)

overlapped : stay true ≡ true ∷ false ∷ true ∷ false ∷ false ∷ true ∷ []
unfolding joined
overlapped = refl

-- Else the test's stays too.
in_order : stay false ≡ true ∷ true ∷ true ∷ false ∷ false ∷ true ∷ []
unfolding joined
in_order = refl
