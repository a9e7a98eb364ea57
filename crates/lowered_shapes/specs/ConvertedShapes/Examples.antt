-- Two small loops that become loop nodes: one with its fork merged, and one whose test has conditions of constants alone.
use Rattle.std.specs.Prelude.{ℕ, true, false, [], ◌∷◌, refl}
use Rattle.hls_base.specs.declared.point.Point.{Point}
use Rattle.hls_base.specs.declared.point.PointKind.{PointKind}
use Rattle.hls_base.specs.declared.point.PointKind.TheVariants as point
use Rattle.hls_base.specs.declared.number.VarId.{VarId}
use Rattle.c_tree.specs.declared.operator.Binary.TheVariants as b
use Rattle.c_value.specs.Values.{int_type}
use Rattle.pieces.specs.Trees as tree
use Rattle.pieces.specs.Trees.{PureTree, PieceTrees, piece_row}
use Rattle.ir_core.specs.Trees.{SequenceTree}
use Rattle.passes.specs.Lowering.Expressions.{joined, junction}
use Rattle.passes.specs.Lowering.Blocks.{Scope, begun}
use Rattle.passes.specs.Lowering.{last, lowered}
use Rattle.passes.specs.Numbering.{numbered_sequence}
use Rattle.passes.specs.Conversion as c
use Rattle.lowered_shapes.specs.LoopTests.Examples.{constant_conditions}
use Rattle.lowered_shapes.specs.ConvertedShapes.Converting.{AllConvert}
use Rattle.lowered_shapes.specs.ConvertedShapes.Straight.{NoStraightCallEnds}

abbrev at : ℕ → PointKind → Point
at line kind = record { path = []; at = record { line = line; column = 1; part = 0 }; kind = kind }

abbrev id : ℕ → VarId
id n = record { 0 = n }

abbrev v : ℕ → PureTree
v n = tree.variable (id n) int_type

abbrev sum : PureTree → PureTree → PureTree
sum x y = tree.binary b.Add x y int_type (record { line = 9; column = 1; part = 0 })

abbrev less : PureTree → PureTree → PureTree
less x y = tree.binary b.Lt x y int_type (record { line = 9; column = 2; part = 0 })

-- three variables of type int
abbrev scope : Scope
scope = record { variables = int_type ∷ int_type ∷ int_type ∷ []; arrays = [] }

-- if (v2 < v0) v2 = v2 + v0; v0 = v0 + v1;
abbrev body : PieceTrees
body =
    piece_row
    (tree.mark (at 2 point.Body) ∷ tree.fork (less (v 2) (v 0)) (piece_row (tree.mark (at 3 point.Arm) ∷ tree.set (id 2) (sum (v 2) (v 0)) ∷ [])) tree.no_pieces (at 3 point.End) ∷ tree.set (id 0) (sum (v 0) (v 1)) ∷ [])

-- while (test) with this body
abbrev loop_of : PureTree → PieceTrees → PieceTrees
loop_of test pieces = piece_row (tree.repeat_ (record { 0 = 0 }) false (piece_row (tree.mark (at 2 point.Test) ∷ [])) test pieces tree.no_pieces (at 2 point.End) ∷ [])

abbrev numbered : PieceTrees → SequenceTree
numbered pieces = numbered_sequence (record { widths = 32 ∷ 32 ∷ 32 ∷ []; apart = false }) (lowered scope pieces last (begun (at 1 point.Begin)))

abbrev conversion : c.Scope
conversion = record { widths = 32 ∷ 32 ∷ 32 ∷ []; loops = true }

calls_end_apart : NoStraightCallEnds (loop_of (less (v 0) (v 1)) body)
calls_end_apart = ((λ e. ((tt, tt), (tt, ((((tt, (tt, tt)), tt)), (tt, tt))), tt), (tt, tt), (tt, ((λ e. ((tt, (tt, tt)), tt), (tt, (tt, tt)), tt), (tt, tt))), tt), tt)

-- while (v0 < v1) { .. }
all_convert : AllConvert conversion (numbered (loop_of (less (v 0) (v 1)) body))
unfolding joined
all_convert = ((λ e. refl, tt, ((λ e. refl, tt, tt), tt), tt), tt)

-- while (v0 && (1 && 6 / 3) + (0 && 8 / 4)) v0 = v1;
constant_conditions_convert : AllConvert conversion (numbered (loop_of constant_conditions (piece_row (tree.mark (at 2 point.Body) ∷ tree.set (id 0) (v 1) ∷ []))))
unfolding joined junction
constant_conditions_convert = ((λ e. refl, tt, tt, tt), tt)
