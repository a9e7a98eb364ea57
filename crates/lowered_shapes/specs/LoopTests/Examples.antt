-- Two tests of loops, and their blocks.
use Rattle.std.specs.Prelude.{ℕ, ◌≡◌, true, List, [], ◌∷◌, refl}
use Rattle.hls_base.specs.declared.place.Place.{Place}
use Rattle.hls_base.specs.declared.point.Point.{Point}
use Rattle.hls_base.specs.declared.point.PointKind.TheVariants as point
use Rattle.c_tree.specs.declared.operator.Binary.{Binary}
use Rattle.c_tree.specs.declared.operator.Binary.TheVariants as b
use Rattle.c_value.specs.Values.{int_type}
use Rattle.pieces.specs.Trees as tree
use Rattle.pieces.specs.Trees.{PureTree}
use Rattle.ir_core.specs.declared.body.OpKind.TheVariants as o
use Rattle.ir_core.specs.declared.body.Operand.{Operand}
use Rattle.ir_core.specs.Bodies.{OpTree}
use Rattle.ir_core.specs.Trees.{branch, BlockTree}
use Rattle.passes.specs.Lowering.Operations.{constant, entry_value, result_of, plain}
use Rattle.passes.specs.Lowering.Expressions.{junction, joined}
use Rattle.passes.specs.Numbering.{Scope}
use Rattle.passes.specs.Conversion.Overlapping.{is_test}
use Rattle.lowered_shapes.specs.LoopTests.{test_block}

abbrev place : Place
place = record { line = 1; column = 1; part = 0 }

abbrev here : Point
here = record { path = []; at = place; kind = point.Test }

abbrev number : ℕ → PureTree
number n = tree.number n int_type

abbrev on_ints : Binary → PureTree → PureTree → PureTree
on_ints op x y = tree.binary op x y int_type place

abbrev v : ℕ → PureTree
v n = tree.variable (record { 0 = n }) int_type

abbrev entry : ℕ → Operand
entry n = entry_value (record { 0 = n })

-- two variables of type int
abbrev scope : Scope
scope = record { widths = 32 ∷ 32 ∷ []; apart = true }

abbrev truth_of : Operand → OpTree
truth_of x = plain o.Ne 32 (x ∷ constant 0 ∷ [])

abbrev both : Operand → Operand → OpTree
both x y = plain o.And 1 (x ∷ y ∷ [])

abbrev block : List OpTree → Operand → BlockTree
block ops test = record { point = here; ops = ops; outs = []; exit = branch test }

-- v0 && v1 != 6 / 3
abbrev quotient_compared : PureTree
quotient_compared = on_ints b.LogAnd (v 0) (on_ints b.Ne (v 1) (on_ints b.Div (number 6) (number 3)))

-- The quotient is computed, and the last operation is the test.
last_is_test : test_block scope quotient_compared here ≡ block (truth_of (entry 0) ∷ plain o.Ne 32 (entry 1 ∷ constant 2 ∷ []) ∷ both (result_of 0) (result_of 1) ∷ []) (result_of 2)
unfolding junction joined
last_is_test = refl

-- v0 && (1 && 6 / 3) + (0 && 8 / 4)
abbrev pub constant_conditions : PureTree
constant_conditions =
    on_ints b.LogAnd (v 0)
    (on_ints b.Add (on_ints b.LogAnd (number 1) (on_ints b.Div (number 6) (number 3))) (on_ints b.LogAnd (number 0) (on_ints b.Div (number 8) (number 4))))

-- The quotients are computed, but the bits of their guards stay; the first one is the test too, and the second one stands behind it.
another_is_last : test_block scope constant_conditions here ≡ block (truth_of (entry 0) ∷ both (result_of 0) (constant 1) ∷ both (result_of 0) (constant 0) ∷ []) (result_of 1)
unfolding junction joined
another_is_last = refl

-- It needs no guard.
is_a_test : is_test (test_block scope constant_conditions here) (result_of 1) ≡ true
unfolding junction joined
is_a_test = refl
