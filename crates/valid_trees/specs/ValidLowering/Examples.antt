-- Small pieces that are proper, and ones that are not.
use Rattle.std.specs.Prelude.{ℕ, true, false, List, [], ◌∷◌, Some, None, refl}
use Rattle.std.proofs.Common.{arith}
use Rattle.hls_base.specs.declared.place.Place.{Place}
use Rattle.hls_base.specs.declared.point.PointKind.TheVariants as point
use Rattle.c_token.specs.declared.ctype.CType.{CType}
use Rattle.c_tree.specs.declared.operator.Binary.TheVariants as b
use Rattle.c_value.specs.Values.{integer, int_type}
use Rattle.pieces.specs.Trees as tree
use Rattle.pieces.specs.Trees.{PureTree, PieceTree, row}
use Rattle.pieces.specs.Program.{ArrayTree}
use Rattle.valid_trees.specs.ValidLowering.Proper.{PureIsProper, PieceIsProper}

abbrev place : Place
place = record { line = 1; column = 1; part = 0 }

abbrev v : ℕ → PureTree
v n = tree.variable (record { 0 = n }) int_type

abbrev array : List ℕ → ArrayTree
array lengths = record { name = []; kind = int_type; lengths = lengths; table = None; initial = None; host = false }

-- an array of two dimensions, and a table of one
abbrev arrays : List ArrayTree
arrays = array (2 ∷ 3 ∷ []) ∷ record (array (4 ∷ [])) { table = Some (1 ∷ 2 ∷ 3 ∷ 4 ∷ []) } ∷ []

abbrev put : ℕ → List PureTree → PureTree → PieceTree
put n subscripts value = tree.put (record { 0 = n }) (row subscripts) value place

abbrev product : CType → PureTree → PureTree → PureTree
product k x y = tree.binary b.Mul x y k place

-- a[v0][v1] = t[v0] * v1;
scaled : PieceIsProper arrays (put 0 (v 0 ∷ v 1 ∷ []) (product int_type (tree.element (record { 0 = 1 }) (row (v 0 ∷ [])) int_type place) (v 1)))
scaled = (refl, refl, (tt, (tt, tt)), (refl, (refl, (tt, tt)), tt))

-- a[v0] = v1;
too_few : PieceIsProper arrays (put 0 (v 0 ∷ []) (v 1)) → ⊥
too_few h = absurd (omega (arith, h.1))

-- t[v0] = v1;
changed : PieceIsProper arrays (put 1 (v 0 ∷ []) (v 1)) → ⊥
changed h = cc

-- A product of chars is one of ints.
of_chars : PureIsProper arrays (product (integer true 8) (v 0) (v 1)) → ⊥
of_chars h = cc

-- switch (v0) { case 7: }
named : PieceIsProper arrays (tree.pick (v 0) (record { value = Some 7; target = 0 } ∷ []) tree.no_pieces (record { path = []; at = place; kind = point.End }))
named = ((omega arith, tt), tt, tt)
