-- Small pieces and statements with labels that fit, and ones with labels that do not.
use Rattle.std.specs.Prelude.{ℕ, true, [], ◌∷◌, Some, None, refl}
use Rattle.std.proofs.Common.{arith}
use Rattle.hls_base.specs.declared.place.Place.{Place}
use Rattle.hls_base.specs.declared.point.PointKind.TheVariants as point
use Rattle.c_token.specs.declared.ctype.CType.{CType}
use Rattle.c_tree.specs.declared.operator.Binary.TheVariants as b
use Rattle.c_value.specs.Values.{integer, int_type, bool_type}
use Rattle.pieces.specs.Resolved.Core as core
use Rattle.pieces.specs.Resolved.Core.{CoreStmtTree, CoreStmtTrees}
use Rattle.pieces.specs.Trees as tree
use Rattle.pieces.specs.Trees.{PureTree, PieceTree}
use Rattle.typed_pieces.specs.Operators.{PieceOperates}
use Rattle.typed_pieces.specs.Types.{CasesFit}

abbrev place : Place
place = record { line = 1; column = 1; part = 0 }

-- ---- statements

abbrev label : ℕ → CoreStmtTree
label n = core.case_ (Some n) core.break_ place

-- switch ((char) 1) { case n: break; default: break; }
abbrev of_char : ℕ → CoreStmtTree
of_char n = core.switch_ (core.cast (integer true 8) (core.number 1 int_type)) [] (core.more_stmts (label n) (core.more_stmts (core.case_ None core.break_ place) core.no_stmt)) place

-- Labels of a char are words of int.
wide : CasesFit bool_type (of_char 4294967295)
wide = ((omega arith, tt), ((tt, tt), tt))

too_wide : CasesFit bool_type (of_char 4294967296) → ⊥
too_wide h = absurd (let lt = h.0.0 in omega (arith, lt))

-- ---- pieces

abbrev v : ℕ → PureTree
v n = tree.variable (record { 0 = n }) int_type

abbrev product : CType → PureTree
product k = tree.binary b.Mul (v 0) (v 1) k place

-- switch (v0 * v1) { case n: }
abbrev picked : CType → ℕ → PieceTree
picked k n = tree.pick (product k) (record { value = Some n; target = 0 } ∷ []) tree.no_pieces (record { path = []; at = place; kind = point.End })

of_int : PieceOperates (picked int_type 4294967295)
of_int = ((omega arith, tt), (refl, tt, tt), tt)

-- A product of chars is one of ints.
of_chars : PieceOperates (picked (integer true 8) 7) → ⊥
of_chars h = cc
