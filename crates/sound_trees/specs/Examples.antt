-- Small pieces whose subscripts fit, and ones whose subscripts do not.
use Rattle.std.specs.Prelude.{ℕ, false, List, [], ◌∷◌, length, None, refl}
use Rattle.std.proofs.Common.{ap, arith}
use Rattle.hls_base.specs.declared.place.Place.{Place}
use Rattle.c_value.specs.Values.{int_type}
use Rattle.pieces.specs.Trees as tree
use Rattle.pieces.specs.Trees.{PureTree, PieceTree, row}
use Rattle.pieces.specs.Program.{ArrayTree}
use Rattle.c_meaning.specs.PieceRuns.Values.{lengths_in}
use Rattle.sound_trees.specs.Subscripts.{PieceSubscriptsFit}

abbrev place : Place
place = record { line = 1; column = 1; part = 0 }

abbrev v : ℕ → PureTree
v n = tree.variable (record { 0 = n }) int_type

abbrev array : List ℕ → ArrayTree
array lengths = record { name = []; kind = int_type; lengths = lengths; table = None; initial = None; host = false }

-- arrays of two dimensions and of one
abbrev arrays : List ArrayTree
arrays = array (2 ∷ 3 ∷ []) ∷ array (4 ∷ []) ∷ []

abbrev put : ℕ → List PureTree → PureTree → PieceTree
put n subscripts value = tree.put (record { 0 = n }) (row subscripts) value place

abbrev element : ℕ → List PureTree → PureTree
element n subscripts = tree.element (record { 0 = n }) (row subscripts) int_type place

-- a[v0][v1] = b[v0];
all_there : PieceSubscriptsFit arrays (put 0 (v 0 ∷ v 1 ∷ []) (element 1 (v 0 ∷ [])))
all_there = ((array (2 ∷ 3 ∷ []), refl, refl), (tt, (tt, tt)), ((array (4 ∷ []), refl, refl), (tt, tt)))

-- a[v0] = v1;
too_few : PieceSubscriptsFit arrays (put 0 (v 0 ∷ []) (v 1)) → ⊥
too_few h = absurd (omega (arith, ap (λ q. length (lengths_in q)) h.0.1, h.0.2))

-- v0 = b[v0][v1];
too_many : PieceSubscriptsFit arrays (tree.set (record { 0 = 0 }) (element 1 (v 0 ∷ v 1 ∷ []))) → ⊥
too_many h = absurd (omega (arith, ap (λ q. length (lengths_in q)) h.0.1, h.0.2))

-- an array that is not there
missing : PieceSubscriptsFit arrays (put 2 [] (v 1)) → ⊥
missing h = cc
