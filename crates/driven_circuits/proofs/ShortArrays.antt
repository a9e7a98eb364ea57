-- The arrays that a module shows are no longer than arrays can be.
use Rattle.std.proofs.Common.{◌≡◌, ℕ, zero, suc, ◌^◌, ◌<◌, ◌≤◌, Bool, true, false, List, [], ◌∷◌, map, length, Option, Some, None, if◌then◌else◌, refl, ap, subst, arith}
use Rattle.std.specs.Prelude.{nat_le}
use Rattle.std.specs.List.{All}
use Rattle.std.proofs.lemmas.Bool.{leb-true}
use Rattle.std.proofs.lemmas.List.Elements.{All-nil, All-cons}
use Rattle.std.proofs.lemmas.Option.{same_Some}
use Rattle.hls_base.specs.ArrayAddress.{addresses, element_count}
use Rattle.c_tree.specs.Tree.{ParamTree, FunctionTree}
use Rattle.c_meaning.specs.Checks.Lengths.{usable, all_usable, lengths_of}
use Rattle.c_meaning.specs.Store.{within_limits}
use Rattle.c_meaning.specs.Run.{is_array_parameter}
use Rattle.rtl_core.specs.Netlist.{Netlist}
use Rattle.rtl_core.specs.Interface.{ArrayShape, Interface, ready_of, done_of}
use Rattle.cosim_levels.specs.declared.pins.drive.Shown.{Shown}
use Rattle.cosim_levels.specs.Pins.Host.{Driven, asked, waited, first_high}
use Rattle.cosim_levels.specs.Pins.ModuleRun.{read_words, behind_reads, read_arrays, begun, started, shown_from, shown_when, run_when, module_run}
use Rattle.cosim_levels.specs.Pins.FunctionPins.{array_shape, array_shapes, interface_of}
use Rattle.driven_circuits.proofs.Places.{address_count}

-- ---- how many elements the arrays of a function have

limited : (q : Option (List ℕ)) → element_count (within_limits q) ≤ 65536
limited None = omega arith
limited (Some ns) = either (nat_le (element_count ns) 65536) refl
  where
    either : (b : Bool) → nat_le (element_count ns) 65536 ≡ b → element_count (if b then ns else []) ≤ 65536
    either true e = leb-true (element_count ns) 65536 e
    either false e = omega arith

abbrev HaveFewElements : List ArrayShape → Type 0
HaveFewElements [] = Unit {0}
HaveFewElements (a ∷ arrays) = (element_count a.dims ≤ 65536) × HaveFewElements arrays

shapes_few : (ps : List ParamTree) → HaveFewElements (array_shapes ps)
shapes_few [] = tt
shapes_few (p ∷ ps) = by (is_array_parameter p) (shapes_few ps)
  where
    by : (array : Bool) → HaveFewElements (array_shapes ps) → HaveFewElements (if array then array_shape p ∷ array_shapes ps else array_shapes ps)
    by true others = (limited (all_usable (map usable (lengths_of p.object))), others)
    by false others = others

-- ---- so many are read

words_read : (s : Driven) (array bits : ℕ) (places : List ℕ) → length (read_words s array bits places) ≡ length places
words_read s array bits [] = refl
words_read s array bits (a ∷ rest) = ap suc (words_read (asked s array a) array bits rest)

abbrev AreShort : List (List ℕ) → Type 0
AreShort arrays = All (λ (words : List ℕ). length words ≤ 2 ^ 32) arrays

arrays_read : (s : Driven) (k : ℕ) (shapes : List ArrayShape) → HaveFewElements shapes → AreShort (read_arrays s k shapes)
arrays_read s k [] few = All-nil _
arrays_read s k (a ∷ shapes) few =
    let read = words_read s k a.bits (addresses a.dims) in
    let count = address_count a.dims in
    let own = few.0 in
    All-cons (λ (words : List ℕ). length words ≤ 2 ^ 32) (read_words s k a.bits (addresses a.dims)) (read_arrays (behind_reads s k (addresses a.dims)) (suc k) shapes)
    (omega (arith, read, count, own)) (arrays_read (behind_reads s k (addresses a.dims)) (suc k) shapes few.1)

module _ (i : Interface) (few : HaveFewElements i.arrays) where
  done_short : (s : Driven) (o : Option ℕ) (shown : Shown) → shown_when i s o ≡ Some shown → AreShort shown.arrays
  done_short s None shown e = absurd cc
  done_short s (Some k) shown e = subst (λ (x : Shown). AreShort x.arrays) (same_Some (shown_from i (waited s k) k) shown e) (arrays_read (waited s k) 0 i.arrays few)

  run_short : (s : Driven) (scalars : List ℕ) (arrays : List (List ℕ)) (limit : ℕ) (o : Option ℕ) (shown : Shown) → run_when i s scalars arrays limit o ≡ Some shown → AreShort shown.arrays
  run_short s scalars arrays limit None shown e = absurd cc
  run_short s scalars arrays limit (Some k) shown e =
      let run = started i (waited s k) scalars arrays in
      done_short run (first_high done_of run limit) shown e

pub shown_short : (d : Netlist) (f : FunctionTree) (scalars : List ℕ) (arrays : List (List ℕ)) (limit : ℕ) (shown : Shown) → module_run d (interface_of f) scalars arrays limit ≡ Some shown → All (λ (words : List ℕ). length words ≤ 2 ^ 32) shown.arrays
shown_short d f scalars arrays limit shown e =
    let i = interface_of f in
    run_short i (shapes_few f.params) (begun d i) scalars arrays limit (first_high ready_of (begun d i) limit) shown e
