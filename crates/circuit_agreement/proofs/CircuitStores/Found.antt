-- The elements with which a circuit is found.
use Rattle.std.proofs.Common.{◌≡◌, ℕ, zero, suc, ◌^◌, ◌<◌, Bool, true, List, [], ◌∷◌, length, get_or, Some, is_none, refl, sym, ap, ◌∙◌, arith}
use Rattle.std.specs.Prelude.{slice_get, slice_index, count_by, take, cond}
use Rattle.std.proofs.lemmas.Bool.{cond-true}
use Rattle.std.proofs.lemmas.List.Sums.{sum_by-cons}
use Rattle.hls_base.specs.ArrayAddress.{addresses, elements_in}
use Rattle.rtl_core.specs.Netlist.{Memory}
use Rattle.rtl_core.specs.ClockStep.{AreMemories, no_memory, one_memory, word_at}
use Rattle.rtl_core.specs.Interface.{ArrayShape, HoldArrays}
use Rattle.rtl_core.specs.Agreement.{held_arrays}
use Rattle.clock_runs.proofs.Lists.{some_same, no_some}
use Rattle.datapath.specs.Plans.{Plan, Array, array_at, depth, host_arrays, interface}
use Rattle.datapath.specs.Netlists.{memory_of}
use Rattle.circuit_agreement.specs.CircuitFlow.Compiled.{IsCompiled}
use Rattle.circuit_agreement.specs.CircuitStores.HeldWords.{words_in}
use Rattle.circuit_agreement.specs.CircuitStores.{FoundContents}
use Rattle.circuit_agreement.proofs.CircuitStores.Lists.{map_same}
use Rattle.circuit_agreement.proofs.CircuitStores.Elements.{rising_within, mapped_get}
use Rattle.circuit_agreement.proofs.CircuitStores.Hosts.{rising, HostArray, host_array}
use Rattle.circuit_agreement.proofs.CircuitStores.Shown.{shown_plain}

-- all of the first elements pass the test
count_all : {A : Type 0} (test : A → Bool) (xs : List A) (a : ℕ) → ((b : ℕ) → b < a → (x : A) × ((slice_get xs b ≡ Some x) × (test x ≡ true))) → count_by test (take a xs) ≡ a
count_all test xs zero h = refl
count_all test [] (suc a) h = let r = h 0 (omega arith) in absurd (no_some r.1.0)
count_all test (x ∷ xs) (suc a) h =
    let first = h 0 (omega arith) in
    let passes : test x ≡ true = ap test (some_same first.1.0) ∙ first.1.1 in
    let rest : count_by test (take a xs) ≡ a = count_all test xs a (λ b low. h (suc b) (omega (arith, low))) in
    let lit : ℕ = 1 in
    let one : cond (test x) lit 0 ≡ lit = cond-true (test x) lit 0 passes in
    let more = sum_by-cons (λ (z : _). cond (test z) 1 0) x (take a xs) in
    omega (arith, more, one, rest)

as_many : (memories : List Memory) (mems : List (List ℕ)) → AreMemories memories mems → length memories ≡ length mems
as_many [] [] no_memory = refl
as_many [] (words ∷ mems) h = elim h [ ]
as_many (m ∷ ms) [] h = elim h [ ]
as_many (m ∷ ms) (words ∷ mems) (one_memory _ _ _ _ own rest) = ap suc (as_many ms mems rest)

-- the memories of arrays have their words
held_at : (memories : List Memory) (shapes : List ArrayShape) (mems : List (List ℕ)) (a : ℕ) (shape : ArrayShape) → HoldArrays memories shapes → length memories ≡ length mems
    → slice_get shapes a ≡ Some shape → get_or (held_arrays shapes mems) a [] ≡ elements_in shape.dims (get_or mems a [])
held_at memories [] mems a shape h m e = absurd (no_some e)
held_at [] (s ∷ shapes) mems a shape h m e = absurd h
held_at (x ∷ memories) (s ∷ shapes) [] a shape h m e = absurd (omega (arith, m))
held_at (x ∷ memories) (s ∷ shapes) (words ∷ mems) zero shape h m e = ap (λ (z : ArrayShape). elements_in z.dims words) (some_same e)
held_at (x ∷ memories) (s ∷ shapes) (words ∷ mems) (suc a) shape h m e = held_at memories shapes mems a shape h.2 (omega (arith, m)) e

abbrev shape_of : Array → ArrayShape
shape_of z = record { bits = z.bits; dims = z.dims }

own_memory : (p : Plan) (k : IsCompiled p) (a : ℕ) → a < length (host_arrays p) → memory_of p a ≡ a
own_memory p k a low =
    count_all (λ (b : Array). is_none b.table) p.arrays a (λ b under.
    let it : HostArray p k b = host_array p k b (omega (arith, low, under)) in (array_at p b, (it.there, ap is_none it.plain)))

pub found_contents : FoundContents
found_contents p d names s x k shaped state h a low =
    let it : HostArray p k a = host_array p k a low in
    let places : List ℕ = addresses (array_at p a).dims in
    let shape : slice_get (interface p).arrays a ≡ Some (shape_of (array_at p a)) = mapped_get shape_of (host_arrays p) a (array_at p a) it.in_hosts in
    map_same ((words_in p x).memories a) (λ (q : ℕ). slice_index (get_or s.mems a []) q) places (λ q at_.
    let under = (rising_within 0 (2 ^ depth p a) places at_.place q (rising p k a) at_.there).1 in
    shown_plain p x a q it.plain ∙ (sym (h.memories a q it.plain under) ∙ ap (λ m. word_at s.mems m q) (own_memory p k a low)))
    ∙ sym (held_at d.mems (interface p).arrays s.mems a (shape_of (array_at p a)) shaped (as_many d.mems s.mems state.mems) shape)
