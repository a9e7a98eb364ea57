-- What the host's access does to elements that fit, and what memories hold.
use Rattle.std.proofs.Common.{◌≡◌, ℕ, zero, suc, ◌^◌, ◌<◌, List, [], ◌∷◌, length, map, Some, inl, inr, slice_index, refl, sym, ap, ◌∙◌, subst}
use Rattle.std.specs.Prelude.{slice_get, slice_set, slice_index_or}
use Rattle.std.specs.List.{All}
use Rattle.std.proofs.lemmas.List.{length-map, length-set, get_or_past}
use Rattle.std.proofs.lemmas.List.Elements.{All-get_or, All-set, All-map}
use Rattle.std.proofs.lemmas.Bool.{cases_lt}
use Rattle.std.proofs.lemmas.Nat.{pow_pos}
use Rattle.hls_base.specs.ArrayAddress.{address_bits, addresses}
use Rattle.rtl_core.specs.declared.design.Pin.{Pin}
use Rattle.rtl_core.specs.Netlist.{Memory}
use Rattle.rtl_core.specs.ClockStep.{Fit, fit_one, AreMemories, one_memory}
use Rattle.rtl_core.specs.Interface.{ArrayShape, Interface, HoldArrays, input_pins, argument_pins, arguments_of}
use Rattle.rtl_core.specs.Agreement.{held_arrays}
use Rattle.source_answers.specs.SourceDesigns.SourceCircuits.Fitting.{IsArray, FitArrays}

pub FitArrays-at : (shapes : List ArrayShape) (arrays : List (List ℕ)) (k : ℕ) (a : ArrayShape) → FitArrays shapes arrays → slice_get shapes k ≡ Some a → IsArray a (slice_index_or arrays k [])
FitArrays-at [] arrays k a h e = absurd (cc)
FitArrays-at (b ∷ shapes) [] k a h e = absurd h
FitArrays-at (b ∷ shapes) (xs ∷ arrays) zero a h e = let same : b ≡ a = cc in subst (λ c. IsArray c xs) same h.0
FitArrays-at (b ∷ shapes) (xs ∷ arrays) (suc k) a h e = FitArrays-at shapes arrays k a h.1 e

pub FitArrays-set : (shapes : List ArrayShape) (arrays : List (List ℕ)) (k : ℕ) (a : ArrayShape) (ys : List ℕ) → FitArrays shapes arrays → slice_get shapes k ≡ Some a → IsArray a ys → FitArrays shapes (slice_set arrays k ys)
FitArrays-set [] arrays k a ys h e is = absurd (cc)
FitArrays-set (b ∷ shapes) [] k a ys h e is = absurd h
FitArrays-set (b ∷ shapes) (xs ∷ arrays) zero a ys h e is = let same : a ≡ b = cc in (subst (λ c. IsArray c ys) same is, h.1)
FitArrays-set (b ∷ shapes) (xs ∷ arrays) (suc k) a ys h e is = (h.0, FitArrays-set shapes arrays k a ys h.1 e is)

pub IsArray-set : (a : ArrayShape) (xs : List ℕ) (k x : ℕ) → x < 2 ^ a.bits → IsArray a xs → IsArray a (slice_set xs k x)
IsArray-set a xs k x lt h = record { count = length-set xs k x ∙ h.count; fit = All-set (λ y. y < 2 ^ a.bits) xs k x lt h.fit }

-- ---- what memories hold

-- the first memories have the words of the arrays
abbrev pub HoldWords : List ArrayShape → List (List ℕ) → Type 0
HoldWords [] mems = Unit {0}
HoldWords (a ∷ shapes) [] = ⊥
HoldWords (a ∷ shapes) (words ∷ mems) = (length words ≡ 2 ^ address_bits a.dims) × All (λ x. x < 2 ^ a.bits) words × HoldWords shapes mems

pub words_held : (ms : List Memory) (shapes : List ArrayShape) (mems : List (List ℕ)) → HoldArrays ms shapes → AreMemories ms mems → HoldWords shapes mems
words_held ms [] mems h are = tt
words_held [] (a ∷ shapes) mems h are = absurd h
words_held (m ∷ ms) (a ∷ shapes) mems h (one_memory _ words _ rest is are) =
    (is.count ∙ ap (λ n. 2 ^ n) h.1, subst (λ n. All (λ x. x < 2 ^ n) words) h.0 is.fit, words_held ms shapes rest h.2 are)

word_fits : (bits : ℕ) (words : List ℕ) (k : ℕ) → All (λ x. x < 2 ^ bits) words → slice_index words k < 2 ^ bits
word_fits bits words k h = elim (cases_lt k (length words)) [
  | inl lt ↦ All-get_or (λ x. x < 2 ^ bits) words k 0 lt h
  | inr le ↦ subst (λ x. x < 2 ^ bits) (sym (get_or_past words k 0 le)) (pow_pos bits)
]

pub held_fit : (shapes : List ArrayShape) (mems : List (List ℕ)) → HoldWords shapes mems → FitArrays shapes (held_arrays shapes mems)
held_fit [] mems h = tt
held_fit (a ∷ shapes) [] h = absurd h
held_fit (a ∷ shapes) (words ∷ mems) h = (
  record {
    count = length-map (addresses a.dims) (λ k. slice_index words k);
    fit = All-map (λ x. x < 2 ^ a.bits) (λ k. slice_index words k) (addresses a.dims) (λ k d lt. word_fits a.bits words _ h.1);
  },
  held_fit shapes mems h.2,
)

-- ---- the scalar parameters

argument_widths : (k : ℕ) (scalars : List ℕ) → map (λ (p : Pin). p.bits) (argument_pins k scalars) ≡ scalars
argument_widths k [] = refl
argument_widths k (bits ∷ scalars) = ap (λ r. bits ∷ r) (argument_widths (suc k) scalars)

pub arguments_fit : (i : Interface) (pins : List ℕ) → Fit (map (λ (p : Pin). p.bits) (input_pins i)) pins → Fit i.scalars (arguments_of pins)
arguments_fit i pins (fit_one _ _ _ _ _ (fit_one _ _ _ _ _ (fit_one _ _ _ _ _ (fit_one _ _ _ _ _ (fit_one _ _ _ _ _ (fit_one _ _ _ _ _ (fit_one _ _ _ xs _ fit))))))) =
    subst (λ w. Fit w xs) (argument_widths 0 i.scalars) fit
