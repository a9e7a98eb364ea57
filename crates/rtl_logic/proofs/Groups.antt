-- Choices put into groups.
use Rattle.std.proofs.Common.{◌≡◌, ◌<◌, ℕ, zero, suc, List, [], ◌∷◌, ◌++◌, map, set, length, get_or, sym, ap, ◌∙◌, subst, append_assoc, arith}
use Rattle.std.specs.List.{flat_map}
use Rattle.std.specs.List.Sorted.{IsPermutation}
use Rattle.std.proofs.lemmas.List.{map-append, append-nil}
use Rattle.std.proofs.lemmas.List.Concat.{flat_map-cons}
use Rattle.std.proofs.lemmas.List.Sorted.{IsPermutation-sym, IsPermutation-trans, IsPermutation-middle, IsPermutation-append_right, IsPermutation-to_front}
use Rattle.std.proofs.lemmas.Grind.{flat_map-append}
use Rattle.rtl_core.specs.declared.design.Atom.{Atom}
use Rattle.rtl_logic.specs.declared.select.Choice.{Choice}
use Rattle.rtl_logic.specs.declared.select.Wanted.{Wanted}
use Rattle.rtl_logic.specs.Choosing.{choices_in}

-- a group with one choice more
extended_is : (old new : Wanted) (c : Choice) → new.when.items ≡ old.when.items ++ c.when ∷ [] → new.value ≡ old.value → old.value ≡ c.value → choices_in new ≡ choices_in old ++ c ∷ []
extended_is old new c items same value =
    let f : Atom → Atom → Choice = λ v b. record { when = b; value = v } in
    ap (λ l. map (f new.value) l) items ∙ (ap (λ v. map (f v) (old.when.items ++ c.when ∷ [])) same
    ∙ (map-append (f old.value) old.when.items (c.when ∷ []) ∙ ap (λ v. choices_in old ++ f v c.when ∷ []) value))

pub extended : (groups : List Wanted) (k : ℕ) (old new : Wanted) (c : Choice) → k < length groups → old ≡ get_or groups k old → new.when.items ≡ old.when.items ++ c.when ∷ [] → new.value ≡ old.value
    → old.value ≡ c.value → IsPermutation (c ∷ flat_map choices_in groups) (flat_map choices_in (set groups k new))
extended [] k old new c h is items same value = absurd (omega (arith, h))
extended (g ∷ groups) zero old new c h is items same value =
    let rest : List Choice = flat_map choices_in groups in
    let more : choices_in new ≡ choices_in g ++ c ∷ [] = extended_is old new c items same value ∙ ap (λ (z : Wanted). choices_in z ++ c ∷ []) is in
    let behind : choices_in g ++ c ∷ rest ≡ flat_map choices_in (new ∷ groups) =
    sym (append_assoc (choices_in g) (c ∷ []) rest) ∙ (ap (λ l. l ++ rest) (sym more) ∙ sym (flat_map-cons choices_in new groups)) in
    subst (λ l. IsPermutation (c ∷ l) (flat_map choices_in (new ∷ groups))) (sym (flat_map-cons choices_in g groups))
    (subst (IsPermutation (c ∷ (choices_in g ++ rest))) behind (IsPermutation-sym _ _ (IsPermutation-middle (choices_in g) c rest)))
extended (g ∷ groups) (suc k) old new c h is items same value =
    let rest : List Choice = flat_map choices_in groups in
    let after : List Choice = flat_map choices_in (set groups k new) in
    let tail : IsPermutation (c ∷ rest) after = extended groups k old new c (omega (arith, h)) is items same value in
    let moved : IsPermutation (c ∷ (choices_in g ++ rest)) (choices_in g ++ after) =
    IsPermutation-trans _ _ _ (IsPermutation-sym _ _ (IsPermutation-middle (choices_in g) c rest)) (IsPermutation-append_right (choices_in g) _ _ tail) in
    subst (λ l. IsPermutation (c ∷ l) (flat_map choices_in (g ∷ set groups k new))) (sym (flat_map-cons choices_in g groups))
    (subst (IsPermutation (c ∷ (choices_in g ++ rest))) (sym (flat_map-cons choices_in g (set groups k new))) moved)

-- a new group of one choice
pub added : (groups after : List Wanted) (new : Wanted) (c : Choice) → after ≡ groups ++ new ∷ [] → new.when.items ≡ c.when ∷ [] → new.value ≡ c.value
    → IsPermutation (c ∷ flat_map choices_in groups) (flat_map choices_in after)
added groups after new c is items value =
    let f : Atom → Atom → Choice = λ v b. record { when = b; value = v } in
    let single : choices_in new ≡ c ∷ [] = ap (λ l. map (f new.value) l) items ∙ ap (λ v. f v c.when ∷ []) value in
    let whole : flat_map choices_in after ≡ flat_map choices_in groups ++ c ∷ [] =
    ap (flat_map choices_in) is ∙ (flat_map-append choices_in groups (new ∷ [])
    ∙ ap (λ l. flat_map choices_in groups ++ l) (flat_map-cons choices_in new [] ∙ (append-nil (choices_in new) ∙ single))) in
    subst (IsPermutation (c ∷ flat_map choices_in groups)) (sym whole) (IsPermutation-sym _ _ (IsPermutation-to_front (flat_map choices_in groups) c))

-- what stands at one place is the same
pub at_one_place : {X : Type 0} (xs : List X) (k : ℕ) (a b : X) → k < length xs → a ≡ get_or xs k a → b ≡ get_or xs k b → b ≡ a
at_one_place [] k a b h e f = absurd (omega (arith, h))
at_one_place (x ∷ xs) zero a b h e f = f ∙ sym e
at_one_place (x ∷ xs) (suc k) a b h e f = at_one_place xs k a b (omega (arith, h)) e f
