-- What is wanted of writes that are made one for each element of a list.
use Rattle.std.proofs.Common.{◌≡◌, ℕ, true, false, List, [], ◌∷◌, ◌++◌, map, refl, sym, ◌∙◌}
use Rattle.std.specs.Prelude.{◌||◌}
use Rattle.std.proofs.lemmas.Bool.{or_from, or_parts, false≢true}
use Rattle.std.proofs.lemmas.List.Folds.{list_any-append}
use Rattle.rtl_logic.specs.Choosing.{Write, is_any_wanted, AllWant}
use Rattle.circuit_agreement.proofs.CircuitStores.Lists.{Has, has_first, has_next, has_mapped, any_there, none_there}

pub some_wanted : {A : Type 0} (g : A → Write) (xs : List A) (x : A) → Has xs x → (g x).wanted ≡ true → is_any_wanted (map g xs) ≡ true
some_wanted g xs x h e = any_there (λ (w : Write). w.wanted) (map g xs) (g x) (has_mapped g xs x h) e

pub all_wanted : {A : Type 0} (g : A → Write) (xs : List A) (v : ℕ) → ((x : A) → Has xs x → (g x).wanted ≡ true → (g x).value ≡ v) → AllWant (map g xs) v
all_wanted g [] v h = _
all_wanted g (x ∷ xs) v h = (h x (has_first x xs), all_wanted g xs v (λ y e. h y (has_next x xs y e)))

pub none_wanted : {A : Type 0} (g : A → Write) (xs : List A) → ((x : A) → Has xs x → (g x).wanted ≡ false) → is_any_wanted (map g xs) ≡ false
none_wanted g [] h = refl
none_wanted g (x ∷ xs) h = or_from (g x).wanted (is_any_wanted (map g xs)) (h x (has_first x xs)) (none_wanted g xs (λ y e. h y (has_next x xs y e)))

-- ---- joined lists of writes

pub none_all : (ws : List Write) (v : ℕ) → is_any_wanted ws ≡ false → AllWant ws v
none_all [] v e = _
none_all (w ∷ ws) v e =
    let parts = or_parts w.wanted (is_any_wanted ws) e in
    (λ g. absurd (false≢true (sym parts.0 ∙ g)), none_all ws v parts.1)

pub all_both : (a b : List Write) (v : ℕ) → AllWant a v → AllWant b v → AllWant (a ++ b) v
all_both [] b v h g = g
all_both (w ∷ ws) b v h g = (h.0, all_both ws b v h.1 g)

pub any_both : (a b : List Write) → is_any_wanted (a ++ b) ≡ (is_any_wanted a || is_any_wanted b)
any_both a b = list_any-append (λ (w : Write). w.wanted) a b

-- ---- any list of writes

pub all_in : (ws : List Write) (v : ℕ) → ((w : Write) → Has ws w → w.wanted ≡ true → w.value ≡ v) → AllWant ws v
all_in [] v h = _
all_in (w ∷ ws) v h = (h w (has_first w ws), all_in ws v (λ u e. h u (has_next w ws u e)))

pub none_in : (ws : List Write) → ((w : Write) → Has ws w → w.wanted ≡ false) → is_any_wanted ws ≡ false
none_in ws h = none_there (λ (w : Write). w.wanted) ws h
