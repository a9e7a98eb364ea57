-- Writes of which each wanted value fits leave something to take that fits.
use Rattle.std.proofs.Common.{◌≡◌, ℕ, ◌^◌, ◌<◌, ◌⊎◌, Bool, true, false, List, [], ◌∷◌, ◌++◌, flat_map, Some, inl, inr, refl, sym, ◌∙◌, true≢false, if◌then◌else◌, arith}
use Rattle.std.proofs.lemmas.Bool.{cases_Bool, or_from, or_left, or_right}
use Rattle.rtl_logic.specs.Choosing.{Write, is_any_wanted, AllWant, Takes}
use Rattle.datapath.specs.Cycles.{bit}

-- each value that is wanted fits
abbrev pub Fitting : ℕ → List Write → Type 0
Fitting bits [] = Unit {0}
Fitting bits (w ∷ ws) = (w.wanted ≡ true → w.value < 2 ^ bits) × Fitting bits ws

pub record Taken (bits : ℕ) (ws : List Write) (old : ℕ) : Type 0 where
  pub value : ℕ
  pub takes : Takes ws (Some old) value
  pub fits : value < 2 ^ bits

-- a value that is wanted, and that all want if they want one
abbrev FirstWanted : ℕ → List Write → Type 0
FirstWanted bits ws = (x : ℕ) × ((is_any_wanted ws ≡ true) × ((x < 2 ^ bits) × ((y : ℕ) → AllWant ws y → x ≡ y)))

first_wanted : (bits : ℕ) (ws : List Write) → Fitting bits ws → (is_any_wanted ws ≡ false) ⊎ FirstWanted bits ws
first_wanted bits [] h = inl refl
first_wanted bits (w ∷ ws) h =
    elim (cases_Bool w.wanted) [
      | inl yes_ ↦ inr (w.value, (or_left w.wanted (is_any_wanted ws) yes_, (h.0 yes_, λ y all. all.0 yes_)))
      | inr no_ ↦
          elim (first_wanted bits ws h.1) [
            | inl none ↦ inl (or_from w.wanted (is_any_wanted ws) no_ none)
            | inr first ↦ inr (first.0, (or_right w.wanted (is_any_wanted ws) first.1.0, (first.1.1.0, λ y all. first.1.1.1 y all.1)))
          ]
    ]

pub taken : (bits : ℕ) (ws : List Write) (old : ℕ) → Fitting bits ws → old < 2 ^ bits → Taken bits ws old
taken bits ws old h fits =
    elim (first_wanted bits ws h) [
      | inl none ↦ record { value = old; takes = record { wanted = λ y any all. absurd (true≢false (sym any ∙ none)); else_ = λ e. refl }; fits = fits }
      | inr first ↦
          record {
            value = first.0;
            takes = record { wanted = λ y any all. first.1.1.1 y all; else_ = λ e. absurd (true≢false (sym first.1.0 ∙ e)) };
            fits = first.1.1.0;
          }
    ]

-- ---- what fits

pub fitting_both : (bits : ℕ) (xs ys : List Write) → Fitting bits xs → Fitting bits ys → Fitting bits (xs ++ ys)
fitting_both bits [] ys h g = g
fitting_both bits (x ∷ xs) ys h g = (h.0, fitting_both bits xs ys h.1 g)

pub fitting_flat : {A : Type 0} (bits : ℕ) (f : A → List Write) (xs : List A) → ((x : A) → Fitting bits (f x)) → Fitting bits (flat_map f xs)
fitting_flat bits f [] h = tt
fitting_flat bits f (x ∷ xs) h = fitting_both bits (f x) (flat_map f xs) (h x) (fitting_flat bits f xs h)

pub fitting_one : (bits : ℕ) (w : Write) → w.value < 2 ^ bits → Fitting bits (w ∷ [])
fitting_one bits w h = ((λ e. h), tt)

pub fitting_if : (bits : ℕ) (test : Bool) (xs ys : List Write) → Fitting bits xs → Fitting bits ys → Fitting bits (if test then xs else ys)
fitting_if bits true xs ys h g = h
fitting_if bits false xs ys h g = g

pub below_if : (test : Bool) (x y n : ℕ) → x < n → y < n → (if test then x else y) < n
below_if true x y n h g = h
below_if false x y n h g = g

pub bit_fits : (b : Bool) → bit b < 2 ^ 1
bit_fits true = omega arith
bit_fits false = omega arith
