-- Of each two words one is left.
use Rattle.std.proofs.Common.{◌≡◌, ◌<◌, ◌≤◌, ℕ, zero, suc, ◌+◌, ◌*◌, Bool, true, false, List, [], ◌∷◌, ◌++◌, length, slice_get, Option, Some, None, inl, inr, refl, sym, ap, ◌∙◌, subst, arith, length-append}
use Rattle.std.specs.Prelude.{◌==◌, if◌then◌else◌}
use Rattle.std.proofs.lemmas.Bool.{cases_lt}
use Rattle.std.proofs.lemmas.Option.{slice_get_within}
use Rattle.rtl_core.specs.declared.design.Atom.{Atom}
use Rattle.rtl_core.specs.Netlist.{Netlist}
use Rattle.rtl_core.specs.ClockStep.{widths, seen}
use Rattle.rtl_core.specs.Valid.{HasBits}
use Rattle.rtl_logic.specs.Making.{IsSound, Makes}
use Rattle.rtl_logic.proofs.Making.{goes_on, appended, appends_none, appends_both, fits_later, made_before}
use Rattle.circuit_context.specs.Levels.{AreWords, IsWord, IsPicked, neighbour, IsAt, HalvesPart, HalvesTo}

-- ---- places of lists

pub front : {X : Type 0} (xs ys : List X) (i : ℕ) → i < length xs → slice_get (xs ++ ys) i ≡ slice_get xs i
front [] ys i h = absurd (omega arith)
front (x ∷ xs) ys zero h = refl
front (x ∷ xs) ys (suc i) h = front xs ys i (omega arith)

pub back : {X : Type 0} (xs : List X) (y : X) (i : ℕ) → i ≡ length xs → slice_get (xs ++ y ∷ []) i ≡ Some y
back [] y zero e = refl
back [] y (suc i) e = absurd (omega arith)
back (x ∷ xs) y zero e = absurd (omega arith)
back (x ∷ xs) y (suc i) e = back xs y i (omega arith)

some_same : {X : Type 0} (x y : X) → Some x ≡ Some y → x ≡ y
some_same x y e = cc

-- one word more
pub words_behind : (d : Netlist) (xs : List Atom) (a : Atom) → AreWords d xs → HasBits (widths d) 64 a → AreWords d (xs ++ a ∷ [])
words_behind d xs a h last i b is =
    let within = slice_get_within (xs ++ a ∷ []) i b is in
    elim (cases_lt i (length xs)) [
      | inl lt ↦ h i b (sym (front xs (a ∷ []) i lt) ∙ is)
      | inr le ↦
          let at_end : i ≡ length xs = omega (arith, length-append xs (a ∷ []), within, le) in
          subst (HasBits (widths d) 64) (some_same a b (sym (back xs a i at_end) ∙ is)) last
    ]

pub words_later : (d e : Netlist) (xs : List Atom) → ((a : Atom) → HasBits (widths d) 64 a → HasBits (widths e) 64 a) → AreWords d xs → AreWords e xs
words_later d e xs on h i a is = on a (h i a is)

-- ---- one of two

both_there : (b : Bool) (v : Atom → ℕ) (x : ℕ) (first second a : Atom) → x ≡ (if b then v second else v first) → (if b then Some second else Some first) ≡ Some a → x ≡ v a
both_there true v x first second a is here = is ∙ ap v (some_same second a here)
both_there false v x first second a is here = is ∙ ap v (some_same first a here)

one_there : (b : Bool) (v : Atom → ℕ) (first a : Atom) → (if b then None else Some first) ≡ Some a → v first ≡ v a
one_there true v first a here = absurd cc
one_there false v first a here = ap v (some_same first a here)

makes_as : (d e : Netlist) (n : ℕ) (a : Atom) (P Q : (Atom → ℕ) → ℕ → Type 0) → ((v : Atom → ℕ) (x : ℕ) → P v x → Q v x) → Makes d e n a P → Makes d e n a Q
makes_as d e n a P Q weaker h = record {
  appends = h.appends;
  sound = h.sound;
  shows = record { fits = h.shows.fits; value = λ f s pins longer sound state are. weaker (seen f s pins) (seen f s pins a) (h.shows.value f s pins longer sound state are) };
}

pub two_picked : (d e : Netlist) (test first second a : Atom) (one other : Option Atom) → one ≡ Some first → other ≡ Some second
    → Makes d e 64 a (λ v x. x ≡ (if v test == 1 then v second else v first)) → Makes d e 64 a (IsPicked test one other)
two_picked d e test first second a one other is too made =
    let here : Makes d e 64 a (IsPicked test (Some first) (Some second)) =
    makes_as d e 64 a (λ v x. x ≡ (if v test == 1 then v second else v first)) (IsPicked test (Some first) (Some second))
    (λ v x same b found. both_there (v test == 1) v x first second b same found) made in
    let left : Makes d e 64 a (IsPicked test one (Some second)) = subst (λ o. Makes d e 64 a (IsPicked test o (Some second))) (sym is) here in
    subst (λ o. Makes d e 64 a (IsPicked test one o)) (sym too) left

pub one_picked : (d : Netlist) (test first : Atom) (one other : Option Atom) → IsSound d → one ≡ Some first → other ≡ None → IsWord d one → Makes d d 64 first (IsPicked test one other)
one_picked d test first one other sound is too word =
    let here : Makes d d 64 first (IsPicked test (Some first) None) =
    made_before d 64 first (IsPicked test (Some first) None) sound
    (record { fits = word first is; value = λ f s pins longer sound state are b found. one_there (seen f s pins test == 1) (seen f s pins) first b found }) in
    let left : Makes d d 64 first (IsPicked test one None) = subst (λ o. Makes d d 64 first (IsPicked test o None)) (sym is) here in
    subst (λ o. Makes d d 64 first (IsPicked test one o)) (sym too) left

-- ---- all pairs

pub none_halved : (d : Netlist) (test : Atom) (xs : List Atom) → IsSound d → HalvesPart d d test 0 xs []
none_halved d test xs sound = record {
  appends = appends_none d;
  sound = sound;
  count = refl;
  fits = λ j a is. absurd cc;
  shows = λ f s pins longer so state are j a low here. absurd (omega (arith, low));
}

more_halved : (d e f : Netlist) (test a : Atom) (k : ℕ) (xs ys : List Atom) → HalvesPart d e test k xs ys → Makes e f 64 a (IsPicked test (slice_get xs (2 * k)) (slice_get xs (2 * k + 1)))
    → HalvesPart d f test (k + 1) xs (ys ++ a ∷ [])
more_halved d e f test a k xs ys h made =
    let on = appended e f made.appends in
    record {
      appends = appends_both d e f h.appends made.appends;
      sound = made.sound;
      count = length-append ys (a ∷ []) ∙ ap (λ n. n + 1) h.count;
      fits = words_behind f ys a (λ j b is. fits_later e f on 64 b (h.fits j b is)) made.shows.fits;
      shows = λ g s pins longer sound state are j b low here.
          elim (cases_lt j k) [
            | inl lt ↦
                let old : IsAt ys j (seen g s pins) b = h.shows g s pins (goes_on e f g on longer) sound state are j b lt here in
                let within : j < length ys = omega (arith, lt, h.count) in
                (old.0, (front ys (a ∷ []) j within ∙ old.1.0, old.1.1))
            | inr le ↦
                let same : j ≡ k = omega (arith, low, le) in
                (a, (back ys a j (same ∙ sym h.count), made.shows.value g s pins longer sound state are b (subst (λ i. neighbour xs i (seen g s pins test) ≡ Some b) same here)))
          ];
    }

pub step_halved : (d e f : Netlist) (test a : Atom) (k : ℕ) (xs ys : List Atom) (first second : Option Atom) → first ≡ slice_get xs (2 * k) → second ≡ slice_get xs (2 * k + 1)
    → HalvesPart d e test k xs ys → HasBits (widths d) 1 test → AreWords d xs
    → (IsSound e → HasBits (widths e) 1 test → IsWord e first → IsWord e second → Makes e f 64 a (IsPicked test first second)) → HalvesPart d f test (k + 1) xs (ys ++ a ∷ [])
step_halved d e f test a k xs ys first second one other h bit words made =
    let on = appended d e h.appends in
    let all = made h.sound (fits_later d e on 1 test bit) (λ b is. fits_later d e on 64 b (words (2 * k) b (sym one ∙ is))) (λ b is. fits_later d e on 64 b (words (2 * k + 1) b (sym other ∙ is))) in
    let left : Makes e f 64 a (IsPicked test (slice_get xs (2 * k)) second) = subst (λ o. Makes e f 64 a (IsPicked test o second)) one all in
    more_halved d e f test a k xs ys h (subst (λ o. Makes e f 64 a (IsPicked test (slice_get xs (2 * k)) o)) other left)

low_there : (b : Bool) (xs : List Atom) (j : ℕ) (a : Atom) → (if b then slice_get xs (2 * j + 1) else slice_get xs (2 * j)) ≡ Some a → 2 * j < length xs
low_there true xs j a here = let within = slice_get_within xs (2 * j + 1) a here in omega (arith, within)
low_there false xs j a here = slice_get_within xs (2 * j) a here

pub all_halved : (d e : Netlist) (test : Atom) (k : ℕ) (xs ys : List Atom) → length xs ≤ 2 * k → HalvesPart d e test k xs ys → HalvesTo d e test xs ys
all_halved d e test k xs ys enough h = record {
  appends = h.appends;
  sound = h.sound;
  fits = h.fits;
  shows = λ f s pins longer sound state are j a here.
      let within : 2 * j < length xs = low_there (seen f s pins test == 1) xs j a here in
      let low : j < k = omega (arith, within, enough) in
      h.shows f s pins longer sound state are j a low here;
}
