-- Names of a list that differ: one after the other, as a loop meets them, and any two of them.
use Rattle.std.proofs.Common.{◌≡◌, ◌≢◌, ℕ, ◌+◌, ◌<◌, ◌≤◌, Bool, true, false, not, ◌&&◌, ◌||◌, List, [], ◌∷◌, ◌++◌, AllPairs, Bor, drop, map, length, get_or, refl, sym, ap, ap₂, ◌∙◌}
use Rattle.std.specs.Prelude.{if◌then◌else◌}
use Rattle.std.specs.List.{AllByRecursion, IsDistinct, list_all, list_any}
use Rattle.std.specs.Str.{bytes_eq}
use Rattle.std.proofs.lemmas.Cmp.{nat_list_eq_equiv}
use Rattle.std.proofs.lemmas.List.{drop_more, map-append}
use Rattle.std.proofs.Math.ListN.{drop_of_length-le}
use Rattle.std.proofs.lemmas.List.Folds.{list_any-append}
use Rattle.std.proofs.lemmas.Map.Keys.{IsDistinct-cons}
use Rattle.std.proofs.lemmas.Map.Made.{AllPairs-from_IsDistinct}
use Rattle.std.proofs.lemmas.Slice.Eq.{bytes_eq-Decides}
use Rattle.command_words.specs.Commands.{all_differ}

-- the names that are left differ from those that were seen, and from one another
abbrev pub differ_after : List (List ℕ) → List (List ℕ) → Bool
differ_after seen [] = true
differ_after seen (n ∷ ns) = not (list_any (bytes_eq n) seen) && differ_after (seen ++ n ∷ []) ns

abbrev none_seen : List (List ℕ) → List (List ℕ) → Bool
none_seen seen ns = list_all (λ n. not (list_any (bytes_eq n) seen)) ns

shuffled : (a b c d : Bool) → (not (a || (b || false)) && (c && not d)) ≡ ((not a && c) && not (b || d))
shuffled true b c d = refl
shuffled false true true d = refl
shuffled false true false d = refl
shuffled false false c d = refl

one_more : (x : List ℕ) (seen ns : List (List ℕ)) → none_seen (seen ++ x ∷ []) ns ≡ (none_seen seen ns && not (list_any (bytes_eq x) ns))
one_more x seen [] = refl
one_more x seen (n ∷ ns) =
    ap₂ (λ a b. not a && b) (list_any-append (bytes_eq n) seen (x ∷ []) ∙ ap (λ b. list_any (bytes_eq n) seen || (b || false)) (nat_list_eq_equiv.symm n x)) (one_more x seen ns)
    ∙ shuffled (list_any (bytes_eq n) seen) (bytes_eq x n) (none_seen seen ns) (list_any (bytes_eq x) ns)

regrouped : (u a w v : Bool) → (u && ((a && w) && v)) ≡ ((u && a) && (w && v))
regrouped true true w v = refl
regrouped true false w v = refl
regrouped false a w v = refl

parted : (seen ns : List (List ℕ)) → differ_after seen ns ≡ (none_seen seen ns && all_differ ns)
parted seen [] = refl
parted seen (n ∷ ns) =
    ap (λ b. not (list_any (bytes_eq n) seen) && b) (parted (seen ++ n ∷ []) ns ∙ ap (λ b. b && all_differ ns) (one_more n seen ns))
    ∙ regrouped (not (list_any (bytes_eq n) seen)) (none_seen seen ns) (not (list_any (bytes_eq n) ns)) (all_differ ns)

nothing_seen : (ns : List (List ℕ)) → none_seen [] ns ≡ true
nothing_seen [] = refl
nothing_seen (n ∷ ns) = nothing_seen ns

-- the others are met when the first was seen
pub first_seen : (n : List ℕ) (ns : List (List ℕ)) → differ_after (n ∷ []) ns ≡ all_differ (n ∷ ns)
first_seen n ns = parted (n ∷ []) ns ∙ ap (λ b. b && all_differ ns) (one_more n [] ns ∙ ap (λ b. b && not (list_any (bytes_eq n) ns)) (nothing_seen ns))

abbrev pub texts : List (Bor (List ℕ)) → List (List ℕ)
texts = map (λ s. s.now)

among_texts : (x : List ℕ) (keys : List (Bor (List ℕ))) → list_any (λ k. bytes_eq x k.now) keys ≡ list_any (bytes_eq x) (texts keys)
among_texts x [] = refl
among_texts x (k ∷ keys) = ap (λ b. bytes_eq x k.now || b) (among_texts x keys)

-- the set of names after the first
pub first_kept : (x : Bor (List ℕ)) (keys new : List (Bor (List ℕ))) → keys ≡ [] → new ≡ (if list_any (λ k. bytes_eq x.now k.now) keys then keys else keys ++ x ∷ []) → texts new ≡ x.now ∷ []
first_kept x [] new none is = ap texts is
first_kept x (k ∷ keys) new none is = absurd cc

kept : (x : Bor (List ℕ)) (keys new : List (Bor (List ℕ))) (b : Bool) → true ≡ not b → new ≡ (if b then keys else keys ++ x ∷ []) → texts new ≡ texts keys ++ x.now ∷ []
kept x keys new true e is = absurd cc
kept x keys new false e is = ap texts is ∙ map-append (λ (s : Bor (List ℕ)). s.now) keys (x ∷ [])

module _ (keys others : List (Bor (List ℕ))) (i : ℕ) (d : Bor (List ℕ)) (inside : i < length others) where
  abbrev is_met : Bool
  is_met = list_any (λ k. bytes_eq (get_or others i d).now k.now) keys

  abbrev rest : Bool
  rest = differ_after (texts keys ++ (get_or others i d).now ∷ []) (texts (drop (i + 1) others))

  met : differ_after (texts keys) (texts (drop i others)) ≡ (not is_met && rest)
  met = ap (λ xs. differ_after (texts keys) (texts xs)) (drop_more others i d inside) ∙ ap (λ b. not b && rest) (sym (among_texts (get_or others i d).now keys))

  -- a name that was seen
  pub met_again : false ≡ not is_met → false ≡ differ_after (texts keys) (texts (drop i others))
  met_again seen = ap (λ b. b && rest) seen ∙ sym met

  -- a name that was not seen
  pub met_first : (new : List (Bor (List ℕ))) → true ≡ not is_met → new ≡ (if is_met then keys else keys ++ get_or others i d ∷ [])
      → differ_after (texts new) (texts (drop (i + 1) others)) ≡ differ_after (texts keys) (texts (drop i others))
  met_first new fresh is =
      ap (λ seen. differ_after seen (texts (drop (i + 1) others))) (kept (get_or others i d) keys new is_met fresh is) ∙ ap (λ b. b && rest) fresh ∙ sym met

-- all were met
pub all_met : (seen : List (List ℕ)) (others : List (Bor (List ℕ))) (i : ℕ) → length others ≤ i → true ≡ differ_after seen (texts (drop i others))
all_met seen others i end = sym (ap (λ xs. differ_after seen (texts xs)) (drop_of_length-le others end))

neither : (a b : Bool) → not (a || b) ≡ true → (a ≡ false) × (not b ≡ true)
neither true b e = absurd cc
neither false b e = (refl, e)

both : (a b : Bool) → (a && b) ≡ true → (a ≡ true) × (b ≡ true)
both true b e = (refl, e)
both false b e = absurd cc

none_equal : (n : List ℕ) (ns : List (List ℕ)) → not (list_any (bytes_eq n) ns) ≡ true → AllByRecursion (λ m. bytes_eq n m ≡ false) ns
none_equal n [] e = tt
none_equal n (m ∷ ms) e =
    let parts = neither (bytes_eq n m) (list_any (bytes_eq n) ms) e in
    (parts.0, none_equal n ms parts.1)

distinct : (ns : List (List ℕ)) → all_differ ns ≡ true → IsDistinct bytes_eq ns
unfolding IsDistinct
distinct [] e = tt
distinct (n ∷ ns) e =
    let parts = both (not (list_any (bytes_eq n) ns)) (all_differ ns) e in
    IsDistinct-cons bytes_eq n ns (none_equal n ns parts.0) (distinct ns parts.1)

-- any two of them differ
pub pairs_differ : (ns : List (List ℕ)) → all_differ ns ≡ true → AllPairs (λ x y. x ≢ y) ns
pairs_differ ns e = AllPairs-from_IsDistinct bytes_eq-Decides ns (distinct ns e)
