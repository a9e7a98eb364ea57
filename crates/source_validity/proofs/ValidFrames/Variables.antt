-- Variables, parameters and kept scalars of expanded programs are valid.
use Rattle.std.proofs.Common.{◌≡◌, ◌∙◌, ◌<◌, ◌^◌, ℕ, suc, Bool, true, false, ◌&&◌, not, refl, ap, sym, subst, List, [], ◌∷◌, map, length, arith, Some}
use Rattle.std.specs.Prelude.{◌==◌, nat_lt, nat_le, slice_get, if◌then◌else◌}
use Rattle.std.specs.List.{list_all}
use Rattle.std.specs.Option.{option_map}
use Rattle.std.proofs.lemmas.Bool.{and_from, or_from}
use Rattle.std.proofs.lemmas.List.{length-map}
use Rattle.std.proofs.lemmas.Option.{slice_get-map, slice_get_within}
use Rattle.hls_base.specs.declared.number.Kept.{Kept}
use Rattle.hls_base.specs.declared.number.VarId.{VarId}
use Rattle.c_token.specs.declared.ctype.CType.{CType}
use Rattle.c_token.specs.declared.ctype.CType.TheVariants as t
use Rattle.c_value.specs.Values.{width}
use Rattle.pieces.specs.Program.{ExpandedTree}
use Rattle.c_meaning.specs.PieceRuns.Pieces.{type_of}
use Rattle.c_meaning.specs.PieceRuns.Runs.{frame_of, variables_of}
use Rattle.pass_runs.specs.LowerRuns.Holding.{IsThere}
use Rattle.timed_pieces.specs.StartedWords.FirstWords.{FillVariables, IsNotIn, Differ, AreApart}
use Rattle.program_validity.specs.Widths.{is_width, is_word_of}
use Rattle.program_validity.specs.Frames.{is_among, are_different, are_variables, is_kept_among, keep_different}

-- ---- widths

pub width_is : (k : CType) → is_width (width k) ≡ true
width_is t.Bool = refl
width_is (t.Int signed bits) = by (nat_le bits 8) (nat_le bits 16) (nat_le bits 32) where
  by : (x y z : Bool) → is_width (if x then 8 else (if y then 16 else (if z then 32 else 64))) ≡ true
  by true y z = refl
  by false true z = refl
  by false false true = refl
  by false false false = refl

pub widths_are : (ks : List CType) → list_all is_width (map width ks) ≡ true
widths_are [] = refl
widths_are (k ∷ ks) = and_from _ _ (width_is k) (widths_are ks)

-- ---- names

not_same : (a b : ℕ) → (b ≡ a → ⊥) → (a == b) ≡ false
not_same a b h = grind arith

pub below_test : (n m : ℕ) → n < m → nat_lt n m ≡ true
below_test n m h = grind arith

not_among : (v : VarId) (vs : List VarId) → IsNotIn v vs → is_among v vs ≡ false
not_among v [] h = refl
not_among v (w ∷ ws) h = or_from _ _ (not_same w.0 v.0 h.0) (not_among v ws h.1)

pub all_different : (vs : List VarId) → Differ vs → are_different vs ≡ true
all_different [] h = refl
all_different (v ∷ vs) h = and_from _ _ (ap not (not_among v vs h.0)) (all_different vs h.1)

not_kept : (v : VarId) (ks : List Kept) → IsNotIn v (variables_of ks) → is_kept_among v ks ≡ false
not_kept v [] h = refl
not_kept v (k ∷ ks) h = or_from _ _ (not_same k.variable.0 v.0 h.0) (not_kept v ks h.1)

pub keep_apart : (ks : List Kept) → Differ (variables_of ks) → keep_different ks ≡ true
keep_apart [] h = refl
keep_apart (k ∷ ks) h = and_from _ _ (ap not (not_kept k.variable ks h.0)) (keep_apart ks h.1)

module _ (e : ExpandedTree) where
  there_below : (v : VarId) → IsThere (frame_of e) v → nat_lt v.0 (length (map width e.variables)) ≡ true
  there_below v h = below_test v.0 (length (map width e.variables)) (subst (λ n. v.0 < n) (sym (length-map e.variables width)) (slice_get_within e.variables v.0 h.0 h.1))

  pub all_there : (vs : List VarId) → ((i : ℕ) (v : VarId) → slice_get vs i ≡ Some v → IsThere (frame_of e) v) → are_variables (map width e.variables) vs ≡ true
  all_there [] h = refl
  all_there (v ∷ vs) h = and_from _ _ (there_below v (h 0 v refl)) (all_there vs (λ i w at. h (suc i) w at))

  -- ---- kept scalars

  word_there : (v : VarId) (word : ℕ) → IsThere (frame_of e) v → word < 2 ^ width (type_of (slice_get e.variables v.0)) → is_word_of (slice_get (map width e.variables) v.0) word ≡ true
  word_there v word h lt =
      ap (λ o. is_word_of o word) (slice_get-map width e.variables v.0 ∙ ap (option_map width) h.1) ∙ below_test word (2 ^ width h.0) (subst (λ o. word < 2 ^ width (type_of o)) h.1 lt)

  abbrev pub KeptIs : List VarId → Kept → Bool
  KeptIs params k = is_word_of (slice_get (map width e.variables) k.variable.0) k.value && not (is_among k.variable params)

  pub kept_are : (params : List VarId) (ks : List Kept) → ((i : ℕ) (k : Kept) → slice_get ks i ≡ Some k → IsThere (frame_of e) k.variable) → FillVariables e (variables_of ks) (map (λ k. k.value) ks) → AreApart (variables_of ks) params
      → list_all (KeptIs params) ks ≡ true
  kept_are params [] there fill apart = refl
  kept_are params (k ∷ ks) there fill apart =
      and_from _ _ (and_from _ _ (word_there k.variable k.value (there 0 k refl) fill.0) (ap not (not_among k.variable params apart.0))) (kept_are params ks (λ i z at. there (suc i) z at) fill.1 apart.1)
