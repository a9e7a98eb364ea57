-- The frame of a plan that has that of an expanded program is sound.
use Rattle.std.proofs.Common.{◌≡◌, ℕ, zero, suc, ◌≤◌, Bool, true, false, refl, sym, ap, ◌∙◌, subst, List, [], ◌∷◌, map, filter, length, Option, Some, None, arith}
use Rattle.std.specs.Prelude.{slice_get, nat_lt, if◌then◌else◌}
use Rattle.std.proofs.lemmas.Bool.{le-ltb, lt-ltb, ltb-true, ltb-false}
use Rattle.hls_base.specs.ArrayAddress.{addresses}
use Rattle.hls_base.specs.declared.number.Kept.{Kept}
use Rattle.hls_base.specs.declared.number.VarId.{VarId}
use Rattle.pieces.specs.Program.{ArrayTree}
use Rattle.c_meaning.specs.PieceRuns.Runs.{variables_of}
use Rattle.clock_runs.proofs.Lists.{some_same, no_some}
use Rattle.sound_trees.proofs.Renamed.{length_map}
use Rattle.timed_pieces.specs.StartedWords.FirstWords.{HasOneSource, FillsIfAny, IsNotIn, Differ, AreApart}
use Rattle.timed_pieces.proofs.StartedWords.Places.{address_count}
use Rattle.datapath.specs.Plans.{Array}
use Rattle.compiled_plans.specs.Frames.{plan_array}
use Rattle.compiled_plans.specs.Laws.{FramesAreSound}
use Rattle.compiled_plans.proofs.Lists.{mapped, at_map}

true_false : {A : Type 0} → true ≡ false → A
true_false e = cc

-- ---- variables that differ

not_at : (v : VarId) (ws : List VarId) (k : ℕ) (w : VarId) → IsNotIn v ws → slice_get ws k ≡ Some w → v.0 ≡ w.0 → ⊥
not_at v [] k w h at e = no_some at
not_at v (x ∷ ws) zero w h at e = h.0 (e ∙ ap (λ (z : VarId). z.0) (sym (some_same at)))
not_at v (x ∷ ws) (suc k) w h at e = not_at v ws k w h.1 at e

differ_at : (vs : List VarId) → Differ vs → (k n : ℕ) (v w : VarId) → slice_get vs k ≡ Some v → slice_get vs n ≡ Some w → v.0 ≡ w.0 → k ≡ n
differ_at [] h k n v w a b e = absurd (no_some a)
differ_at (x ∷ vs) h zero zero v w a b e = refl
differ_at (x ∷ vs) h zero (suc n) v w a b e = absurd (not_at x vs n w h.0 b (ap (λ (z : VarId). z.0) (some_same a) ∙ e))
differ_at (x ∷ vs) h (suc k) zero v w a b e = absurd (not_at x vs k v h.0 a (ap (λ (z : VarId). z.0) (some_same b) ∙ sym e))
differ_at (x ∷ vs) h (suc k) (suc n) v w a b e = ap suc (differ_at vs h.1 k n v w a b e)

apart_at : (vs ws : List VarId) → AreApart vs ws → (k n : ℕ) (v w : VarId) → slice_get vs k ≡ Some v → slice_get ws n ≡ Some w → v.0 ≡ w.0 → ⊥
apart_at [] ws h k n v w a b e = no_some a
apart_at (x ∷ vs) ws h zero n v w a b e = not_at x ws n w h.0 b (ap (λ (z : VarId). z.0) (some_same a) ∙ e)
apart_at (x ∷ vs) ws h (suc k) n v w a b e = apart_at vs ws h.1 k n v w a b e

below_suc : (j n : ℕ) → nat_lt (suc j) (suc n) ≡ nat_lt j n
below_suc j n = by (nat_lt j n) refl where
  by : (c : Bool) → nat_lt j n ≡ c → nat_lt (suc j) (suc n) ≡ nat_lt j n
  by true e = (let l = ltb-true j n e in lt-ltb (suc j) (suc n) (omega (arith, l)) ∙ sym e)
  by false e = (let l = ltb-false j n e in le-ltb (suc j) (suc n) (omega (arith, l)) ∙ sym e)

-- ---- arrays of the host

abbrev is_host : Array → Bool
is_host a = a.host

abbrev First : List Array → Type 0
First arrays = (i k : ℕ) (a b : Array) → slice_get arrays i ≡ Some a → slice_get arrays k ≡ Some b → i ≤ k → b.host ≡ true → a.host ≡ true

none_kept : (xs : List Array) → ((i : ℕ) (a : Array) → slice_get xs i ≡ Some a → a.host ≡ false) → filter is_host xs ≡ []
none_kept [] h = refl
none_kept (x ∷ xs) h = ap (λ c. if c then x ∷ filter is_host xs else filter is_host xs) (h zero x refl) ∙ none_kept xs (λ i a at. h (suc i) a at)

host_at : (xs : List Array) → First xs → (i : ℕ) (a : Array) → slice_get xs i ≡ Some a → a.host ≡ nat_lt i (length (filter is_host xs))
host_at [] h i a at = absurd (no_some at)
host_at (x ∷ xs) h i a at = by (λ r j q. host_at xs r j a q) x.host refl i at where
  rest : First xs
  rest j k b c p q l e = h (suc j) (suc k) b c p q (omega (arith, l)) e

  inner : x.host ≡ false → (j : ℕ) (b : Array) → slice_get (x ∷ xs) j ≡ Some b → b.host ≡ false
  inner e j b q = of b.host refl where
    of : (c : Bool) → b.host ≡ c → b.host ≡ false
    of false r = r
    of true r = true_false (sym (h zero j x b refl q (omega arith) r) ∙ e)

  by : ((r : First xs) (j : ℕ) → slice_get xs j ≡ Some a → a.host ≡ nat_lt j (length (filter is_host xs))) → (c : Bool) → x.host ≡ c → (j : ℕ) → slice_get (x ∷ xs) j ≡ Some a → a.host ≡ nat_lt j (length (filter is_host (x ∷ xs)))
  by further true e zero q = ap (λ (z : Array). z.host) (sym (some_same q)) ∙ e ∙ sym (lt-ltb 0 (suc (length (filter is_host xs))) (omega arith)) ∙ ap (λ c. nat_lt 0 (length (if c then x ∷ filter is_host xs else filter is_host xs))) (sym e)
  by further true e (suc j) q = further rest j q ∙ sym (below_suc j (length (filter is_host xs))) ∙ ap (λ c. nat_lt (suc j) (length (if c then x ∷ filter is_host xs else filter is_host xs))) (sym e)
  by further false e j q = inner e j a q ∙ sym (le-ltb j 0 (omega arith)) ∙ ap (λ l. nat_lt j (length l)) (sym (none_kept (x ∷ xs) (inner e)))

-- ---- contents

host_alone : (host : Bool) (table first : Option (List ℕ)) → HasOneSource host table first → host ≡ true → (table ≡ None) × (first ≡ None)
host_alone true None None h e = (refl, refl)
host_alone true (Some t) first h e = absurd h
host_alone true None (Some f) h e = absurd h
host_alone false table first h e = true_false (sym e)

first_alone : (host : Bool) (table first : Option (List ℕ)) (row : List ℕ) → HasOneSource host table first → first ≡ Some row → table ≡ None
first_alone true None first row h e = refl
first_alone true (Some t) first row h e = absurd h
first_alone false None first row h e = refl
first_alone false (Some t) None row h e = absurd (no_some e)
first_alone false (Some t) (Some f) row h e = absurd h

-- ---- the whole

pub sound : FramesAreSound
sound e p frame contents hosts few = record {
  few = (let l = ap length frame.arrays ∙ length_map plan_array e.arrays in omega (arith, l, few));
  hosts_first = λ a array at. host_at p.arrays (subst First (sym frame.arrays) first) a array at;
  hosts = λ a array at is. (let x = found a array at in subst (λ (z : Array). z.host ≡ true → (z.table ≡ None) × (z.first ≡ None)) x.1.1 (host_alone x.0.host x.0.table x.0.initial (contents.arrays a x.0 x.1.0).source) is);
  firsts = λ a array row at is. (let x = found a array at in
      let g : (z : Array) → plan_array x.0 ≡ z → z.first ≡ Some row → (z.table ≡ None) × (length row ≡ length (addresses z.dims)) = λ z q r. subst (λ (y : Array). y.first ≡ Some row → (y.table ≡ None) × (length row ≡ length (addresses y.dims))) q
      (λ s. (first_alone x.0.host x.0.table x.0.initial row (contents.arrays a x.0 x.1.0).source s, (subst (FillsIfAny x.0) s (contents.arrays a x.0 x.1.0).initial).0 ∙ sym (address_count x.0.lengths))) r in
      g array x.1.1 is);
  parameters = λ k n v w a b same. differ_at e.params contents.params k n v w (ap (λ (l : List VarId). slice_get l k) (sym frame.parameters) ∙ a) (ap (λ (l : List VarId). slice_get l n) (sym frame.parameters) ∙ b) same;
  kept = λ k n s t a b same. differ_at (variables_of e.kept) contents.kept k n s.variable t.variable (variable_at k s a) (variable_at n t b) same;
  apart = λ k n v s a b same. apart_at (variables_of e.kept) e.params contents.apart n k s.variable v (variable_at n s b) (ap (λ (l : List VarId). slice_get l k) (sym frame.parameters) ∙ a) (sym same);
} where
  found : (a : ℕ) (array : Array) → slice_get p.arrays a ≡ Some array → (x : ArrayTree) × ((slice_get e.arrays a ≡ Some x) × (plan_array x ≡ array))
  found a array at = mapped plan_array e.arrays a array (ap (λ l. slice_get l a) (sym frame.arrays) ∙ at)

  first : First (map plan_array e.arrays)
  first i k a b p1 q1 l is =
      let x = mapped plan_array e.arrays i a p1 in
      let y = mapped plan_array e.arrays k b q1 in
      ap (λ (z : Array). z.host) (sym x.1.1) ∙ hosts i k x.0 y.0 x.1.0 y.1.0 l (ap (λ (z : Array). z.host) y.1.1 ∙ is)

  variable_at : (k : ℕ) (s : Kept) → slice_get p.kept k ≡ Some s → slice_get (variables_of e.kept) k ≡ Some s.variable
  variable_at k s at = at_map (λ (z : Kept). z.variable) e.kept k s (ap (λ (l : List Kept). slice_get l k) (sym frame.kept) ∙ at)
