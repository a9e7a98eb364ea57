-- What is wanted of each target, as it is collected push by push.
use Rattle.std.proofs.Common.{◌≡◌, ℕ, zero, suc, ◌+◌, ◌<◌, ◌≤◌, Bool, true, false, not, cond, min, List, [], ◌∷◌, ◌++◌, map, length, set, get_or, take, position, Option, Some, None, refl, sym, ap, ◌∙◌, arith}
use Rattle.std.specs.Prelude.{filter, nat_lt, if◌then◌else◌}
use Rattle.std.specs.List.{list_any, position_or_len}
use Rattle.std.proofs.lemmas.Bool.{false≢true, ltb-true, ltb-false}
use Rattle.std.proofs.lemmas.List.{append-nil, take_more}
use Rattle.indexmap.specs.IndexSet.{insert_key}
use Rattle.rtl_logic.specs.declared.select.Choice.{Choice}
use Rattle.circuit_context.specs.declared.wanted.role.Target.{Target}
use Rattle.circuit_context.specs.declared.wanted.log.Push.{Push}
use Rattle.circuit_context.specs.contracts.wanted.role.TargetPartialEq.TheImpl as target_impl
use Rattle.circuit_context.specs.Wanted.Roles.{same_target, given_in, choices_of}
use Rattle.circuit_context.proofs.WantedLemmas.Same.{same_target_is, same_target_self, target_eq_is}

abbrev pub target_eq : Target → Target → Bool
target_eq = target_impl.eq-value.it

-- the comparison in code is that of the definitions
pub eq_is : target_eq ≡ same_target
eq_is = λ i a b. target_eq_is a b i

-- the place of the first of these targets that is this one, or their number
abbrev pub place_in : Target → List Target → ℕ
place_in target keys = position_or_len (same_target target) keys

-- ---- keys

pub keys_kept : (keys : List Target) (k : Target) (b : Bool) → b ≡ not (list_any (target_eq k) keys) → b ≡ false → insert_key target_eq keys k ≡ keys
keys_kept keys k b is e = by (list_any (target_eq k) keys) (sym is ∙ e) where
  by : (c : Bool) → not c ≡ false → (if c then keys else keys ++ k ∷ []) ≡ keys
  by true h = refl
  by false h = absurd (false≢true (sym h))

pub keys_more : (keys : List Target) (k : Target) (b : Bool) → b ≡ not (list_any (target_eq k) keys) → b ≡ true → insert_key target_eq keys k ≡ keys ++ k ∷ []
keys_more keys k b is e = by (list_any (target_eq k) keys) (sym is ∙ e) where
  by : (c : Bool) → not c ≡ true → (if c then keys else keys ++ k ∷ []) ≡ keys ++ k ∷ []
  by true h = absurd (false≢true h)
  by false h = refl

place_behind : (keys : List Target) (k : Target) → place_in k (keys ++ k ∷ []) ≡ place_in k keys
place_behind [] k = ap (λ b. cond (not b) 1 0) (same_target_self k)
place_behind (x ∷ xs) k = ap (λ n. cond (not (same_target k x)) (1 + n) 0) (place_behind xs k)

-- a target has the place at which it was inserted
pub inserted_at : (keys more : List Target) (k : Target) (i : ℕ) → more ≡ insert_key target_eq keys k → i ≡ position_or_len (target_eq k) keys → i ≡ place_in k more
inserted_at keys more k i is at = at ∙ ap (λ f. position_or_len (f k) keys) eq_is ∙ sym (ap (place_in k) is ∙ by (list_any (target_eq k) keys)) where
  by : (c : Bool) → place_in k (if c then keys else keys ++ k ∷ []) ≡ place_in k keys
  by true = refl
  by false = place_behind keys k

-- ---- what is given, where each target has a value that holds its choices

module _ {V : Type 0} (items : V → List Choice) where
  -- a target more, with no choices
  given_new : (keys : List Target) (vs : List V) (k t : Target) (v : V) → length vs ≡ length keys → items v ≡ []
      → given_in (keys ++ k ∷ []) (map items (vs ++ v ∷ [])) t ≡ given_in keys (map items vs) t
  given_new [] [] k t v long none = by (same_target t k) where
    by : (b : Bool) → (if b then items v else []) ≡ []
    by true = none
    by false = refl
  given_new [] (w ∷ vs) k t v long none = absurd (omega arith)
  given_new (x ∷ xs) [] k t v long none = absurd (omega arith)
  given_new (x ∷ xs) (w ∷ vs) k t v long none = ap (λ l. if same_target t x then items w else l) (given_new xs vs k t v (omega arith) none)

  -- so it is where the target was inserted
  pub given_placed : (keys more : List Target) (vs ws : List V) (k t : Target) (v : V) (b : Bool) → b ≡ not (list_any (target_eq k) keys) → b ≡ true → more ≡ insert_key target_eq keys k
      → length vs ≡ length keys → items v ≡ [] → ws ≡ vs ++ v ∷ [] → given_in more (map items ws) t ≡ given_in keys (map items vs) t
  given_placed keys more vs ws k t v b is e grown long none pushed =
      ap (λ ks. given_in ks (map items ws) t) (grown ∙ keys_more keys k b is e) ∙ ap (λ l. given_in (keys ++ k ∷ []) (map items l) t) pushed ∙ given_new keys vs k t v long none

  -- a choice more at the place of its target
  pub given_set : (keys : List Target) (vs : List V) (k t : Target) (i : ℕ) (w d : V) (c : Choice) → place_in k keys ≡ i → i < length keys → length vs ≡ length keys
      → items w ≡ items (get_or vs i d) ++ c ∷ []
      → given_in keys (map items (set vs i w)) t ≡ given_in keys (map items vs) t ++ (if same_target t k then c ∷ [] else [])
  given_set [] vs k t i w d c at low long e = absurd (omega arith)
  given_set (x ∷ xs) [] k t i w d c at low long e = absurd (omega arith)
  given_set (x ∷ xs) (v ∷ vs) k t zero w d c at low long e = by (same_target k x) refl at where
    rest : List Choice
    rest = given_in xs (map items vs) t

    first : (b : Bool) → (if b then items w else rest) ≡ (if b then items v else rest) ++ (if b then c ∷ [] else [])
    first true = e
    first false = sym (append-nil rest)

    by : (b : Bool) → same_target k x ≡ b → cond (not b) (1 + place_in k xs) 0 ≡ 0
        → (if same_target t x then items w else rest) ≡ (if same_target t x then items v else rest) ++ (if same_target t k then c ∷ [] else [])
    by true h z = first (same_target t x) ∙ ap (λ y. (if same_target t x then items v else rest) ++ (if same_target t y then c ∷ [] else [])) (sym (same_target_is k x h))
    by false h z = absurd (omega arith)
  given_set (x ∷ xs) (v ∷ vs) k t (suc i) w d c at low long e =
      by (same_target k x) refl at (λ m. given_set xs vs k t i w d c m (omega arith) (omega arith) e) where
        old : List Choice
        old = given_in xs (map items vs) t

        new : List Choice
        new = given_in xs (map items (set vs i w)) t

        -- a target that is the first one is not this one
        other : (b a : Bool) → same_target t x ≡ b → same_target t k ≡ a → same_target k x ≡ false → new ≡ old ++ (if a then c ∷ [] else [])
            → (if b then items v else new) ≡ (if b then items v else old) ++ (if a then c ∷ [] else [])
        other true true p q h more = absurd (false≢true (sym h ∙ ap (λ y. same_target y x) (sym (same_target_is t k q)) ∙ p))
        other true false p q h more = sym (append-nil (items v))
        other false a p q h more = more

        by : (b : Bool) → same_target k x ≡ b → cond (not b) (1 + place_in k xs) 0 ≡ suc i
            → (place_in k xs ≡ i → new ≡ old ++ (if same_target t k then c ∷ [] else []))
            → (if same_target t x then items v else new) ≡ (if same_target t x then items v else old) ++ (if same_target t k then c ∷ [] else [])
        by true h s more = absurd (omega arith)
        by false h s more = other (same_target t x) (same_target t k) refl refl h (more (omega arith))

  given_there : (keys : List Target) (vs : List V) (t : Target) (i : ℕ) (d : V) → place_in t keys ≡ i → i < length keys → i < length vs
      → given_in keys (map items vs) t ≡ items (get_or vs i d)
  given_there [] vs t i d at low l = absurd (omega arith)
  given_there (x ∷ xs) [] t i d at low l = absurd (omega arith)
  given_there (x ∷ xs) (v ∷ vs) t zero d at low l = by (same_target t x) at where
    by : (b : Bool) → cond (not b) (1 + place_in t xs) 0 ≡ 0 → (if b then items v else given_in xs (map items vs) t) ≡ items v
    by true z = refl
    by false z = absurd (omega arith)
  given_there (x ∷ xs) (v ∷ vs) t (suc i) d at low l = by (same_target t x) at (λ m. given_there xs vs t i d m (omega arith) (omega arith)) where
    by : (b : Bool) → cond (not b) (1 + place_in t xs) 0 ≡ suc i → (place_in t xs ≡ i → given_in xs (map items vs) t ≡ items (get_or vs i d))
        → (if b then items v else given_in xs (map items vs) t) ≡ items (get_or vs i d)
    by true s more = absurd (omega arith)
    by false s more = more (omega arith)

  -- beyond the keys, or beyond what they have, there is nothing
  given_beyond : (keys : List Target) (vs : List V) (t : Target) (i : ℕ) → place_in t keys ≡ i → min (length keys) (length vs) ≤ i → given_in keys (map items vs) t ≡ []
  given_beyond [] vs t i at past = refl
  given_beyond (x ∷ xs) [] t i at past = refl
  given_beyond (x ∷ xs) (v ∷ vs) t zero at past = absurd (omega arith)
  given_beyond (x ∷ xs) (v ∷ vs) t (suc i) at past = by (same_target t x) at (λ m. given_beyond xs vs t i m (omega arith)) where
    by : (b : Bool) → cond (not b) (1 + place_in t xs) 0 ≡ suc i → (place_in t xs ≡ i → given_in xs (map items vs) t ≡ []) → (if b then items v else given_in xs (map items vs) t) ≡ []
    by true s more = absurd (omega arith)
    by false s more = more (omega arith)

  -- ---- what a search finds

  found_at : (n m i : ℕ) → cond (nat_lt n m) (Some n) None ≡ Some i → (n ≡ i) × (n < m)
  found_at n m i e = by (nat_lt n m) refl e where
    by : (b : Bool) → nat_lt n m ≡ b → cond b (Some n) None ≡ Some i → (n ≡ i) × (n < m)
    by true h s = (cc, ltb-true n m h)
    by false h s = (cc)

  found_nowhere : (n m : ℕ) → cond (nat_lt n m) (Some n) None ≡ None → m ≤ n
  found_nowhere n m e = by (nat_lt n m) refl e where
    by : (b : Bool) → nat_lt n m ≡ b → cond b (Some n) None ≡ None → m ≤ n
    by true h s = (cc)
    by false h s = ltb-false n m h

  searched : (keys : List Target) (t : Target) (r o : Option ℕ) → r ≡ position (target_eq t) keys → r ≡ o → position (same_target t) keys ≡ o
  searched keys t r o is at = sym (is ∙ ap (λ f. position (f t) keys) eq_is) ∙ at

  pub given_found : (keys : List Target) (vs : List V) (t : Target) (r : Option ℕ) (i : ℕ) (d : V) → r ≡ position (target_eq t) keys → r ≡ Some i → i < length vs
      → given_in keys (map items vs) t ≡ items (get_or vs i d)
  given_found keys vs t r i d is at l =
      let f = found_at (place_in t keys) (length keys) i (searched keys t r (Some i) is at) in
      given_there keys vs t i d f.0 (omega (arith, f.0, f.1)) l

  pub given_past : (keys : List Target) (vs : List V) (t : Target) (r : Option ℕ) (i : ℕ) → r ≡ position (target_eq t) keys → r ≡ Some i → length vs ≤ i
      → given_in keys (map items vs) t ≡ []
  given_past keys vs t r i is at l =
      let f = found_at (place_in t keys) (length keys) i (searched keys t r (Some i) is at) in
      given_beyond keys vs t i f.0 (omega arith)

  pub given_nowhere : (keys : List Target) (vs : List V) (t : Target) (r : Option ℕ) → r ≡ position (target_eq t) keys → r ≡ None → given_in keys (map items vs) t ≡ []
  given_nowhere keys vs t r is at =
      let f = found_nowhere (place_in t keys) (length keys) (searched keys t r None is at) in
      given_beyond keys vs t (place_in t keys) refl (omega arith)

-- ---- what the log wants

choices_push : (t : Target) (pushes : List Push) (x : Push) → choices_of t (pushes ++ x ∷ []) ≡ choices_of t pushes ++ (if same_target t x.target then x.choice ∷ [] else [])
choices_push t [] x = by (same_target t x.target) where
  by : (b : Bool) → map (λ (q : Push). q.choice) (if b then x ∷ [] else []) ≡ (if b then x.choice ∷ [] else [])
  by true = refl
  by false = refl
choices_push t (y ∷ ys) x = by (same_target t y.target) (choices_push t ys x) where
  by : (b : Bool) → choices_of t (ys ++ x ∷ []) ≡ choices_of t ys ++ (if same_target t x.target then x.choice ∷ [] else [])
      → map (λ (q : Push). q.choice) (if b then y ∷ filter (λ (q : Push). same_target t q.target) (ys ++ x ∷ []) else filter (λ (q : Push). same_target t q.target) (ys ++ x ∷ []))
      ≡ map (λ (q : Push). q.choice) (if b then y ∷ filter (λ (q : Push). same_target t q.target) ys else filter (λ (q : Push). same_target t q.target) ys)
      ++ (if same_target t x.target then x.choice ∷ [] else [])
  by true more = ap (λ l. y.choice ∷ l) more
  by false more = more

-- one push more
choices_more : (t : Target) (pushes : List Push) (i : ℕ) (d : Push) → i < length pushes
    → choices_of t (take (i + 1) pushes) ≡ choices_of t (take i pushes) ++ (if same_target t (get_or pushes i d).target then (get_or pushes i d).choice ∷ [] else [])
choices_more t pushes i d l = ap (choices_of t) (take_more pushes i d l) ∙ choices_push t (take i pushes) (get_or pushes i d)

pub grouped_more : (t : Target) (pushes : List Push) (i : ℕ) (d : Push) (old new : List Choice) → i < length pushes → old ≡ choices_of t (take i pushes)
    → new ≡ old ++ (if same_target t (get_or pushes i d).target then (get_or pushes i d).choice ∷ [] else []) → new ≡ choices_of t (take (i + 1) pushes)
grouped_more t pushes i d old new l before more =
    more ∙ ap (λ cs. cs ++ (if same_target t (get_or pushes i d).target then (get_or pushes i d).choice ∷ [] else [])) before ∙ sym (choices_more t pushes i d l)
