-- The last settings of each variable, in order.
use Rattle.std.proofs.Common.{◌≡◌, ◌∙◌, ℕ, zero, suc, ◌+◌, ◌<◌, ◌≤◌, Bool, true, false, not, refl, ap, sym, subst, List, [], ◌∷◌, ◌++◌, length, drop, Option, Some, None, arith, append_assoc}
use Rattle.std.specs.Prelude.{◌==◌, ◌||◌, if◌then◌else◌}
use Rattle.std.proofs.lemmas.Bool.{false≢true}
use Rattle.std.proofs.lemmas.Bool.Decides.{Decides-eqb}
use Rattle.hls_base.specs.declared.number.VarId.{VarId}
use Rattle.ir_core.specs.declared.body.Out.{Out}
use Rattle.passes.specs.Lowering.Outs.{operand_eq, without, own_out}
use Rattle.passes.specs.Lowering.Operations.{entry_value}
use Rattle.passes.specs.Lowering.Copies.{outs_set}
use Rattle.block_draft.specs.declared.outs.Latest.{Latest}
use Rattle.block_draft.specs.Settings.{settled_behind, settled, latest_from, placed, own_if}

-- without what later ones set
abbrev unset : List Out → List Out → List Out
unset outs [] = outs
unset outs (x ∷ xs) = unset (without outs x.variable) xs

abbrev pub lasts : List Out → List Out
lasts [] = []
lasts (x ∷ xs) = own_if (not (outs_set xs x.variable)) x ++ lasts xs

without_append : (xs ys : List Out) (v : VarId) → without (xs ++ ys) v ≡ without xs v ++ without ys v
without_append [] ys v = refl
without_append (x ∷ xs) ys v = by (x.variable.0 == v.0) (without_append xs ys v) where
  by : (b : Bool) → without (xs ++ ys) v ≡ without xs v ++ without ys v → (if b then without (xs ++ ys) v else x ∷ without (xs ++ ys) v) ≡ (if b then without xs v else x ∷ without xs v) ++ without ys v
  by true h = h
  by false h = ap (λ l. x ∷ l) h

unset_append : (xs ys zs : List Out) → unset (xs ++ ys) zs ≡ unset xs zs ++ unset ys zs
unset_append xs ys [] = refl
unset_append xs ys (z ∷ zs) = ap (λ l. unset l zs) (without_append xs ys z.variable) ∙ unset_append (without xs z.variable) (without ys z.variable) zs

unset_none : (zs : List Out) → unset [] zs ≡ []
unset_none [] = refl
unset_none (z ∷ zs) = unset_none zs

eq_turned : (a b : ℕ) → (a == b) ≡ true → (b == a) ≡ true
eq_turned a b e = (Decides-eqb b a).1 (sym ((Decides-eqb a b).0 e))

eq_turned_back : (a b : ℕ) → (a == b) ≡ false → (b == a) ≡ false
eq_turned_back a b e = by (b == a) refl where
  by : (c : Bool) → (b == a) ≡ c → c ≡ false
  by true h = absurd (false≢true (sym e ∙ eq_turned b a h))
  by false h = refl

unset_one : (x : Out) (zs : List Out) → unset (x ∷ []) zs ≡ (if outs_set zs x.variable then [] else x ∷ [])
unset_one x [] = refl
unset_one x (z ∷ zs) = by (x.variable.0 == z.variable.0) refl (unset_one x zs) where
  by : (b : Bool) → (x.variable.0 == z.variable.0) ≡ b → unset (x ∷ []) zs ≡ (if outs_set zs x.variable then [] else x ∷ []) → unset (if b then [] else x ∷ []) zs ≡ (if (z.variable.0 == x.variable.0) || outs_set zs x.variable then [] else x ∷ [])
  by true e ih = unset_none zs ∙ sym (ap (λ c. if c || outs_set zs x.variable then [] else x ∷ []) (eq_turned x.variable.0 z.variable.0 e))
  by false e ih = ih ∙ sym (ap (λ c. if c || outs_set zs x.variable then [] else x ∷ []) (eq_turned_back x.variable.0 z.variable.0 e))

unset_own : (x : Out) (zs : List Out) → unset (own_out x.variable x.value) zs ≡ own_if (not (outs_set zs x.variable)) x
unset_own x zs = by (operand_eq x.value (entry_value x.variable)) (outs_set zs x.variable) (unset_one x zs) where
  by : (b c : Bool) → unset (x ∷ []) zs ≡ (if c then [] else x ∷ []) → unset (if b then [] else x ∷ []) zs ≡ (if not c then (if b then [] else x ∷ []) else [])
  by true true h = unset_none zs
  by true false h = unset_none zs
  by false true h = h
  by false false h = h

append_none : (l : List Out) → l ++ [] ≡ l
append_none [] = refl
append_none (x ∷ xs) = ap (λ l. x ∷ l) (append_none xs)

settled_lasts : (outs xs : List Out) → settled_behind outs xs ≡ unset outs xs ++ lasts xs
settled_lasts outs [] = sym (append_none outs)
settled_lasts outs (x ∷ xs) =
    settled_lasts (without outs x.variable ++ own_out x.variable x.value) xs
    ∙ ap (λ l. l ++ lasts xs) (unset_append (without outs x.variable) (own_out x.variable x.value) xs)
    ∙ append_assoc (unset (without outs x.variable) xs) (unset (own_out x.variable x.value) xs) (lasts xs)
    ∙ ap (λ l. unset (without outs x.variable) xs ++ (l ++ lasts xs)) (unset_own x xs)

pub lasts_settled : (xs : List Out) → lasts xs ≡ settled xs
lasts_settled xs = sym (settled_lasts [] xs ∙ ap (λ l. l ++ lasts xs) (unset_none xs))

-- ---- the place of the last setting

later_is_other : (k n : ℕ) (l : Latest) (xs : List Out) (v : VarId) → k < l.place → k < n → placed k (latest_from n (Some l) xs v) ≡ false
later_is_other k n l [] v p q = by (l.place == k) refl where
  by : (b : Bool) → (l.place == k) ≡ b → b ≡ false
  by true e = let same = (Decides-eqb l.place k).0 e in absurd (omega (arith, same, p))
  by false e = refl
later_is_other k n l (x ∷ xs) v p q = by (x.variable.0 == v.0) (later_is_other k (n + 1) (record { place = n; value = x.value }) xs v q (omega (arith, q))) (later_is_other k (n + 1) l xs v p (omega (arith, q))) where
  by : (b : Bool) → placed k (latest_from (n + 1) (Some (record { place = n; value = x.value })) xs v) ≡ false → placed k (latest_from (n + 1) (Some l) xs v) ≡ false
      → placed k (latest_from (n + 1) (if b then Some (record { place = n; value = x.value }) else Some l) xs v) ≡ false
  by true h g = h
  by false h g = g

is_last_here : (k n : ℕ) (l : Latest) (xs : List Out) (v : VarId) → l.place ≡ k → k < n → placed k (latest_from n (Some l) xs v) ≡ not (outs_set xs v)
is_last_here k n l [] v same q = (Decides-eqb l.place k).1 same
is_last_here k n l (x ∷ xs) v same q = by (x.variable.0 == v.0) (is_last_here k (n + 1) l xs v same (omega (arith, q))) where
  by : (b : Bool) → placed k (latest_from (n + 1) (Some l) xs v) ≡ not (outs_set xs v) → placed k (latest_from (n + 1) (if b then Some (record { place = n; value = x.value }) else Some l) xs v) ≡ not (b || outs_set xs v)
  by true h = later_is_other k (n + 1) (record { place = n; value = x.value }) xs v q (omega (arith, q))
  by false h = h

none_there : {x : Out} {rest : List Out} → [] ≡ x ∷ rest → false ≡ true
none_there e = cc

last_from : (n : ℕ) (found : Option Latest) (xs : List Out) (i : ℕ) (x : Out) (rest : List Out) → drop i xs ≡ x ∷ rest → placed (n + i) (latest_from n found xs x.variable) ≡ not (outs_set rest x.variable)
last_from n found [] zero x rest h = absurd (false≢true (none_there h))
last_from n found [] (suc i) x rest h = absurd (false≢true (none_there h))
last_from n found (y ∷ ys) zero x rest h =
    let there : (m : ℕ) → n + 0 ≡ m → placed m (latest_from n found (x ∷ rest) x.variable) ≡ not (outs_set rest x.variable) = λ m e.
    ap (λ b. placed m (latest_from (n + 1) (if b then Some (record { place = n; value = x.value }) else found) rest x.variable)) ((Decides-eqb x.variable.0 x.variable.0).1 refl)
    ∙ is_last_here m (n + 1) (record { place = n; value = x.value }) rest x.variable (omega (arith, e)) (omega (arith, e)) in
    ap (λ l. placed (n + 0) (latest_from n found l x.variable)) h ∙ there (n + 0) refl
last_from n found (y ∷ ys) (suc i) x rest h =
    let m : n + suc i ≡ (n + 1) + i = omega arith in
    ap (λ k. placed k (latest_from n found (y ∷ ys) x.variable)) m ∙ last_from (n + 1) (if y.variable.0 == x.variable.0 then Some (record { place = n; value = y.value }) else found) ys i x rest h

pub last_at : (xs : List Out) (i : ℕ) (x : Out) (rest : List Out) → drop i xs ≡ x ∷ rest → placed i (latest_from 0 None xs x.variable) ≡ not (outs_set rest x.variable)
last_at xs i x rest h = let m : 0 + i ≡ i = omega arith in subst (λ k. placed k (latest_from 0 None xs x.variable) ≡ not (outs_set rest x.variable)) m (last_from 0 None xs i x rest h)

drop_past : (n : ℕ) (xs : List Out) → length xs ≤ n → drop n xs ≡ []
drop_past zero [] h = refl
drop_past (suc n) [] h = refl
drop_past zero (x ∷ xs) h = absurd (omega (arith, h))
drop_past (suc n) (x ∷ xs) h = drop_past n xs (omega (arith, h))

pub listed_all : (outs xs : List Out) (n : ℕ) → outs ++ lasts (drop n xs) ≡ lasts xs → length xs ≤ n → outs ≡ settled xs
listed_all outs xs n h past = sym (append_none outs) ∙ sym (ap (λ l. outs ++ lasts l) (drop_past n xs past)) ∙ h ∙ lasts_settled xs

pub listed_more : (outs now_ xs : List Out) (n : ℕ) (x : Out) (is_last : Bool) → outs ++ lasts (drop n xs) ≡ lasts xs → drop n xs ≡ x ∷ drop (n + 1) xs
    → is_last ≡ placed n (latest_from 0 None xs x.variable) → now_ ≡ outs ++ own_if is_last x → now_ ++ lasts (drop (n + 1) xs) ≡ lasts xs
listed_more outs now_ xs n x is_last h split last e =
    ap (λ l. l ++ lasts (drop (n + 1) xs)) (e ∙ ap (λ b. outs ++ own_if b x) (last ∙ last_at xs n x (drop (n + 1) xs) split))
    ∙ append_assoc outs (own_if (not (outs_set (drop (n + 1) xs) x.variable)) x) (lasts (drop (n + 1) xs))
    ∙ sym (ap (λ l. outs ++ lasts l) split) ∙ h
