-- What variables hold behind settings in order, and where they were set last.
use Rattle.std.proofs.Common.{◌≡◌, ◌∙◌, ℕ, ◌+◌, Bool, true, false, ◌&&◌, refl, ap, sym, subst, inl, inr, List, [], ◌∷◌, ◌++◌, length, Option, Some, None, Vec, Global, vec_len, arith}
use Rattle.std.specs.Prelude.{◌==◌, if◌then◌else◌, cond}
use Rattle.std.specs.Map.{lookup}
use Rattle.std.proofs.lemmas.Bool.{false≢true}
use Rattle.std.proofs.lemmas.Bool.Decides.{eqb_tells, Decides-eqb}
use Rattle.hls_base.specs.declared.number.VarId.{VarId}
use Rattle.indexmap.specs.IndexMap.{insert_entry}
use Rattle.ir_core.specs.declared.body.Operand.{Operand}
use Rattle.ir_core.specs.declared.body.Out.{Out}
use Rattle.ir_core.specs.declared.body.Source.{Source}
use Rattle.ir_core.specs.declared.body.Source.TheVariants as source
use Rattle.ir_core.specs.contracts.body.SourcePartialEq.TheImpl as source_impl
use Rattle.passes.specs.Lowering.Operations.{entry_value}
use Rattle.passes.specs.Lowering.Outs.{operand_eq, held, without, own_out, with_out}
use Rattle.block_draft.specs.declared.outs.Latest.{Latest}
use Rattle.block_draft.specs.Settings.{var_eq, settled_behind, settled, latest_from, IsLatest}

-- ---- operands that are found equal are the same

both_first : (a b : Bool) → (a && b) ≡ true → a ≡ true
both_first true b e = refl
both_first false b e = e

both_second : (a b : Bool) → (a && b) ≡ true → b ≡ true
both_second true b e = e
both_second false b e = absurd (false≢true e)

number_same : (x y : ℕ) → (x == y) ≡ true → x ≡ y
number_same x y e = (Decides-eqb x y).0 e

source_same : (x y : Source) → source_impl.eq-value.it x y ≡ true → x ≡ y
source_same (source.Constant x) (source.Constant y) e = ap (λ n. source.Constant n) (number_same x y e)
source_same (source.Variable x) (source.Variable y) e = let p = number_same x.0 y.0 e in λ i. source.Variable (record { 0 = p i })
source_same (source.Result x) (source.Result y) e = let p = number_same x.0 y.0 e in λ i. source.Result (record { 0 = p i })
source_same x y e = absurd (false≢true e)

operand_same : (x y : Operand) → operand_eq x y ≡ true → x ≡ y
operand_same x y e =
    let p = source_same x.value y.value (both_first (source_impl.eq-value.it x.value y.value) (x.distance == y.distance) e) in
    let q = number_same x.distance y.distance (both_second (source_impl.eq-value.it x.value y.value) (x.distance == y.distance) e) in
    λ i. record { value = p i; distance = q i }

-- ---- what is held behind one more setting

same_number : (n : ℕ) → (n == n) ≡ true
same_number n = (Decides-eqb n n).1 refl

own_same : (v w : VarId) (x : Operand) → (v.0 == w.0) ≡ true → held (own_out v x) w ≡ x
own_same v w x same = either (operand_eq x (entry_value v)) refl where
  either : (c : Bool) → operand_eq x (entry_value v) ≡ c → held (if c then [] else record { variable = v; value = x } ∷ []) w ≡ x
  either true e = let p = number_same v.0 w.0 same in sym (operand_same x (entry_value v) e ∙ (λ i. entry_value (record { 0 = p i })))
  either false e = ap (λ b. if b then x else entry_value w) same

own_other : (v w : VarId) (x : Operand) → (v.0 == w.0) ≡ false → held (own_out v x) w ≡ entry_value w
own_other v w x ne = either (operand_eq x (entry_value v)) where
  either : (c : Bool) → held (if c then [] else record { variable = v; value = x } ∷ []) w ≡ entry_value w
  either true = refl
  either false = ap (λ b. if b then x else entry_value w) ne

-- of two numbers that are the same with the first, each is
one_same : (a b c : ℕ) → (a == b) ≡ true → (b == c) ≡ false → (a == c) ≡ false
one_same a b c e h = subst (λ n. (n == c) ≡ false) (sym (number_same a b e)) h

other_same : (a b c : ℕ) → (a == b) ≡ true → (b == c) ≡ true → (a == c) ≡ true
other_same a b c e h = subst (λ n. (n == c) ≡ true) (sym (number_same a b e)) h

one_other : (a b c : ℕ) → (a == b) ≡ false → (b == c) ≡ true → (a == c) ≡ false
one_other a b c e h = subst (λ n. (a == n) ≡ false) (number_same b c h) e

set_same : (outs : List Out) (v w : VarId) (x : Operand) → (v.0 == w.0) ≡ true → held (without outs v ++ own_out v x) w ≡ x
set_same [] v w x same = own_same v w x same
set_same (y ∷ ys) v w x same = either (y.variable.0 == v.0) refl (set_same ys v w x same) where
  either : (c : Bool) → (y.variable.0 == v.0) ≡ c → held (without ys v ++ own_out v x) w ≡ x → held ((if c then without ys v else y ∷ without ys v) ++ own_out v x) w ≡ x
  either true e ih = ih
  either false e ih = ap (λ b. if b then y.value else held (without ys v ++ own_out v x) w) (one_other y.variable.0 v.0 w.0 e same) ∙ ih

set_other : (outs : List Out) (v w : VarId) (x : Operand) → (v.0 == w.0) ≡ false → held (without outs v ++ own_out v x) w ≡ held outs w
set_other [] v w x ne = own_other v w x ne
set_other (y ∷ ys) v w x ne = either (y.variable.0 == v.0) refl (set_other ys v w x ne) where
  either : (c : Bool) → (y.variable.0 == v.0) ≡ c → held (without ys v ++ own_out v x) w ≡ held ys w
      → held ((if c then without ys v else y ∷ without ys v) ++ own_out v x) w ≡ (if y.variable.0 == w.0 then y.value else held ys w)
  either true e ih = ih ∙ sym (ap (λ b. if b then y.value else held ys w) (one_same y.variable.0 v.0 w.0 e ne))
  either false e ih = ap (λ z. if y.variable.0 == w.0 then y.value else z) ih

-- ---- settings in order

abbrev pub one : VarId → Operand → Out
one v x = record { variable = v; value = x }

settled_more : (outs xs : List Out) (x : Out) → settled_behind outs (xs ++ x ∷ []) ≡ without (settled_behind outs xs) x.variable ++ own_out x.variable x.value
settled_more outs [] x = refl
settled_more outs (y ∷ ys) x = settled_more (without outs y.variable ++ own_out y.variable y.value) ys x

pub set_more : (xs : List Out) (v : VarId) (x : Operand) → operand_eq (held (settled xs) v) x ≡ false → settled (xs ++ one v x ∷ []) ≡ with_out (settled xs) v x
set_more xs v x ne = settled_more [] xs (one v x) ∙ sym (ap (λ b. if b then settled xs else without (settled xs) v ++ own_out v x) ne)

pub set_kept : (outs : List Out) (v : VarId) (x : Operand) → operand_eq (held outs v) x ≡ true → outs ≡ with_out outs v x
set_kept outs v x e = sym (ap (λ b. if b then outs else without outs v ++ own_out v x) e)

abbrev pub value_or : VarId → Option Latest → Operand
value_or v None = entry_value v
value_or v (Some l) = l.value

held_behind : (n : ℕ) (found : Option Latest) (outs xs : List Out) (v : VarId) → held outs v ≡ value_or v found → held (settled_behind outs xs) v ≡ value_or v (latest_from n found xs v)
held_behind n found outs [] v h = h
held_behind n found outs (x ∷ xs) v h =
    either (x.variable.0 == v.0) refl (λ f. held_behind (n + 1) f (without outs x.variable ++ own_out x.variable x.value) xs v) where
      either : (c : Bool) → (x.variable.0 == v.0) ≡ c
          → ((f : Option Latest) → held (without outs x.variable ++ own_out x.variable x.value) v ≡ value_or v f
          → held (settled_behind (without outs x.variable ++ own_out x.variable x.value) xs) v ≡ value_or v (latest_from (n + 1) f xs v))
          → held (settled_behind (without outs x.variable ++ own_out x.variable x.value) xs) v ≡ value_or v (latest_from (n + 1) (if c then Some (record { place = n; value = x.value }) else found) xs v)
      either true e ih = ih (Some (record { place = n; value = x.value })) (set_same outs x.variable v x.value e)
      either false e ih = ih found (set_other outs x.variable v x.value e ∙ h)

pub held_settled : (xs : List Out) (v : VarId) → held (settled xs) v ≡ value_or v (latest_from 0 None xs v)
held_settled xs v = held_behind 0 None [] xs v refl

-- ---- where a variable was set last

abbrev pub later : ℕ → Operand → Latest
later n x = record { place = n; value = x }

latest_more : (n : ℕ) (found : Option Latest) (xs : List Out) (v w : VarId) (x : Operand)
    → latest_from n found (xs ++ one v x ∷ []) w ≡ (if v.0 == w.0 then Some (later (n + length xs) x) else latest_from n found xs w)
latest_more n found [] v w x = let m : n ≡ n + 0 = omega arith in ap (λ k. if v.0 == w.0 then Some (later k x) else found) m
latest_more n found (y ∷ ys) v w x =
    let m : (n + 1) + length ys ≡ n + length (y ∷ ys) = omega arith in
    latest_more (n + 1) (if y.variable.0 == w.0 then Some (later n y.value) else found) ys v w x
    ∙ ap (λ k. if v.0 == w.0 then Some (later k x) else latest_from (n + 1) (if y.variable.0 == w.0 then Some (later n y.value) else found) ys w) m

abbrev pub Entries : Type 0
Entries = List (VarId × Latest)

eq_turns : (a b : ℕ) → (a == b) ≡ (b == a)
eq_turns a b = elim (eqb_tells a b) [
  | inl h ↦ h.0 ∙ sym (subst (λ n. (n == a) ≡ true) h.1 (same_number a))
  | inr h ↦ h.0 ∙ sym (unlike (b == a) refl h.1)
] where
  unlike : (c : Bool) → (b == a) ≡ c → (a ≡ b → ⊥) → c ≡ false
  unlike true e ne = absurd (ne (sym (number_same b a e)))
  unlike false e ne = refl

looked_up_more : (es : Entries) (v w : VarId) (l : Latest) → lookup (var_eq w) (insert_entry var_eq es v l) ≡ (if v.0 == w.0 then Some l else lookup (var_eq w) es)
looked_up_more [] v w l = ap (λ b. cond b (Some l) None) (eq_turns w.0 v.0) ∙ by (v.0 == w.0) where
  by : (b : Bool) → cond b (Some l) None ≡ (if b then Some l else None)
  by true = refl
  by false = refl
looked_up_more (e ∷ es) v w l = by (v.0 == e.0.0) refl (looked_up_more es v w l) where
  same : (b c : Bool) → b ≡ c → cond b (Some l) (lookup (var_eq w) es) ≡ (if c then Some l else cond b (Some e.1) (lookup (var_eq w) es))
  same true true h = refl
  same false false h = refl
  same true false h = absurd (false≢true (sym h))
  same false true h = absurd (false≢true h)

  other : (b c : Bool) → (w.0 == e.0.0) ≡ b → (v.0 == w.0) ≡ c → (v.0 == e.0.0) ≡ false → cond b (Some e.1) (if c then Some l else lookup (var_eq w) es) ≡ (if c then Some l else cond b (Some e.1) (lookup (var_eq w) es))
  other true true hb hc h = absurd (false≢true (sym h ∙ other_same v.0 w.0 e.0.0 hc hb))
  other true false hb hc h = refl
  other false true hb hc h = refl
  other false false hb hc h = refl

  by : (b : Bool) → (v.0 == e.0.0) ≡ b → lookup (var_eq w) (insert_entry var_eq es v l) ≡ (if v.0 == w.0 then Some l else lookup (var_eq w) es)
      → lookup (var_eq w) (if b then (e.0, l) ∷ es else e ∷ insert_entry var_eq es v l) ≡ (if v.0 == w.0 then Some l else cond (var_eq w e.0) (Some e.1) (lookup (var_eq w) es))
  by true h ih =
      let p = number_same v.0 e.0.0 h in
      same (w.0 == e.0.0) (v.0 == w.0) (eq_turns w.0 e.0.0 ∙ ap (λ n. n == w.0) (sym p))
  by false h ih = ap (λ o. cond (var_eq w e.0) (Some e.1) o) ih ∙ other (w.0 == e.0.0) (v.0 == w.0) refl refl h

pub is_latest_more : (xs : List Out) (es : Entries) (v : VarId) (x : Operand) → IsLatest xs es → IsLatest (xs ++ one v x ∷ []) (insert_entry var_eq es v (later (length xs) x))
is_latest_more xs es v x h = λ w.
    looked_up_more es v w (later (length xs) x) ∙ ap (λ o. if v.0 == w.0 then Some (later (length xs) x) else o) (h w)
    ∙ sym (latest_more 0 None xs v w x ∙ ap (λ k. if v.0 == w.0 then Some (later k x) else latest_from 0 None xs w) none) where
      none : 0 + length xs ≡ length xs
      none = omega arith

pub set_count : (xs : Vec Out Global) → vec_len xs ≡ length xs.items
set_count xs = let ok = xs.ok in omega (arith, ok)
