-- In a body that becomes one block each variable that is set has an operation of its own.
use Rattle.std.specs.Prelude.{◌==◌, ◌≢◌, slice_get, if◌then◌else◌}
use Rattle.std.proofs.Common.{◌≡◌, ◌∙◌, ◌<◌, ◌≤◌, ℕ, suc, Bool, true, false, not, ◌&&◌, ◌||◌, refl, ap, ap₂, sym, subst, arith, List, [], ◌∷◌, ◌++◌, map, length, length-append, Some, None}
use Rattle.hls_base.specs.declared.number.OpId.{OpId}
use Rattle.hls_base.specs.declared.number.VarId.{VarId}
use Rattle.ir_core.specs.declared.body.OpKind.TheVariants as o
use Rattle.ir_core.specs.declared.body.Operand.{Operand}
use Rattle.ir_core.specs.declared.body.Out.{Out}
use Rattle.ir_core.specs.declared.body.Source.TheVariants as source
use Rattle.ir_core.specs.Bodies.{OpTree, Shapes}
use Rattle.ir_core.specs.Trees.{BlockTree}
use Rattle.passes.specs.Numbering.{Value}
use Rattle.passes.specs.Conversion.Outs.{out, entry_value, held_or, held, is_set, with_out, with_outs}
use Rattle.passes.specs.Conversion.Joining.{renamed, renamed_out, next_result, plain}
use Rattle.passes.specs.Conversion.Merging.{Choice, opened, selected_bits, with_selection, with_selections}
use Rattle.passes.specs.Lowering.Outs as lower
use Rattle.passes.specs.Lowering.Copies.{is_fixed, is_fixed_source, fixed_in, outs_set}
use Rattle.pass_runs.specs.ConvertRuns.Blocks.{Once}
use Rattle.pass_runs.specs.ConvertRuns.Typed.{IsEarly}
use Rattle.pass_runs.proofs.ConvertRuns.Opening.{same_number, turned_number, left_false, right_false}
use Rattle.pass_runs.proofs.ConvertRuns.MergedBlocks.Selections.{names}
use Rattle.sound_trees.specs.Ready.{BlockIsReady}
use Rattle.sound_trees.specs.Loops.{OutsAreOwn}
use Rattle.sound_trees.proofs.Names.{set_same}
use Rattle.sound_trees.proofs.Fixed.{both_true, from_both}
use Rattle.sound_trees.proofs.NumberedOwn.{names_result, early_out}

true_false : {A : Type 0} → true ≡ false → A
true_false e = cc

some_same : {A : Type 0} {x y : A} → Some x ≡ Some y → x ≡ y
some_same e = cc

none_some : {A B : Type 0} {x : A} → None ≡ Some x → B
none_some e = cc

pub same_name : (v u : VarId) → v.0 ≡ u.0 → v ≡ u
same_name v u e = λ i. record { 0 = e i }

pub variable_constant : (v : VarId) (w : ℕ) {A : Type 0} → source.Variable v ≡ source.Constant w → A
variable_constant v w e = cc

pub result_constant : (m : OpId) (w : ℕ) {A : Type 0} → source.Result m ≡ source.Constant w → A
result_constant m w e = cc

pub result_number : (i k : OpId) → source.Result i ≡ source.Result k → i.0 ≡ k.0
result_number i k e = ap (λ (j : OpId). j.0) (inside i k e) where
  inside : (i k : OpId) → source.Result i ≡ source.Result k → i ≡ k
  inside i k q = cc

-- ---- what variables hold behind more outs

set_out : (os : List Out) (u : VarId) (x : Operand) (v : VarId) → is_set (with_out os u x) v ≡ (v.0 == u.0 || is_set os v)
set_out [] u x v = refl
set_out (o ∷ os) u x v = by (u.0 == o.variable.0) refl (set_out os u x v) where
  twice : (a b : Bool) → (a || b) ≡ (a || (a || b))
  twice true b = refl
  twice false b = refl

  turn : (a b c : Bool) → (a || (b || c)) ≡ (b || (a || c))
  turn true true c = refl
  turn true false c = refl
  turn false b c = refl

  by : (c : Bool) → (u.0 == o.variable.0) ≡ c → is_set (with_out os u x) v ≡ (v.0 == u.0 || is_set os v) → is_set (if c then out o.variable x ∷ os else o ∷ with_out os u x) v ≡ (v.0 == u.0 || is_set (o ∷ os) v)
  by true e k1 = twice (v.0 == o.variable.0) (is_set os v) ∙ ap (λ k. v.0 == k || (v.0 == o.variable.0 || is_set os v)) (sym (same_number u.0 o.variable.0 e))
  by false e k1 = ap (λ c. v.0 == o.variable.0 || c) k1 ∙ turn (v.0 == o.variable.0) (v.0 == u.0) (is_set os v)

held_out : (os : List Out) (u : VarId) (x : Operand) (v : VarId) (d : Operand) → held_or (with_out os u x) v d ≡ (if v.0 == u.0 then x else held_or os v d)
held_out [] u x v d = refl
held_out (o ∷ os) u x v d = by (u.0 == o.variable.0) refl (held_out os u x v d) where
  by_other : (c e : Bool) → (v.0 == o.variable.0) ≡ c → (v.0 == u.0) ≡ e → (u.0 == o.variable.0) ≡ false → (if c then o.value else (if e then x else held_or os v d)) ≡ (if e then x else (if c then o.value else held_or os v d))
  by_other true true p q r = true_false (sym (ap (λ k. k == o.variable.0) (sym (same_number v.0 u.0 q)) ∙ p) ∙ r)
  by_other true false p q r = refl
  by_other false e p q r = refl

  shorter : (c : Bool) → (if c then x else held_or os v d) ≡ (if c then x else (if c then o.value else held_or os v d))
  shorter true = refl
  shorter false = refl

  by : (c : Bool) → (u.0 == o.variable.0) ≡ c → held_or (with_out os u x) v d ≡ (if v.0 == u.0 then x else held_or os v d) → held_or (if c then out o.variable x ∷ os else o ∷ with_out os u x) v d ≡ (if v.0 == u.0 then x else held_or (o ∷ os) v d)
  by true e k1 =
      shorter (v.0 == o.variable.0) ∙ ap (λ k. if v.0 == k then x else (if v.0 == o.variable.0 then o.value else held_or os v d)) (sym (same_number u.0 o.variable.0 e))
  by false e k1 = ap (λ w. if v.0 == o.variable.0 then o.value else w) k1 ∙ by_other (v.0 == o.variable.0) (v.0 == u.0) refl refl e

pub set_outs : (os xs : List Out) (v : VarId) → is_set (with_outs os xs) v ≡ (is_set xs v || is_set os v)
set_outs os [] v = refl
set_outs os (x ∷ xs) v = set_outs (with_out os x.variable x.value) xs v ∙ ap (λ c. is_set xs v || c) (set_out os x.variable x.value v) ∙ turn (is_set xs v) (v.0 == x.variable.0) (is_set os v) where
  turn : (a b c : Bool) → (a || (b || c)) ≡ ((b || a) || c)
  turn true true c = refl
  turn true false c = refl
  turn false true c = refl
  turn false false c = refl

pub held_unset : (os xs : List Out) (v : VarId) (d : Operand) → is_set xs v ≡ false → held_or (with_outs os xs) v d ≡ held_or os v d
held_unset os [] v d e = refl
held_unset os (x ∷ xs) v d e =
    held_unset (with_out os x.variable x.value) xs v d (right_false (v.0 == x.variable.0) (is_set xs v) e) ∙ held_out os x.variable x.value v d ∙ ap (λ c. if c then x.value else held_or os v d) (left_false (v.0 == x.variable.0) (is_set xs v) e)

-- an out that sets the variable, where each variable stands once
pub record IsOutOf (xs : List Out) (v : VarId) : Type 0 where
  pub number : ℕ
  pub out_ : Out
  pub at : slice_get xs number ≡ Some out_
  pub name : out_.variable.0 ≡ v.0
  pub low : lower.held xs v ≡ out_.value
  pub direct : (d : Operand) → held_or xs v d ≡ out_.value
  pub high : (os : List Out) (d : Operand) → held_or (with_outs os xs) v d ≡ out_.value
  pub mapped : (os : List Out) (d : Operand) (outs : List Out) (values : List Value) → held_or (with_outs os (map (renamed_out outs values) xs)) v d ≡ renamed outs values out_.value

pub set_map : (outs : List Out) (values : List Value) (xs : List Out) (v : VarId) → is_set (map (renamed_out outs values) xs) v ≡ is_set xs v
set_map outs values [] v = refl
set_map outs values (x ∷ xs) v = ap (λ c. v.0 == x.variable.0 || c) (set_map outs values xs v)

pub out_of : (xs : List Out) (v : VarId) → Once xs → is_set xs v ≡ true → IsOutOf xs v
out_of [] v h e = true_false (sym e)
out_of (x ∷ xs) v h e = by (v.0 == x.variable.0) refl (λ k. out_of xs v h.1 k) where
  by : (c : Bool) → (v.0 == x.variable.0) ≡ c → (is_set xs v ≡ true → IsOutOf xs v) → IsOutOf (x ∷ xs) v
  by true q further =
      let p = same_number v.0 x.variable.0 q in
      let u : is_set xs v ≡ false = ap (is_set xs) (same_name v x.variable p) ∙ h.0 in
      record {
        number = 0;
        out_ = x;
        at = refl;
        name = sym p;
        low = ap (λ c. if c then x.value else lower.held xs v) (turned_number x.variable.0 v.0 ∙ q);
        direct = λ d. ap (λ c. if c then x.value else held_or xs v d) q;
        mapped = λ os d outs values.
            let y = renamed outs values x.value in
            held_unset (with_out os x.variable y) (map (renamed_out outs values) xs) v d (set_map outs values xs v ∙ u) ∙ held_out os x.variable y v d ∙ ap (λ c. if c then y else held_or os v d) q;
        high = λ os d. held_unset (with_out os x.variable x.value) xs v d u ∙ held_out os x.variable x.value v d ∙ ap (λ c. if c then x.value else held_or os v d) q;
      }
  by false q further =
      let r = further (sym (ap (λ c. c || is_set xs v) q) ∙ e) in
      record {
        number = suc r.number;
        out_ = r.out_;
        at = r.at;
        name = r.name;
        low = ap (λ c. if c then x.value else lower.held xs v) (turned_number x.variable.0 v.0 ∙ q) ∙ r.low;
        direct = λ d. ap (λ c. if c then x.value else held_or xs v d) q ∙ r.direct d;
        high = λ os d. r.high (with_out os x.variable x.value) d;
        mapped = λ os d outs values. r.mapped (with_out os x.variable (renamed outs values x.value)) d outs values;
      }

-- ---- what is known of an open block

-- A variable that holds a constant is fixed; those that are set, and not again later, hold results, each another one.
pub record Owns (later fixed : VarId → Bool) (b : BlockTree) : Type 0 where
  pub constant : (v : VarId) (w : ℕ) → (held b.outs v).value ≡ source.Constant w → fixed v ≡ true
  pub named : (v : VarId) → is_set b.outs v ≡ true → later v ≡ false → (op : OpId) × ((held b.outs v).value ≡ source.Result op) × (op.0 < length b.ops)
  pub apart : (v u : VarId) → v.0 ≢ u.0 → is_set b.outs v ≡ true → is_set b.outs u ≡ true → later v ≡ false → later u ≡ false → (held b.outs v).value ≢ (held b.outs u).value

pub weaker : (later fixed later1 fixed1 : VarId → Bool) (b : BlockTree) → ((v : VarId) → later1 v ≡ false → later v ≡ false) → ((v : VarId) → fixed v ≡ true → fixed1 v ≡ true) → Owns later fixed b → Owns later1 fixed1 b
weaker later fixed later1 fixed1 b l f h = record {
  constant = λ v w e. f v (h.constant v w e);
  named = λ v s e. h.named v s (l v e);
  apart = λ v u n s t p q. h.apart v u n s t (l v p) (l u q);
}

-- the same outs behind more operations
pub longer : (later fixed : VarId → Bool) (b : BlockTree) (ops : List OpTree) → length b.ops ≤ length ops → Owns later fixed b → Owns later fixed (record b { ops = ops })
longer later fixed b ops le h = record {
  constant = h.constant;
  named = λ v s e. let z = h.named v s e in let l = z.2 in (z.0, z.1, omega (arith, l, le));
  apart = h.apart;
}

-- the block that is opened first
pub opened_owns : (later variables : VarId → Bool) (shapes : Shapes) (words : List ℕ) (b : BlockTree) → BlockIsReady shapes words true b → OutsAreOwn later (fixed_in variables b) b.outs
    → Owns later (λ v. if outs_set b.outs v then later v && is_fixed (fixed_in variables b) (lower.held b.outs v) else variables v) (opened b)
opened_owns later variables shapes words b h own = record {
  constant = λ v w e. by_constant v w e (is_set b.outs v) refl;
  named = λ v s e.
      let x = out_of b.outs v h.once (set_here v s) in
      let r = names_result (fixed_in variables b) x.out_.value.value (own.named x.number x.out_ x.at (ap later (same_name x.out_.variable v x.name) ∙ e)) in
      let l = early_out shapes words b.ops b.outs x.number x.out_ h.typed.outs x.at in
      (r.0, ap (λ (y : Operand). y.value) (x.high [] (entry_value v)) ∙ r.1, subst (IsEarly (length b.ops)) r.1 l);
  apart = λ v u n s t p q e.
      let x = out_of b.outs v h.once (set_here v s) in
      let y = out_of b.outs u h.once (set_here u t) in
      own.apart x.number y.number x.out_ y.out_ x.at y.at (λ k. n (sym x.name ∙ k ∙ y.name)) (ap later (same_name x.out_.variable v x.name) ∙ p) (ap later (same_name y.out_.variable u y.name) ∙ q)
      (sym (ap (λ (z : Operand). z.value) (x.high [] (entry_value v))) ∙ e ∙ ap (λ (z : Operand). z.value) (y.high [] (entry_value u)));
} where
  or_nothing : (c : Bool) → (c || false) ≡ c
  or_nothing true = refl
  or_nothing false = refl

  set_here : (v : VarId) → is_set (opened b).outs v ≡ true → is_set b.outs v ≡ true
  set_here v e = sym (or_nothing (is_set b.outs v)) ∙ sym (set_outs [] b.outs v) ∙ e

  behind : VarId → Bool
  behind v = if outs_set b.outs v then later v && is_fixed (fixed_in variables b) (lower.held b.outs v) else variables v

  by_later : (v : VarId) (w : ℕ) (x : IsOutOf b.outs v) → x.out_.value.value ≡ source.Constant w → (c : Bool) → later v ≡ c → c ≡ true
  by_later v w x e true q = refl
  by_later v w x e false q =
      let r = names_result (fixed_in variables b) x.out_.value.value (own.named x.number x.out_ x.at (ap later (same_name x.out_.variable v x.name) ∙ q)) in result_constant r.0 w (sym r.1 ∙ e)

  by_constant : (v : VarId) (w : ℕ) → (held (opened b).outs v).value ≡ source.Constant w → (c : Bool) → is_set b.outs v ≡ c → behind v ≡ true
  by_constant v w e true s =
      let x = out_of b.outs v h.once s in
      let k : x.out_.value.value ≡ source.Constant w = sym (ap (λ (y : Operand). y.value) (x.high [] (entry_value v))) ∙ e in
      ap (λ c. if c then later v && is_fixed (fixed_in variables b) (lower.held b.outs v) else variables v) (sym (set_same b.outs v) ∙ s)
      ∙ from_both (later v) (is_fixed (fixed_in variables b) (lower.held b.outs v)) (by_later v w x k (later v) refl) (ap (is_fixed (fixed_in variables b)) x.low ∙ ap (is_fixed_source (fixed_in variables b)) k)
  by_constant v w e false s = variable_constant v w (sym (ap (λ (y : Operand). y.value) (held_unset [] b.outs v (entry_value v) s)) ∙ e)

-- ---- selections

abbrev less : (VarId → Bool) → VarId → VarId → Bool
less g u v = g v && not (v.0 == u.0)

-- A variable that is selected holds a result of its own.
fresh_owns : (later fixed : VarId → Bool) (b : BlockTree) (u : VarId) (op : OpTree) → Owns later fixed b → Owns (less later u) (less fixed u) (record b { ops = b.ops ++ op ∷ []; outs = with_out b.outs u (next_result b.ops) })
fresh_owns later fixed b u op h = record {
  constant = λ v w e. by_constant v w (v.0 == u.0) refl e;
  named = λ v s e. by_named v (v.0 == u.0) refl s e;
  apart = λ v t n s r p q. by_apart v t n (v.0 == u.0) (t.0 == u.0) refl refl s r p q;
} where
  here : (v : VarId) (c : Bool) → (v.0 == u.0) ≡ c → held (with_out b.outs u (next_result b.ops)) v ≡ (if c then next_result b.ops else held b.outs v)
  here v c e = held_out b.outs u (next_result b.ops) v (entry_value v) ∙ ap (λ d. if d then next_result b.ops else held b.outs v) e

  set_before : (v : VarId) → (v.0 == u.0) ≡ false → is_set (with_out b.outs u (next_result b.ops)) v ≡ true → is_set b.outs v ≡ true
  set_before v e s = sym (set_out b.outs u (next_result b.ops) v ∙ ap (λ c. c || is_set b.outs v) e) ∙ s

  not_less : (g : Bool) (c : Bool) → c ≡ false → (g && not c) ≡ false → g ≡ false
  not_less false c e k = refl
  not_less true false e k = k
  not_less true true e k = e

  by_constant : (v : VarId) (w : ℕ) (c : Bool) → (v.0 == u.0) ≡ c → (held (with_out b.outs u (next_result b.ops)) v).value ≡ source.Constant w → less fixed u v ≡ true
  by_constant v w true e k = result_constant (record { 0 = length b.ops }) w (sym (ap (λ (y : Operand). y.value) (here v true e)) ∙ k)
  by_constant v w false e k = from_both (fixed v) (not (v.0 == u.0)) (h.constant v w (sym (ap (λ (y : Operand). y.value) (here v false e)) ∙ k)) (ap not e)

  by_named : (v : VarId) (c : Bool) → (v.0 == u.0) ≡ c → is_set (with_out b.outs u (next_result b.ops)) v ≡ true → less later u v ≡ false
      → (k : OpId) × ((held (with_out b.outs u (next_result b.ops)) v).value ≡ source.Result k) × (k.0 < length (b.ops ++ op ∷ []))
  by_named v true e s q = let l = length-append b.ops (op ∷ []) in (record { 0 = length b.ops }, ap (λ (y : Operand). y.value) (here v true e), omega (arith, l))
  by_named v false e s q =
      let l = length-append b.ops (op ∷ []) in
      let z = h.named v (set_before v e s) (not_less (later v) (v.0 == u.0) e q) in
      let w = z.2 in
      (z.0, ap (λ (y : Operand). y.value) (here v false e) ∙ z.1, omega (arith, l, w))

  old_new : (v t : VarId) → (v.0 == u.0) ≡ false → (t.0 == u.0) ≡ true → is_set (with_out b.outs u (next_result b.ops)) v ≡ true → less later u v ≡ false
      → (held (with_out b.outs u (next_result b.ops)) v).value ≢ (held (with_out b.outs u (next_result b.ops)) t).value
  old_new v t e f s q k =
      let z = h.named v (set_before v e s) (not_less (later v) (v.0 == u.0) e q) in
      let w = z.2 in
      let m = result_number z.0 (record { 0 = length b.ops }) (sym (ap (λ (y : Operand). y.value) (here v false e) ∙ z.1) ∙ k ∙ ap (λ (y : Operand). y.value) (here t true f)) in
      omega (arith, w, m)

  by_apart : (v t : VarId) → v.0 ≢ t.0 → (c d : Bool) → (v.0 == u.0) ≡ c → (t.0 == u.0) ≡ d → is_set (with_out b.outs u (next_result b.ops)) v ≡ true → is_set (with_out b.outs u (next_result b.ops)) t ≡ true → less later u v ≡ false → less later u t ≡ false
      → (held (with_out b.outs u (next_result b.ops)) v).value ≢ (held (with_out b.outs u (next_result b.ops)) t).value
  by_apart v t n true true e f s r p q = λ k. n (same_number v.0 u.0 e ∙ sym (same_number t.0 u.0 f))
  by_apart v t n true false e f s r p q = λ k. old_new t v f e r q (sym k)
  by_apart v t n false true e f s r p q = old_new v t e f s p
  by_apart v t n false false e f s r p q = λ k.
      h.apart v t n (set_before v e s) (set_before t f r) (not_less (later v) (v.0 == u.0) e p) (not_less (later t) (t.0 == u.0) f q)
      (sym (ap (λ (y : Operand). y.value) (here v false e)) ∙ k ∙ ap (λ (y : Operand). y.value) (here t false f))

abbrev pub without : List Choice → (VarId → Bool) → VarId → Bool
without [] g = g
without (c ∷ cs) g = without cs (less g c.variable)

pub selections_own : (widths : List ℕ) (test : Operand) (cs : List Choice) (later fixed : VarId → Bool) (b : BlockTree) → Owns later fixed b → Owns (without cs later) (without cs fixed) (with_selections widths test b cs)
selections_own widths test [] later fixed b h = h
selections_own widths test (c ∷ cs) later fixed b h =
    selections_own widths test cs (less later c.variable) (less fixed c.variable) (with_selection widths test b c)
    (fresh_owns later fixed b c.variable (plain o.Select (selected_bits widths c.variable) (test ∷ c.yes_ ∷ c.no_ ∷ [])) h)

-- what is left is none of those that are chosen
pub without_says : (cs : List Choice) (g : VarId → Bool) (v : VarId) → without cs g v ≡ true → (g v ≡ true) × (names cs v.0 ≡ false)
without_says [] g v e = (e, refl)
without_says (c ∷ cs) g v e =
    let q = without_says cs (less g c.variable) v e in
    let r = both_true (g v) (not (v.0 == c.variable.0)) q.0 in
    (r.0, ap₂ (λ a d. a || d) (not_not (v.0 == c.variable.0) r.1) q.1) where
      not_not : (c : Bool) → not c ≡ true → c ≡ false
      not_not true k = sym k
      not_not false k = refl

pub selections_set : (widths : List ℕ) (test : Operand) (cs : List Choice) (b : BlockTree) (v : VarId) → is_set (with_selections widths test b cs).outs v ≡ (names cs v.0 || is_set b.outs v)
selections_set widths test [] b v = refl
selections_set widths test (c ∷ cs) b v =
    selections_set widths test cs (with_selection widths test b c) v ∙ ap (λ x. names cs v.0 || x) (set_out b.outs c.variable (next_result b.ops) v) ∙ turn (names cs v.0) (v.0 == c.variable.0) (is_set b.outs v) where
      turn : (x y z : Bool) → (x || (y || z)) ≡ ((y || x) || z)
      turn true true z = refl
      turn true false z = refl
      turn false true z = refl
      turn false false z = refl
