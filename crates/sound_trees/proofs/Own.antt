-- Copies give each variable that an iteration sets an operation of its own.
use Rattle.std.specs.Prelude.{◌==◌, ◌≢◌, slice_get, get_or}
use Rattle.std.proofs.Common.{◌≡◌, ◌∙◌, ◌<◌, ◌≤◌, ◌⊎◌, inl, inr, ℕ, Bool, true, false, not, ◌&&◌, ◌||◌, refl, ap, ap₂, sym, subst, arith, List, [], ◌∷◌, ◌++◌, length, length-append, Some, if◌then◌else◌}
use Rattle.hls_base.specs.declared.number.OpId.{OpId}
use Rattle.hls_base.specs.declared.number.VarId.{VarId}
use Rattle.c_value.specs.Values.{width}
use Rattle.ir_core.specs.declared.body.OpKind.TheVariants as o
use Rattle.ir_core.specs.declared.body.Operand.{Operand}
use Rattle.ir_core.specs.declared.body.Out.{Out}
use Rattle.ir_core.specs.declared.body.Source.{Source}
use Rattle.ir_core.specs.declared.body.Source.TheVariants as source
use Rattle.ir_core.specs.Bodies.{OpTree}
use Rattle.ir_core.specs.Trees.{BlockTree, BodyTree, SequenceTree, sequence, PartTrees, no_part, more_parts, ShapeTree}
use Rattle.passes.specs.Lowering.Operations.{added, plain, result_of}
use Rattle.passes.specs.Lowering.Outs.{operand_eq, held}
use Rattle.passes.specs.Lowering.Blocks.{Scope, variable_type}
use Rattle.passes.specs.Lowering.Copies.{Fixed, Copied, is_fixed, is_fixed_source, is_among, needs_copy, own_operand, with_own, copied_out, copied_outs, copied_block, copied_parts, copied, fixed_in, fixed_behind, fixed_behind_shape, outs_set, parts_set, shape_sets}
use Rattle.pass_runs.specs.ConvertRuns.Typed.{IsEarly, OutsAreTyped}
use Rattle.pass_runs.proofs.ConvertRuns.Lists.{last_or}
use Rattle.pass_runs.proofs.ConvertRuns.Joining.{has_early}
use Rattle.pass_runs.proofs.ConvertRuns.Opening.{left_false, right_false, itself_number, same_number}
use Rattle.pass_runs.specs.ConvertRuns.LoweredConversions.Suiting.{widths_of, words_of}
use Rattle.sound_trees.specs.Trees.{SequenceHas, PartsHave}
use Rattle.sound_trees.specs.Ready.{OutsAreNear}
use Rattle.sound_trees.specs.Loops.{NamesOwn, BlockOwns, PartsOwn, BodyOwns}
use Rattle.sound_trees.proofs.Names.{names_outs}
use Rattle.sound_trees.proofs.Fixed.{marks, marks_more, marks_off, marks_out, count_marks, beginning, same_variables, both_true, from_both, not_true, below_ops, behind_if}
use Rattle.sound_trees.proofs.Blocks.{IsReady}
use Rattle.sound_trees.proofs.Copies.{copied_names}

-- ---- operands

source_itself : (x : Source) → (n : ℕ) → operand_eq (record { value = x; distance = n }) (record { value = x; distance = n }) ≡ true
source_itself (source.Constant w) n = ap₂ (λ a b. a && b) (itself_number w) (itself_number n)
source_itself (source.Variable v) n = ap₂ (λ a b. a && b) (itself_number v.0) (itself_number n)
source_itself (source.Result i) n = ap₂ (λ a b. a && b) (itself_number i.0) (itself_number n)

-- operands of the same iteration that name the same are found equal
found_equal : (x y : Operand) → x.distance ≡ y.distance → x.value ≡ y.value → operand_eq x y ≡ true
found_equal x y d e = subst (λ (z : Operand). operand_eq x z ≡ true) (λ i. record { value = e i; distance = d i }) (source_itself x.value x.distance)

abbrev In : Operand → List Operand → Type 0
In x [] = ⊥
In x (y ∷ ys) = (y ≡ x) ⊎ In x ys

in_left : (x : Operand) (xs ys : List Operand) → In x xs → In x (xs ++ ys)
in_left x [] ys h = absurd h
in_left x (y ∷ xs) ys (inl h) = inl h
in_left x (y ∷ xs) ys (inr h) = inr (in_left x xs ys h)

in_end : (x : Operand) (xs : List Operand) → In x (xs ++ x ∷ [])
in_end x [] = inl refl
in_end x (y ∷ xs) = inr (in_end x xs)

not_among : (x z : Operand) (xs : List Operand) → is_among z xs ≡ false → In x xs → operand_eq x z ≡ false
not_among x z [] e h = absurd h
not_among x z (y ∷ ys) e (inl h) = subst (λ (w : Operand). operand_eq w z ≡ false) h (left_false (operand_eq y z) (is_among z ys) e)
not_among x z (y ∷ ys) e (inr h) = not_among x z ys (right_false (operand_eq y z) (is_among z ys) e) h

true_false : {A : Type 0} → true ≡ false → A
true_false e = cc

result_number : (i k : OpId) → source.Result i ≡ source.Result k → i.0 ≡ k.0
result_number i k e = ap (λ (j : OpId). j.0) (inside i k e) where
  inside : (i k : OpId) → source.Result i ≡ source.Result k → i ≡ k
  inside i k q = cc

-- ---- outs

-- one out more, which has another value than those before
pub apart_more : (later : VarId → Bool) (xs : List Out) (z : Out)
    → ((i k : ℕ) (x y : Out) → slice_get xs i ≡ Some x → slice_get xs k ≡ Some y → x.variable.0 ≢ y.variable.0 → later x.variable ≡ false → later y.variable ≡ false → x.value.value ≢ y.value.value)
    → ((i : ℕ) (x : Out) → slice_get xs i ≡ Some x → later x.variable ≡ false → later z.variable ≡ false → x.value.value ≢ z.value.value)
    → (i k : ℕ) (x y : Out) → slice_get (xs ++ z ∷ []) i ≡ Some x → slice_get (xs ++ z ∷ []) k ≡ Some y → x.variable.0 ≢ y.variable.0 → later x.variable ≡ false → later y.variable ≡ false → x.value.value ≢ y.value.value
apart_more later xs z h new i k x y a b v p q = by (last_or xs z i x a) (last_or xs z k y b) where
  by : (slice_get xs i ≡ Some x) ⊎ ((i ≡ length xs) × (z ≡ x)) → (slice_get xs k ≡ Some y) ⊎ ((k ≡ length xs) × (z ≡ y)) → x.value.value ≢ y.value.value
  by (inl c) (inl d) = h i k x y c d v p q
  by (inl c) (inr d) = λ e. new i x c p (ap (λ (w : Out). later w.variable) d.1 ∙ q) (e ∙ sym (ap (λ (w : Out). w.value.value) d.1))
  by (inr c) (inl d) = λ e. new k y d q (ap (λ (w : Out). later w.variable) c.1 ∙ p) (sym e ∙ sym (ap (λ (w : Out). w.value.value) c.1))
  by (inr c) (inr d) = λ e. v (sym (ap (λ (w : Out). w.variable.0) c.1) ∙ ap (λ (w : Out). w.variable.0) d.1)

module _ (scope : Scope) (later : PartTrees) (variables : VarId → Bool) (b : BlockTree) where
  -- a variable's own operand: the result of an operation that is not on constants alone, which is noted
  record IsOwn (s : Copied) (x : Operand) : Type 0 where
    op : OpId
    result : x.value ≡ source.Result op
    free : get_or (marks variables b.ops) op.0 false ≡ false
    early : op.0 < length s.ops
    near : x.distance ≡ 0
    taken : In x s.taken

  record OwnSoFar (s : Copied) : Type 0 where
    same : (j : ℕ) → get_or (marks variables s.ops) j false ≡ get_or (marks variables b.ops) j false
    more : length b.ops ≤ length s.ops
    named : (i : ℕ) (x : Out) → slice_get s.outs i ≡ Some x → parts_set later x.variable ≡ false → IsOwn s x.value
    apart : (i k : ℕ) (x y : Out) → slice_get s.outs i ≡ Some x → slice_get s.outs k ≡ Some y → x.variable.0 ≢ y.variable.0
        → parts_set later x.variable ≡ false → parts_set later y.variable ≡ false → x.value.value ≢ y.value.value

  -- the same with other outs
  repacked : (s : Copied) (outs : List Out) (x : Operand) → IsOwn s x → IsOwn (record s { outs = outs }) x
  repacked s outs x h = record { op = h.op; result = h.result; free = h.free; early = h.early; near = h.near; taken = h.taken }

  -- an out that is set again later stays
  passed : (s : Copied) (x : Out) → OwnSoFar s → parts_set later x.variable ≡ true → OwnSoFar (record s { outs = s.outs ++ x ∷ [] })
  passed s x h e = record {
    same = h.same;
    more = h.more;
    named = λ i y a q. by_named i y q (last_or s.outs x i y a);
    apart = apart_more (parts_set later) s.outs x h.apart (λ i y a p q. true_false (sym e ∙ q));
  } where
    by_named : (i : ℕ) (y : Out) → parts_set later y.variable ≡ false → (slice_get s.outs i ≡ Some y) ⊎ ((i ≡ length s.outs) × (x ≡ y)) → IsOwn (record s { outs = s.outs ++ x ∷ [] }) y.value
    by_named i y q (inl a) = repacked s (s.outs ++ x ∷ []) y.value (h.named i y a q)
    by_named i y q (inr a) = true_false (sym e ∙ ap (λ (w : Out). parts_set later w.variable) a.1 ∙ q)

  -- an own operand behind operations
  with_own_operand : (s : Copied) (v : VarId) (ops : List OpTree) (x : Operand) → OwnSoFar s → ((j : ℕ) → get_or (marks variables ops) j false ≡ get_or (marks variables b.ops) j false) → length s.ops ≤ length ops
      → IsOwn (with_own v s (record { ops = ops; operand = x })) x → ((i : ℕ) (y : Out) → slice_get s.outs i ≡ Some y → parts_set later y.variable ≡ false → y.value.value ≢ x.value) → OwnSoFar (with_own v s (record { ops = ops; operand = x }))
  with_own_operand s v ops x h same le own new = record {
    same = same;
    more = let m = h.more in omega (arith, m, le);
    named = λ i y a q. by_named i y q (last_or s.outs (record { variable = v; value = x }) i y a);
    apart = apart_more (parts_set later) s.outs (record { variable = v; value = x }) h.apart (λ i y a p q. new i y a p);
  } where
    by_named : (i : ℕ) (y : Out) → parts_set later y.variable ≡ false → (slice_get s.outs i ≡ Some y) ⊎ ((i ≡ length s.outs) × (record { variable = v; value = x } ≡ y)) → IsOwn (with_own v s (record { ops = ops; operand = x })) y.value
    by_named i y q (inl a) =
        let z = h.named i y a q in
        let e = z.early in
        record { op = z.op; result = z.result; free = z.free; early = omega (arith, e, le); near = z.near; taken = in_left y.value s.taken (x ∷ []) z.taken }
    by_named i y q (inr a) = subst (λ (w : Out). IsOwn (with_own v s (record { ops = ops; operand = x })) w.value) a.1 own

  module _ (s : Copied) (x : Out) (h : OwnSoFar s) (n : x.value.distance ≡ 0) (early : IsEarly (length b.ops) x.value.value) where
    abbrev copy : OpTree
    copy = plain o.Copy (width (variable_type scope x.variable)) (x.value ∷ [])

    copy_own : OwnSoFar (with_own x.variable s (added s.ops copy))
    copy_own =
        let l = length-append s.ops (copy ∷ []) in
        let m = h.more in
        let c = count_marks variables b.ops in
        with_own_operand s x.variable (s.ops ++ copy ∷ []) (result_of (length s.ops)) h
        (λ j. ap (λ l1. get_or l1 j false) (marks_more variables s.ops copy) ∙ marks_off (marks variables s.ops) j ∙ h.same j) (omega (arith, l))
        (record { op = record { 0 = length s.ops }; result = refl; free = marks_out (marks variables b.ops) (length s.ops) (omega (arith, c, m)); early = omega (arith, l); near = refl; taken = in_end (result_of (length s.ops)) s.taken })
        (λ i y a q e. let z = h.named i y a q in let k = result_number z.op (record { 0 = length s.ops }) (sym z.result ∙ e) in let w = z.early in omega (arith, k, w))

    stays_own : (op : OpId) → x.value.value ≡ source.Result op → is_fixed (fixed_in variables b) x.value ≡ false → is_among x.value s.taken ≡ false → OwnSoFar (with_own x.variable s (record { ops = s.ops; operand = x.value }))
    stays_own op e f a =
        let m = h.more in
        let w : op.0 < length b.ops = subst (IsEarly (length b.ops)) e early in
        with_own_operand s x.variable s.ops x.value h h.same (omega arith)
        (record { op = op; result = e; free = sym (ap (is_fixed_source (fixed_in variables b)) e) ∙ f; early = omega (arith, w, m); near = n; taken = in_end x.value s.taken })
        (λ i y c q k. let z = h.named i y c q in true_false (sym (found_equal y.value x.value (z.near ∙ sym n) k) ∙ not_among y.value x.value s.taken a z.taken))

    own_step : (t : Source) → x.value.value ≡ t → (c : Bool) → needs_copy (fixed_in variables b) s.taken x.value t ≡ c → OwnSoFar (with_own x.variable s (if c then added s.ops copy else record { ops = s.ops; operand = x.value }))
    own_step t e true q = copy_own
    own_step (source.Constant w) e false q = true_false q
    own_step (source.Variable w) e false q = true_false q
    own_step (source.Result op) e false q =
        stays_own op e (left_false (is_fixed (fixed_in variables b) x.value) (is_among x.value s.taken) q) (right_false (is_fixed (fixed_in variables b) x.value) (is_among x.value s.taken) q)

    out_own : OwnSoFar (copied_out scope later (fixed_in variables b) s x)
    out_own = by (parts_set later x.variable) refl where
      by : (c : Bool) → parts_set later x.variable ≡ c → OwnSoFar (if c then record s { outs = s.outs ++ x ∷ [] } else with_own x.variable s (own_operand scope (fixed_in variables b) s x))
      by true e = passed s x h e
      by false e = own_step x.value.value refl (needs_copy (fixed_in variables b) s.taken x.value x.value.value) refl

  outs_own : (s : Copied) (xs : List Out) → OwnSoFar s → OutsAreNear xs → OutsAreTyped (widths_of scope) (words_of scope) b.ops xs → OwnSoFar (copied_outs scope later (fixed_in variables b) s xs)
  outs_own s [] h n t = h
  outs_own s (x ∷ xs) h n t =
      outs_own (copied_out scope later (fixed_in variables b) s x) xs (out_own s x h n.0 (has_early (widths_of scope) (words_of scope) b.ops t.0.0 x.value.value t.0.2)) n.1 t.1

  -- ---- what variables hold that are set again

  held_skip : (xs ys : List Out) (x y : Out) (v : VarId) → (x.variable.0 == v.0) ≡ false → (y.variable.0 == v.0) ≡ false → held (xs ++ x ∷ ys) v ≡ held (xs ++ y ∷ ys) v
  held_skip [] ys x y v p q = ap (λ c. if c then x.value else held ys v) p ∙ sym (ap (λ c. if c then y.value else held ys v) q)
  held_skip (z ∷ xs) ys x y v p q = ap (λ w. if z.variable.0 == v.0 then z.value else w) (held_skip xs ys x y v p q)

  append_one : (xs ys : List Out) (x : Out) → (xs ++ x ∷ []) ++ ys ≡ xs ++ x ∷ ys
  append_one [] ys x = refl
  append_one (z ∷ xs) ys x = λ i. z ∷ append_one xs ys x i

  append_none : (xs : List Out) → xs ++ [] ≡ xs
  append_none [] = refl
  append_none (z ∷ xs) = λ i. z ∷ append_none xs i

  other_name : (x : Out) (v : VarId) → parts_set later x.variable ≡ false → parts_set later v ≡ true → (x.variable.0 == v.0) ≡ false
  other_name x v e k = by (x.variable.0 == v.0) refl where
    by : (c : Bool) → (x.variable.0 == v.0) ≡ c → c ≡ false
    by false q = refl
    by true q = let p = same_number x.variable.0 v.0 q in true_false (sym k ∙ sym (λ i. parts_set later (record { 0 = p i })) ∙ e)

  held_stays : (fixed : Fixed) (s : Copied) (xs : List Out) (v : VarId) → parts_set later v ≡ true → held (copied_outs scope later fixed s xs).outs v ≡ held (s.outs ++ xs) v
  held_stays fixed s [] v k = ap (λ l. held l v) (sym (append_none s.outs))
  held_stays fixed s (x ∷ xs) v k = held_stays fixed (copied_out scope later fixed s x) xs v k ∙ by (parts_set later x.variable) refl where
    by : (c : Bool) → parts_set later x.variable ≡ c → held ((if c then record s { outs = s.outs ++ x ∷ [] } else with_own x.variable s (own_operand scope fixed s x)).outs ++ xs) v ≡ held (s.outs ++ x ∷ xs) v
    by true e = ap (λ l. held l v) (append_one s.outs xs x)
    by false e =
        let y : Out = record { variable = x.variable; value = (own_operand scope fixed s x).operand } in
        ap (λ l. held l v) (append_one s.outs xs y) ∙ held_skip s.outs xs y x v (other_name x v e k) (other_name x v e k)

-- ---- blocks

module _ (scope : Scope) where
  abbrev Into : (VarId → Bool) → (VarId → Bool) → Type 0
  Into v w = (x : VarId) → v x ≡ true → w x ≡ true

  start_own : (later : PartTrees) (variables : VarId → Bool) (b : BlockTree) → OwnSoFar scope later variables b (record { ops = b.ops; outs = []; taken = [] })
  start_own later variables b = record { same = λ j. refl; more = omega arith; named = λ i x a q. absurd cc; apart = λ i k x y a c v p q. absurd cc }

  module _ (later others : PartTrees) (same : (v : VarId) → parts_set others v ≡ parts_set later v) (wide narrow : VarId → Bool) (into : Into narrow wide) (b : BlockTree) (h : IsReady scope true b) where
    abbrev new : BlockTree
    new = copied_block scope later wide b

    own : OwnSoFar scope later wide b (copied_outs scope later (fixed_in wide b) (record { ops = b.ops; outs = []; taken = [] }) b.outs)
    own = outs_own scope later wide b (record { ops = b.ops; outs = []; taken = [] }) b.outs (start_own later wide b) h.outs h.typed.outs

    -- what is fixed in the block with copies was so before
    fewer : (j : ℕ) → get_or (marks narrow new.ops) j false ≡ true → get_or (marks wide b.ops) j false ≡ true
    fewer j e = sym (own.same j) ∙ (below_ops narrow wide into new.ops).ops j e

    block_owns : BlockOwns others narrow new
    block_owns = record {
      named = λ i x a q.
          let z = own.named i x a (sym (same x.variable) ∙ q) in
          subst (NamesOwn (fixed_in narrow new)) (sym z.result) (not_true (get_or (marks narrow new.ops) z.op.0 false) (get_or (marks wide b.ops) z.op.0 false) (fewer z.op.0) z.free);
      apart = λ i k x y a c v p q. own.apart i k x y a c v (sym (same x.variable) ∙ p) (sym (same y.variable) ∙ q);
    }

    fixed_fewer : (x : Source) → is_fixed_source (fixed_in narrow new) x ≡ true → is_fixed_source (fixed_in wide b) x ≡ true
    fixed_fewer (source.Constant w) e = refl
    fixed_fewer (source.Variable v) e =
        ap (λ (f : VarId → Bool). f v) (same_variables (beginning wide) b.ops) ∙ into v (sym (ap (λ (f : VarId → Bool). f v) (same_variables (beginning narrow) new.ops)) ∙ e)
    fixed_fewer (source.Result i) e = fewer i.0 e

    behind_fewer : Into (fixed_behind others narrow new) (fixed_behind later wide b)
    behind_fewer v e =
        behind_if (outs_set b.outs v) (parts_set later v) (is_fixed (fixed_in narrow new) (held new.outs v)) (is_fixed (fixed_in wide b) (held b.outs v)) (narrow v) (wide v)
        (λ q p f. fixed_fewer (held b.outs v).value (sym (ap (is_fixed (fixed_in narrow new)) (held_stays scope later wide b (fixed_in wide b) (record { ops = b.ops; outs = []; taken = [] }) b.outs v p)) ∙ f))
        (into v)
        (sym (ap₂ (λ c d. if c then d && is_fixed (fixed_in narrow new) (held new.outs v) else narrow v) (names_outs new.outs b.outs (copied_names scope true later wide b) v) (same v)) ∙ e)

  -- the parts with copies set what the parts set
  parts_same : (variables : VarId → Bool) (ps : PartTrees) (v : VarId) → parts_set (copied_parts scope variables ps) v ≡ parts_set ps v
  parts_same variables no_part v = refl
  parts_same variables (more_parts shape after rest) v =
      let before = fixed_behind_shape shape variables in
      ap₂ (λ a c. shape_sets shape v || (a || c)) (names_outs (copied_block scope rest before after).outs after.outs (copied_names scope true rest before after) v) (parts_same (fixed_behind rest before after) rest v)

  shape_fewer : (shape : ShapeTree) (narrow wide : VarId → Bool) → Into narrow wide → Into (fixed_behind_shape shape narrow) (fixed_behind_shape shape wide)
  shape_fewer shape narrow wide h v e = let q = both_true (narrow v) (not (shape_sets shape v)) e in from_both (wide v) (not (shape_sets shape v)) (h v q.0) q.1

  module _ (L : SequenceTree → SequenceTree → Type 0) (O : BodyTree → Type 0) where
    parts_own : (ps : PartTrees) (wide narrow : VarId → Bool) → Into narrow wide → PartsHave (IsReady scope true) L O ps → PartsOwn narrow (copied_parts scope wide ps)
    parts_own no_part wide narrow h k = tt
    parts_own (more_parts shape after rest) wide narrow h k =
        let w = fixed_behind_shape shape wide in
        let n = fixed_behind_shape shape narrow in
        let i = shape_fewer shape narrow wide h in
        let others = copied_parts scope (fixed_behind rest w after) rest in
        let same = parts_same (fixed_behind rest w after) rest in
        (block_owns rest others same w n i after k.1, parts_own rest (fixed_behind rest w after) (fixed_behind others n (copied_block scope rest w after)) (behind_fewer rest others same w n i after k.1) k.2)

    pub body_owns : (s : SequenceTree) → SequenceHas (IsReady scope true) L O s → BodyOwns (copied scope s)
    body_owns (sequence first rest) h =
        let none : VarId → Bool = λ v. false in
        let others = copied_parts scope (fixed_behind rest none first) rest in
        let same = parts_same (fixed_behind rest none first) rest in
        (block_owns rest others same none none (λ v e. e) first h.0, parts_own rest (fixed_behind rest none first) (fixed_behind others none (copied_block scope rest none first)) (behind_fewer rest others same none none (λ v e. e) first h.0) h.1)
