-- What stands for the operations of a block that is joined, and what its outs name then.
use Rattle.std.specs.Prelude.{◌≢◌, slice_get, get_or, if◌then◌else◌}
use Rattle.std.proofs.Common.{◌≡◌, ◌∙◌, ◌<◌, ◌≤◌, ◌⊎◌, inl, inr, ℕ, Bool, true, false, ◌&&◌, ◌||◌, refl, ap, ap₂, sym, subst, arith, List, [], ◌∷◌, ◌++◌, append_assoc, append-nil, map, length, length-append, Option, Some, None}
use Rattle.hls_base.specs.declared.number.OpId.{OpId}
use Rattle.hls_base.specs.declared.number.VarId.{VarId}
use Rattle.ir_core.specs.declared.body.Operand.{Operand}
use Rattle.ir_core.specs.declared.body.Out.{Out}
use Rattle.ir_core.specs.declared.body.Source.{Source}
use Rattle.ir_core.specs.declared.body.Source.TheVariants as source
use Rattle.ir_core.specs.Value.{value}
use Rattle.ir_core.specs.Bodies.{OpTree, Shapes}
use Rattle.ir_core.specs.Trees.{BlockTree}
use Rattle.passes.specs.Numbering.Constants.{word_of}
use Rattle.passes.specs.Numbering as n
use Rattle.passes.specs.Numbering.{Value, constant, operand_or}
use Rattle.passes.specs.Conversion.Outs.{entry_value, held, is_set, with_outs}
use Rattle.passes.specs.Conversion.Joining.{Joined, standing_for, renamed, renamed_op, renamed_out, next_result, is_conversion, converted, first_word, by_word, joined_op, joined_ops}
use Rattle.passes.specs.Conversion.Merging.{joined}
use Rattle.passes.specs.Lowering.Outs as lower
use Rattle.passes.specs.Lowering.Copies.{Fixed, is_computed, is_fixed, is_fixed_source, all_fixed, fixed_in, outs_set, with_ops}
use Rattle.passes.specs.Lowering.Copies as copies
use Rattle.pass_runs.specs.ConvertRuns.Typed.{IsEarly}
use Rattle.pass_runs.proofs.ConvertRuns.Lists.{there, within, last_or}
use Rattle.sound_trees.specs.Ready.{HasFew, BlockIsReady, OpsAreReady}
use Rattle.sound_trees.specs.Loops.{OutsAreOwn, AreComputed}
use Rattle.sound_trees.proofs.Names.{set_same}
use Rattle.sound_trees.proofs.Fixed.{marks, beginning, marks_end, count_marks, with_more, same_variables, marks_kept, from_both}
use Rattle.sound_trees.proofs.Renamed.{few_one, conversion_computed}
use Rattle.sound_trees.proofs.NumberedOwn.{names_result, early_out}
use Rattle.sound_trees.proofs.ConvertedOwn.{Owns, IsOutOf, out_of, set_map, set_outs, held_unset, same_name, result_number, result_constant, variable_constant}

true_false : {A : Type 0} → true ≡ false → A
true_false e = cc

some_same : {A : Type 0} {x y : A} → Some x ≡ Some y → x ≡ y
some_same e = cc

none_some : {A B : Type 0} {x : A} → None ≡ Some x → B
none_some e = cc

-- ---- what stands for operations: a result behind these, each another one, or a constant

module _ (widths : List ℕ) (outs_ : List Out) (base : ℕ) (C : ℕ → Type 0) where
  abbrev pub StandsAt : ℕ → ℕ → Source → Type 0
  StandsAt size j (source.Constant w) = C j
  StandsAt size j (source.Variable v) = ⊥
  StandsAt size j (source.Result m) = (base ≤ m.0) × (m.0 < size)

  pub record Joins (done : List OpTree) (s : Joined) : Type 0 where
    pub count : length s.values ≡ length done
    pub least : base ≤ length s.ops
    pub stands : (j : ℕ) (v : Value) → slice_get s.values j ≡ Some v → StandsAt (length s.ops) j v.operand.value
    pub apart : (i k : ℕ) (v w : Value) (m : OpId) → slice_get s.values i ≡ Some v → slice_get s.values k ≡ Some w → i ≢ k → v.operand.value ≡ source.Result m → w.operand.value ≡ source.Result m → ⊥

  wider : (size more j : ℕ) → size ≤ more → (x : Source) → StandsAt size j x → StandsAt more j x
  wider size more j le (source.Constant w) h = h
  wider size more j le (source.Variable v) h = h
  wider size more j le (source.Result m) h = let a = h.1 in (h.0, omega (arith, a, le))

  module _ (done : List OpTree) (s : Joined) (h : Joins done s) (op : OpTree) where
    -- with a value that no other is
    one_more : (ops : List OpTree) (x : Operand) (bits : ℕ) → length s.ops ≤ length ops → StandsAt (length ops) (length s.values) x.value → ((m : OpId) → x.value ≡ source.Result m → length s.ops ≤ m.0)
        → Joins (done ++ op ∷ []) (record s { ops = ops; values = s.values ++ record { operand = x; bits = bits } ∷ [] })
    one_more ops x bits le at new = record {
      count = let a = length-append s.values (z ∷ []) in let b = length-append done (op ∷ []) in let c = h.count in omega (arith, a, b, c);
      least = let b = h.least in omega (arith, b, le);
      stands = λ j v e. by_stands j v (last_or s.values z j v e);
      apart = λ i k v w m e q ne p r. by_apart i k v w m ne p r (last_or s.values z i v e) (last_or s.values z k w q);
    } where
      z : Value
      z = record { operand = x; bits = bits }

      by_stands : (j : ℕ) (v : Value) → (slice_get s.values j ≡ Some v) ⊎ ((j ≡ length s.values) × (z ≡ v)) → StandsAt (length ops) j v.operand.value
      by_stands j v (inl e) = wider (length s.ops) (length ops) j le v.operand.value (h.stands j v e)
      by_stands j v (inr e) = subst (λ i. StandsAt (length ops) i v.operand.value) (sym e.0) (subst (λ (y : Value). StandsAt (length ops) (length s.values) y.operand.value) e.1 at)

      below : (i : ℕ) (v : Value) (m : OpId) → slice_get s.values i ≡ Some v → v.operand.value ≡ source.Result m → m.0 < length s.ops
      below i v m e p = (subst (StandsAt (length s.ops) i) p (h.stands i v e)).1

      clash : (i : ℕ) (v w : Value) (m : OpId) → slice_get s.values i ≡ Some v → z ≡ w → v.operand.value ≡ source.Result m → w.operand.value ≡ source.Result m → ⊥
      clash i v w m e d p r = let a = below i v m e p in let b = new m (ap (λ (y : Value). y.operand.value) d ∙ r) in omega (arith, a, b)

      by_apart : (i k : ℕ) (v w : Value) (m : OpId) → i ≢ k → v.operand.value ≡ source.Result m → w.operand.value ≡ source.Result m
          → (slice_get s.values i ≡ Some v) ⊎ ((i ≡ length s.values) × (z ≡ v)) → (slice_get s.values k ≡ Some w) ⊎ ((k ≡ length s.values) × (z ≡ w)) → ⊥
      by_apart i k v w m ne p r (inl a) (inl b) = h.apart i k v w m a b ne p r
      by_apart i k v w m ne p r (inl a) (inr b) = clash i v w m a b.1 p r
      by_apart i k v w m ne p r (inr a) (inl b) = clash k w v m b a.1 r p
      by_apart i k v w m ne p r (inr a) (inr b) = ne (a.0 ∙ sym b.0)

    step_joins : ((w : ℕ) → converted (renamed_op outs_ s.values op) (n.first_bits widths s.values op.bits op.args) (first_word (map (renamed outs_ s.values) op.args)) ≡ Some w → C (length s.values)) → Joins (done ++ op ∷ []) (joined_op widths outs_ None s op)
    step_joins f = by (converted (renamed_op outs_ s.values op) (n.first_bits widths s.values op.bits op.args) (first_word (map (renamed outs_ s.values) op.args))) refl where
      by : (x : Option ℕ) → converted (renamed_op outs_ s.values op) (n.first_bits widths s.values op.bits op.args) (first_word (map (renamed outs_ s.values) op.args)) ≡ x → Joins (done ++ op ∷ []) (by_word None s (renamed_op outs_ s.values op) x)
      by (Some w) e = one_more s.ops (constant w) _ (omega arith) (f w e) (λ m q. result_constant m w (sym q))
      by None e =
          let new = renamed_op outs_ s.values op in
          let l = length-append s.ops (new ∷ []) in
          let b = h.least in
          one_more (s.ops ++ new ∷ []) (next_result s.ops) _ (omega (arith, l)) (b, omega (arith, l)) (λ m q. let k = result_number (record { 0 = length s.ops }) m q in omega (arith, k))

  -- what is asked of each operation of a block
  abbrev pub Computes : List OpTree → Type 0
  Computes whole = (done : List OpTree) (op : OpTree) (rest : List OpTree) (s : Joined) → done ++ op ∷ rest ≡ whole → Joins done s → (w : ℕ)
      → converted (renamed_op outs_ s.values op) (n.first_bits widths s.values op.bits op.args) (first_word (map (renamed outs_ s.values) op.args)) ≡ Some w → C (length done)

  all_join : (whole : List OpTree) → Computes whole → (rest done : List OpTree) (s : Joined) → done ++ rest ≡ whole → Joins done s → Joins (done ++ rest) (joined_ops widths outs_ None s rest)
  all_join whole f [] done s e h = subst (λ l. Joins l s) (sym (append-nil done)) h
  all_join whole f (op ∷ rest) done s e h =
      let c = h.count in
      subst (λ l. Joins l (joined_ops widths outs_ None (joined_op widths outs_ None s op) rest)) (append_assoc done (op ∷ []) rest)
      (all_join whole f rest (done ++ op ∷ []) (joined_op widths outs_ None s op) (append_assoc done (op ∷ []) rest ∙ e) (step_joins done s h op (λ w q. subst C (sym c) (f done op rest s e h w q))))

  pub block_joins : (ops : List OpTree) → base ≡ length ops → (whole : List OpTree) → Computes whole → Joins whole (joined_ops widths outs_ None (record { ops = ops; values = []; guards = [] }) whole)
  block_joins ops b whole f = all_join whole f whole [] (record { ops = ops; values = []; guards = [] }) refl (record { count = refl; least = omega (arith, b); stands = λ j v e. none_some e; apart = λ i k v w m e q ne p r. none_some e })

-- ---- constants

constant_word : (x : Source) (w : ℕ) → word_of x ≡ Some w → x ≡ source.Constant w
constant_word (source.Constant c) w e = ap (λ k. source.Constant k) (some_same e)
constant_word (source.Variable v) w e = none_some e
constant_word (source.Result i) w e = none_some e

-- a conversion that is computed is one of a constant
conversion_of : (op : OpTree) (from : ℕ) (x : Option ℕ) (w : ℕ) → converted op from x ≡ Some w → (is_conversion op.kind ≡ true) × ((c : ℕ) × (x ≡ Some c))
conversion_of op from None w e = none_some e
conversion_of op from (Some c) w e = by (is_conversion op.kind) refl e where
  by : (d : Bool) → is_conversion op.kind ≡ d → (if d then Some (value op.kind op.signed op.bits from (c ∷ [])) else None) ≡ Some w → (is_conversion op.kind ≡ true) × ((k : ℕ) × (Some c ≡ Some k))
  by true q k = (q, (c, refl))
  by false q k = none_some k

-- ---- behind a block in which variables that hold constants are fixed

module _ (widths : List ℕ) (m : BlockTree) (fixed : VarId → Bool) (constants : (v : VarId) (w : ℕ) → (held m.outs v).value ≡ source.Constant w → fixed v ≡ true)
    (shapes : Shapes) (words : List ℕ) (whole : List OpTree) (ready : OpsAreReady shapes words true [] whole) where
  abbrev pub IsMarked : ℕ → Type 0
  IsMarked j = get_or (marks fixed whole) j false ≡ true

  few_at : (done : List OpTree) (op : OpTree) (rest before : List OpTree) → OpsAreReady shapes words true before (done ++ op ∷ rest) → HasFew op.kind op.args
  few_at [] op rest before h = h.0.few
  few_at (x ∷ done) op rest before h = few_at done op rest (before ++ x ∷ []) h.1

  -- the first ones have the marks that they have among all
  first_marks : (done rest : List OpTree) → done ++ rest ≡ whole → (j : ℕ) → j < length done → get_or (marks fixed whole) j false ≡ get_or (marks fixed done) j false
  first_marks done rest e j l =
      let c = count_marks fixed done in
      ap (λ l1. get_or (marks fixed l1) j false) (sym e) ∙ ap (λ (f : Fixed). get_or f.ops j false) (with_more (beginning fixed) done rest) ∙ marks_kept (with_ops (beginning fixed) done) rest j (omega (arith, l, c))

  next_mark : (done rest : List OpTree) (op : OpTree) → done ++ op ∷ rest ≡ whole → (is_computed op.kind && all_fixed (with_ops (beginning fixed) done) op.args) ≡ true → get_or (marks fixed whole) (length done) false ≡ true
  next_mark done rest op e k =
      let before = with_ops (beginning fixed) done in
      let mark = is_computed op.kind && all_fixed before op.args in
      let c = count_marks fixed done in
      let l = length-append (marks fixed done) (mark ∷ []) in
      ap (λ l1. get_or (marks fixed l1) (length done) false) (sym e) ∙ ap (λ (f : Fixed). get_or f.ops (length done) false) (with_more (beginning fixed) done (op ∷ rest))
      ∙ marks_kept (copies.with_op before op) rest (length done) (omega (arith, l, c)) ∙ ap (λ j. get_or (marks fixed done ++ mark ∷ []) j false) (sym c) ∙ marks_end (marks fixed done) mark ∙ k

  module _ (done : List OpTree) (op : OpTree) (rest : List OpTree) (s : Joined) (e : done ++ op ∷ rest ≡ whole) (h : Joins widths m.outs (length m.ops) IsMarked done s) where
    value_fixed : (y : Operand) (i : OpId) (c : ℕ) (v : Option Value) → slice_get s.values i.0 ≡ v → y.value ≡ source.Result i → (operand_or v y).value ≡ source.Constant c → get_or (marks fixed done) i.0 false ≡ true
    value_fixed y i c None q p k = result_constant i c (sym p ∙ k)
    value_fixed y i c (Some v) q p k =
        let l = within s.values i.0 v q in
        let n1 = h.count in
        sym (first_marks done (op ∷ rest) e i.0 (omega (arith, l, n1))) ∙ subst (StandsAt widths m.outs (length m.ops) IsMarked (length s.ops) i.0) k (h.stands i.0 v q)

    operand_fixed : (y : Operand) (c : ℕ) (t : Source) → y.value ≡ t → (standing_for m.outs s.values y t).value ≡ source.Constant c → is_fixed_source (with_ops (beginning fixed) done) t ≡ true
    operand_fixed y c (source.Constant w) p k = refl
    operand_fixed y c (source.Variable v) p k = ap (λ (f : VarId → Bool). f v) (same_variables (beginning fixed) done) ∙ constants v c k
    operand_fixed y c (source.Result i) p k = value_fixed y i c (slice_get s.values i.0) refl p k

    args_fixed : (xs : List Operand) (c : ℕ) → length xs ≤ 1 → first_word (map (renamed m.outs s.values) xs) ≡ Some c → all_fixed (with_ops (beginning fixed) done) xs ≡ true
    args_fixed [] c l q = none_some q
    args_fixed (y ∷ []) c l q = from_both (is_fixed (with_ops (beginning fixed) done) y) true (operand_fixed y c y.value refl (constant_word (renamed m.outs s.values y).value c q)) refl
    args_fixed (y ∷ z ∷ xs) c l q = absurd (omega (arith, l))

    is_marked : (w : ℕ) → converted (renamed_op m.outs s.values op) (n.first_bits widths s.values op.bits op.args) (first_word (map (renamed m.outs s.values) op.args)) ≡ Some w → IsMarked (length done)
    is_marked w q =
        let z = conversion_of (renamed_op m.outs s.values op) (n.first_bits widths s.values op.bits op.args) (first_word (map (renamed m.outs s.values) op.args)) w q in
        let few = few_at done op rest [] (subst (OpsAreReady shapes words true []) (sym e) ready) in
        next_mark done rest op e (from_both (is_computed op.kind) (all_fixed (with_ops (beginning fixed) done) op.args) (conversion_computed op.kind z.0) (args_fixed op.args z.1.0 (few_one op.kind op.args z.0 few) z.1.1))

  pub joins_marked : Joins widths m.outs (length m.ops) IsMarked whole (joined_ops widths m.outs None (record { ops = m.ops; values = []; guards = [] }) whole)
  joins_marked = block_joins widths m.outs (length m.ops) IsMarked m.ops refl whole (λ done op rest s e h w q. is_marked done op rest s e h w q)

-- what stands for the result of an operation
pub value_of : (widths : List ℕ) (outs_ : List Out) (base : ℕ) (C : ℕ → Type 0) (done : List OpTree) (s : Joined) → Joins widths outs_ base C done s → (x : Operand) (op : OpId) → x.value ≡ source.Result op → op.0 < length done
    → (v : Value) × (slice_get s.values op.0 ≡ Some v) × (renamed outs_ s.values x ≡ v.operand)
value_of widths outs_ base C done s h x op e l =
    let c = h.count in
    let v = there s.values op.0 (omega (arith, l, c)) in
    (v.0, v.1, ap (λ t. standing_for outs_ s.values x t) e ∙ ap (λ o. operand_or o x) v.1)

-- ---- the outs of a block that is joined

module _ (shapes : Shapes) (words : List ℕ) (m after : BlockTree) (a : BlockIsReady shapes words true after) (later fixed : VarId → Bool) where
  abbrev before : VarId → Bool
  before v = outs_set after.outs v || later v

  abbrev behind : VarId → Bool
  behind v = if outs_set after.outs v then later v && is_fixed (fixed_in fixed after) (lower.held after.outs v) else fixed v

  module _ (h : Owns before fixed m) (own : OutsAreOwn later (fixed_in fixed after) after.outs) where
    abbrev s : Joined
    s = joined_ops shapes.widths m.outs None (record { ops = m.ops; values = []; guards = [] }) after.ops

    abbrev Marked : ℕ → Type 0
    Marked j = get_or (marks fixed after.ops) j false ≡ true

    joins : Joins shapes.widths m.outs (length m.ops) Marked after.ops (joined_ops shapes.widths m.outs None (record { ops = m.ops; values = []; guards = [] }) after.ops)
    joins = joins_marked shapes.widths m fixed h.constant shapes words after.ops a.ops

    -- a result that stands for an own operand
    record IsNew (x : Operand) : Type 0 where
      old : OpId
      old_is : x.value ≡ source.Result old
      val : Value
      val_at : slice_get s.values old.0 ≡ Some val
      new : OpId
      new_is : val.operand.value ≡ source.Result new
      renamed_is : (renamed m.outs s.values x).value ≡ source.Result new
      behind_all : length m.ops ≤ new.0
      early : new.0 < length s.ops

    new_of : (j : ℕ) (x : Source) → StandsAt shapes.widths m.outs (length m.ops) Marked (length s.ops) j x → get_or (marks fixed after.ops) j false ≡ false → (k : OpId) × (x ≡ source.Result k) × (length m.ops ≤ k.0) × (k.0 < length s.ops)
    new_of j (source.Constant w) z f = true_false (sym z ∙ f)
    new_of j (source.Variable v) z f = absurd z
    new_of j (source.Result k) z f = (k, refl, z.0, z.1)

    out_new : (i : ℕ) (x : Out) → slice_get after.outs i ≡ Some x → later x.variable ≡ false → IsNew x.value
    out_new i x e q =
        let r = names_result (fixed_in fixed after) x.value.value (own.named i x e q) in
        let l : r.0.0 < length after.ops = subst (IsEarly (length after.ops)) r.1 (early_out shapes words after.ops after.outs i x a.typed.outs e) in
        let v = value_of shapes.widths m.outs (length m.ops) Marked after.ops s joins x.value r.0 r.1 l in
        let k = new_of r.0.0 v.0.operand.value (joins.stands r.0.0 v.0 v.1) r.2 in
        record { old = r.0; old_is = r.1; val = v.0; val_at = v.1; new = k.0; new_is = k.1; renamed_is = ap (λ (y : Operand). y.value) v.2 ∙ k.1; behind_all = k.2; early = k.3 }

    abbrev outs_then : List Out
    outs_then = with_outs m.outs (map (renamed_out m.outs s.values) after.outs)

    -- a variable that the block sets
    held_new : (v : VarId) (x : IsOutOf after.outs v) → held outs_then v ≡ renamed m.outs s.values x.out_.value
    held_new v x = x.mapped m.outs (entry_value v) m.outs s.values

    held_old : (v : VarId) → is_set after.outs v ≡ false → held outs_then v ≡ held m.outs v
    held_old v e = held_unset m.outs (map (renamed_out m.outs s.values) after.outs) v (entry_value v) (set_map m.outs s.values after.outs v ∙ e)

    set_then : (v : VarId) → is_set outs_then v ≡ (is_set after.outs v || is_set m.outs v)
    set_then v = set_outs m.outs (map (renamed_out m.outs s.values) after.outs) v ∙ ap (λ c. c || is_set m.outs v) (set_map m.outs s.values after.outs v)

    set_old : (v : VarId) → is_set after.outs v ≡ false → is_set outs_then v ≡ true → is_set m.outs v ≡ true
    set_old v e s1 = sym (set_then v ∙ ap (λ c. c || is_set m.outs v) e) ∙ s1

    not_before : (v : VarId) → is_set after.outs v ≡ false → later v ≡ false → before v ≡ false
    not_before v e q = ap₂ (λ c d. c || d) (sym (set_same after.outs v) ∙ e) q

    new_at : (v : VarId) (x : IsOutOf after.outs v) → later v ≡ false → IsNew x.out_.value
    new_at v x q = out_new x.number x.out_ x.at (ap later (same_name x.out_.variable v x.name) ∙ q)

    by_named : (v : VarId) (c : Bool) → is_set after.outs v ≡ c → is_set outs_then v ≡ true → later v ≡ false → (op : OpId) × ((held outs_then v).value ≡ source.Result op) × (op.0 < length s.ops)
    by_named v true e s1 q =
        let x = out_of after.outs v a.once e in
        let z = new_at v x q in
        (z.new, ap (λ (y : Operand). y.value) (held_new v x) ∙ z.renamed_is, z.early)
    by_named v false e s1 q =
        let z = h.named v (set_old v e s1) (not_before v e q) in
        let w = z.2 in
        let l = joins.least in
        (z.0, ap (λ (y : Operand). y.value) (held_old v e) ∙ z.1, omega (arith, w, l))

    mixed : (v u : VarId) → is_set after.outs v ≡ true → is_set after.outs u ≡ false → is_set outs_then u ≡ true → later v ≡ false → later u ≡ false → (held outs_then v).value ≢ (held outs_then u).value
    mixed v u e f t p q k =
        let x = out_of after.outs v a.once e in
        let z = new_at v x p in
        let y = h.named u (set_old u f t) (not_before u f q) in
        let w = y.2 in
        let b = z.behind_all in
        let r = result_number z.new y.0 (sym (ap (λ (o1 : Operand). o1.value) (held_new v x) ∙ z.renamed_is) ∙ k ∙ ap (λ (o1 : Operand). o1.value) (held_old u f) ∙ y.1) in
        omega (arith, w, b, r)

    by_apart : (v u : VarId) → v.0 ≢ u.0 → (c d : Bool) → is_set after.outs v ≡ c → is_set after.outs u ≡ d → is_set outs_then v ≡ true → is_set outs_then u ≡ true → later v ≡ false → later u ≡ false → (held outs_then v).value ≢ (held outs_then u).value
    by_apart v u ne true true e f s1 t p q k =
        let x = out_of after.outs v a.once e in
        let y = out_of after.outs u a.once f in
        let zx = new_at v x p in
        let zy = new_at u y q in
        let same : zy.val.operand.value ≡ source.Result zx.new =
        zy.new_is ∙ sym zy.renamed_is ∙ sym (ap (λ (o1 : Operand). o1.value) (held_new u y)) ∙ sym k ∙ ap (λ (o1 : Operand). o1.value) (held_new v x) ∙ zx.renamed_is in
        joins.apart zx.old.0 zy.old.0 zx.val zy.val zx.new zx.val_at zy.val_at
        (λ r. own.apart x.number y.number x.out_ y.out_ x.at y.at (λ r1. ne (sym x.name ∙ r1 ∙ y.name)) (ap later (same_name x.out_.variable v x.name) ∙ p) (ap later (same_name y.out_.variable u y.name) ∙ q) (zx.old_is ∙ (λ i. source.Result (record { 0 = r i })) ∙ sym zy.old_is))
        zx.new_is same
    by_apart v u ne true false e f s1 t p q k = mixed v u e f t p q k
    by_apart v u ne false true e f s1 t p q k = mixed u v f e s1 q p (sym k)
    by_apart v u ne false false e f s1 t p q k =
        h.apart v u ne (set_old v e s1) (set_old u f t) (not_before v e p) (not_before u f q) (sym (ap (λ (o1 : Operand). o1.value) (held_old v e)) ∙ k ∙ ap (λ (o1 : Operand). o1.value) (held_old u f))

    later_set : (v : VarId) (w : ℕ) (x : IsOutOf after.outs v) → (renamed m.outs s.values x.out_.value).value ≡ source.Constant w → (c : Bool) → later v ≡ c → c ≡ true
    later_set v w x k true q = refl
    later_set v w x k false q = let z = new_at v x q in result_constant z.new w (sym z.renamed_is ∙ k)

    constant_back : (y : Operand) (w : ℕ) (t : Source) → y.value ≡ t → IsEarly (length after.ops) t → (standing_for m.outs s.values y t).value ≡ source.Constant w → is_fixed_source (fixed_in fixed after) t ≡ true
    constant_back y w (source.Constant c) p l k = refl
    constant_back y w (source.Variable v) p l k = ap (λ (f : VarId → Bool). f v) (same_variables (beginning fixed) after.ops) ∙ h.constant v w k
    constant_back y w (source.Result i) p l k =
        let v = value_of shapes.widths m.outs (length m.ops) Marked after.ops s joins y i p l in
        let e : v.0.operand.value ≡ source.Constant w = sym (ap (λ (o1 : Operand). o1.value) v.2) ∙ ap (λ t1. (standing_for m.outs s.values y t1).value) p ∙ k in
        subst (StandsAt shapes.widths m.outs (length m.ops) Marked (length s.ops) i.0) e (joins.stands i.0 v.0 v.1)

    by_constant : (v : VarId) (w : ℕ) (c : Bool) → is_set after.outs v ≡ c → (held outs_then v).value ≡ source.Constant w → behind v ≡ true
    by_constant v w true e k =
        let x = out_of after.outs v a.once e in
        let r : (renamed m.outs s.values x.out_.value).value ≡ source.Constant w = sym (ap (λ (o1 : Operand). o1.value) (held_new v x)) ∙ k in
        let l = early_out shapes words after.ops after.outs x.number x.out_ a.typed.outs x.at in
        ap (λ c. if c then later v && is_fixed (fixed_in fixed after) (lower.held after.outs v) else fixed v) (sym (set_same after.outs v) ∙ e)
        ∙ from_both (later v) (is_fixed (fixed_in fixed after) (lower.held after.outs v)) (later_set v w x r (later v) refl) (ap (is_fixed (fixed_in fixed after)) x.low ∙ constant_back x.out_.value w x.out_.value.value refl l r)
    by_constant v w false e k =
        ap (λ c. if c then later v && is_fixed (fixed_in fixed after) (lower.held after.outs v) else fixed v) (sym (set_same after.outs v) ∙ e) ∙ h.constant v w (sym (ap (λ (o1 : Operand). o1.value) (held_old v e)) ∙ k)

    pub joined_owns : Owns later behind (joined shapes.widths m after)
    joined_owns = record {
      constant = λ v w e. by_constant v w (is_set after.outs v) refl e;
      named = λ v s1 q. by_named v (is_set after.outs v) refl s1 q;
      apart = λ v u ne s1 t p q. by_apart v u ne (is_set after.outs v) (is_set after.outs u) refl refl s1 t p q;
    }

-- ---- a block whose conversions of constants are computed, behind one that sets nothing

module _ (shapes : Shapes) (words : List ℕ) (head body : BlockTree) (b : BlockIsReady shapes words true body) (computed_ : AreComputed body.ops) (h : Owns (λ v. false) (λ v. true) body) where
  abbrev start : Joined
  start = record { ops = head.ops; values = []; guards = [] }

  abbrev t : Joined
  t = joined_ops shapes.widths [] None (record { ops = head.ops; values = []; guards = [] }) body.ops

  at_split : (done : List OpTree) (op : OpTree) (rest : List OpTree) → AreComputed (done ++ op ∷ rest) → is_conversion op.kind ≡ true → first_word op.args ≡ None
  at_split [] op rest k = k.0
  at_split (x ∷ done) op rest k = at_split done op rest k.1

  no_constant : (done : List OpTree) (s : Joined) → Joins shapes.widths [] (length head.ops) (λ j. ⊥) done s → (y : Operand) (c : ℕ) (r : Source) → y.value ≡ r → (standing_for [] s.values y r).value ≡ source.Constant c → y.value ≡ source.Constant c
  no_constant done s j y c (source.Constant w) p k = k
  no_constant done s j y c (source.Variable v) p k = variable_constant v c k
  no_constant done s j y c (source.Result i) p k = by (slice_get s.values i.0) refl k where
    by : (v : Option Value) → slice_get s.values i.0 ≡ v → (operand_or v y).value ≡ source.Constant c → y.value ≡ source.Constant c
    by None q e = e
    by (Some v) q e = absurd (subst (StandsAt shapes.widths [] (length head.ops) (λ j1. ⊥) (length s.ops) i.0) e (j.stands i.0 v q))

  computes : Computes shapes.widths [] (length head.ops) (λ j. ⊥) body.ops
  computes done op rest s e j w q =
      let z = conversion_of (renamed_op [] s.values op) (n.first_bits shapes.widths s.values op.bits op.args) (first_word (map (renamed [] s.values) op.args)) w q in
      by op.args (at_split done op rest (subst AreComputed (sym e) computed_) z.0) z.1.0 z.1.1 where
        by : (xs : List Operand) → first_word xs ≡ None → (c : ℕ) → first_word (map (renamed [] s.values) xs) ≡ Some c → ⊥
        by [] k c f = none_some f
        by (y ∷ xs) k c f =
            let g = no_constant done s j y c y.value refl (constant_word (renamed [] s.values y).value c f) in
            none_some (sym k ∙ ap word_of g)

  joins_all : Joins shapes.widths [] (length head.ops) (λ j. ⊥) body.ops (joined_ops shapes.widths [] None (record { ops = head.ops; values = []; guards = [] }) body.ops)
  joins_all = block_joins shapes.widths [] (length head.ops) (λ j. ⊥) head.ops refl body.ops computes

  or_nothing : (c : Bool) → (c || false) ≡ c
  or_nothing true = refl
  or_nothing false = refl

  set_body : (v : VarId) → is_set (with_outs [] (map (renamed_out [] t.values) body.outs)) v ≡ true → is_set body.outs v ≡ true
  set_body v e = sym (or_nothing (is_set body.outs v)) ∙ sym (ap (λ c. c || false) (set_map [] t.values body.outs v)) ∙ sym (set_outs [] (map (renamed_out [] t.values) body.outs) v) ∙ e

  -- the result that a variable holds
  record IsResult (v : VarId) : Type 0 where
    old : OpId
    old_is : (held body.outs v).value ≡ source.Result old
    val : Value
    val_at : slice_get t.values old.0 ≡ Some val
    new : OpId
    new_is : val.operand.value ≡ source.Result new
    holds : (held (with_outs [] (map (renamed_out [] t.values) body.outs)) v).value ≡ source.Result new
    early : new.0 < length t.ops

  result_at : (j : ℕ) (x : Source) → StandsAt shapes.widths [] (length head.ops) (λ i. ⊥) (length t.ops) j x → (k : OpId) × (x ≡ source.Result k) × (k.0 < length t.ops)
  result_at j (source.Constant w) z = absurd z
  result_at j (source.Variable v) z = absurd z
  result_at j (source.Result k) z = (k, refl, z.1)

  result_of : (v : VarId) → is_set (with_outs [] (map (renamed_out [] t.values) body.outs)) v ≡ true → IsResult v
  result_of v e =
      let x = out_of body.outs v b.once (set_body v e) in
      let z = h.named v (set_body v e) refl in
      let d : x.out_.value.value ≡ source.Result z.0 = sym (ap (λ (y : Operand). y.value) (x.direct (entry_value v))) ∙ z.1 in
      let w = value_of shapes.widths [] (length head.ops) (λ j. ⊥) body.ops t joins_all x.out_.value z.0 d z.2 in
      let k = result_at z.0.0 w.0.operand.value (joins_all.stands z.0.0 w.0 w.1) in
      record {
        old = z.0;
        old_is = z.1;
        val = w.0;
        val_at = w.1;
        new = k.0;
        new_is = k.1;
        holds = ap (λ (y : Operand). y.value) (x.mapped [] (entry_value v) [] t.values) ∙ ap (λ (y : Operand). y.value) w.2 ∙ k.1;
        early = k.2;
      }

  pub overlapped_owns : Owns (λ v. false) (λ v. true) (joined shapes.widths (record head { outs = [] }) body)
  overlapped_owns = record {
    constant = λ v w e. refl;
    named = λ v s1 q. let r = result_of v s1 in (r.new, r.holds, r.early);
    apart = λ v u ne s1 s2 p q k.
        let r = result_of v s1 in
        let y = result_of u s2 in
        joins_all.apart r.old.0 y.old.0 r.val y.val r.new r.val_at y.val_at (λ g. h.apart v u ne (set_body v s1) (set_body u s2) refl refl (r.old_is ∙ (λ i. source.Result (record { 0 = g i })) ∙ sym y.old_is)) r.new_is
        (y.new_is ∙ sym y.holds ∙ sym k ∙ r.holds);
  }
