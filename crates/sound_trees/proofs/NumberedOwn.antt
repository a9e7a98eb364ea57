-- Numbering keeps operations apart that each make an out.
use Rattle.std.specs.Prelude.{◌==◌, ◌≢◌, slice_get, get_or}
use Rattle.std.proofs.Common.{◌≡◌, ◌∙◌, ◌<◌, ◌≤◌, ◌+◌, ◌⊎◌, inl, inr, ℕ, zero, suc, Bool, true, false, not, ◌&&◌, ◌||◌, refl, ap, ap₂, sym, subst, arith, List, [], ◌∷◌, ◌++◌, append_assoc, append-nil, map, length, length-append, Option, Some, None, is_some, if◌then◌else◌}
use Rattle.hls_base.specs.declared.number.OpId.{OpId}
use Rattle.hls_base.specs.declared.number.VarId.{VarId}
use Rattle.ir_core.specs.declared.body.Operand.{Operand}
use Rattle.ir_core.specs.declared.body.Out.{Out}
use Rattle.ir_core.specs.declared.body.Source.{Source}
use Rattle.ir_core.specs.declared.body.Source.TheVariants as source
use Rattle.ir_core.specs.Value.{value, is_defined}
use Rattle.ir_core.specs.Timing.{result_bits}
use Rattle.ir_core.specs.Bodies.{OpTree, Shapes}
use Rattle.ir_core.specs.Trees.{BlockTree}
use Rattle.passes.specs.Numbering.Equal.{is_equal}
use Rattle.passes.specs.Numbering.Constants as n
use Rattle.passes.specs.Numbering.Constants.{word_of, word_in, computed_on, computed}
use Rattle.passes.specs.Numbering.{Scope, Value, Kept, Numbered, First, constant, result_of, operand_or, standing_for, renamed, renamed_op, first_bits, first_equal, joined, earlier, is_common, with_out, with_earlier, with_word, is_result, makes_out, numbered_op, numbered_ops, nothing, ops_of, renamed_out, numbered_block}
use Rattle.passes.proofs.Equalities.{equal_alike}
use Rattle.passes.proofs.NumberRuns.Finding.{Earlier, earlier_found}
use Rattle.passes.specs.Lowering.Outs.{held}
use Rattle.passes.specs.Lowering.Copies.{Fixed, is_computed, is_fixed, is_fixed_source, all_fixed, fixed_in, outs_set, with_ops}
use Rattle.pass_runs.specs.ConvertRuns.Typed.{IsEarly, AreEarly, OpsAreTyped, OutsAreTyped}
use Rattle.pass_runs.proofs.ConvertRuns.Lists.{there, within, last_or}
use Rattle.pass_runs.proofs.ConvertRuns.Joining.{has_early}
use Rattle.pass_runs.proofs.ConvertRuns.Opening.{itself_number}
use Rattle.sound_trees.specs.Ready.{HasFew, OpsAreReady, BlockIsReady}
use Rattle.sound_trees.specs.Loops.{NamesOwn, OutsAreOwn}
use Rattle.sound_trees.proofs.Fixed.{marks, beginning, marks_left, marks_end, marks_more, count_marks, same_variables, both_true, from_both, not_true, mark_says, fixed_at, three_fixed}
use Rattle.sound_trees.proofs.Renamed.{few_map, few_three, computed_same, length_map}
use Rattle.sound_trees.proofs.NumberedBlocks.{stays_same, ops_append, count_same}

some_same : {A : Type 0} {x y : A} → Some x ≡ Some y → x ≡ y
some_same e = cc

none_some : {A B : Type 0} {x : A} → None ≡ Some x → B
none_some e = cc

true_false : {A : Type 0} → true ≡ false → A
true_false e = cc

-- ---- which operations make outs

abbrev flags : List Kept → List Bool
flags = map (λ (k : Kept). k.makes_out)

flag_kept : (b : Bool) (ks : List Kept) (i j : ℕ) → get_or (flags ks) j false ≡ true → get_or (flags (with_out b ks i)) j false ≡ true
flag_kept b [] i j e = e
flag_kept b (k ∷ ks) zero zero e = ap (λ c. c || b) e
flag_kept b (k ∷ ks) zero (suc j) e = e
flag_kept b (k ∷ ks) (suc i) zero e = e
flag_kept b (k ∷ ks) (suc i) (suc j) e = flag_kept b ks i j e

or_true : (c : Bool) → (c || true) ≡ true
or_true true = refl
or_true false = refl

flag_set : (ks : List Kept) (i : ℕ) → i < length ks → get_or (flags (with_out true ks i)) i false ≡ true
flag_set [] i h = absurd (omega (arith, h))
flag_set (k ∷ ks) zero h = or_true k.makes_out
flag_set (k ∷ ks) (suc i) h = flag_set ks i (omega (arith, h))

flags_append : (ks : List Kept) (k : Kept) → flags (ks ++ k ∷ []) ≡ flags ks ++ k.makes_out ∷ []
flags_append [] k = refl
flags_append (x ∷ ks) k = ap (λ l. x.makes_out ∷ l) (flags_append ks k)

flags_count : (ks : List Kept) → length (flags ks) ≡ length ks
flags_count ks = length_map (λ (k : Kept). k.makes_out) ks

-- the flag of the first equal operation
first_flag : (op : OpTree) (ks : List Kept) (i : ℕ) (r : First) → first_equal op ks i ≡ Some r → (m : ℕ) × (r.op ≡ i + m) × (get_or (flags ks) m false ≡ r.makes_out)
first_flag op [] i r e = none_some e
first_flag op (k ∷ ks) i r e = by (not (is_some k.op.guard) && is_equal op k.op) e (λ q. first_flag op ks (i + 1) r q) where
  by : (b : Bool) → (if b then Some (record { op = i; makes_out = k.makes_out }) else first_equal op ks (i + 1)) ≡ Some r
      → (first_equal op ks (i + 1) ≡ Some r → (m : ℕ) × (r.op ≡ (i + 1) + m) × (get_or (flags ks) m false ≡ r.makes_out)) → (m : ℕ) × (r.op ≡ i + m) × (get_or (flags (k ∷ ks)) m false ≡ r.makes_out)
  by true h further =
      let s = ap (λ (x : First). x.op) (some_same h) in
      let z : r.op ≡ i + 0 = omega (arith, s) in (0, z, ap (λ (x : First). x.makes_out) (some_same h))
  by false h further =
      let f = further h in let a = f.1 in let m = f.0 in
      let z : r.op ≡ i + suc m = omega (arith, a) in (suc m, z, f.2)

-- Two that each make an out are not made one.
apart_flag : (op : OpTree) (ks : List Kept) (j : ℕ) → earlier true op ks ≡ Some j → get_or (flags ks) j false ≡ false
apart_flag op ks j e = by (not (is_some op.guard) && is_common op.kind) e where
  by_first : (x : Option First) → first_equal op ks 0 ≡ x → joined true x ≡ Some j → get_or (flags ks) j false ≡ false
  by_first None q h = none_some h
  by_first (Some r) q h = by_made r.makes_out refl h where
    by_made : (c : Bool) → r.makes_out ≡ c → (if c then None else Some r.op) ≡ Some j → get_or (flags ks) j false ≡ false
    by_made true p z = none_some z
    by_made false p z =
        let f = first_flag op ks 0 r q in
        let n = f.1 in let m = f.0 in
        let k : m ≡ r.op = omega (arith, n) in
        ap (λ i. get_or (flags ks) i false) (sym (some_same z) ∙ sym k) ∙ f.2 ∙ p

  by : (b : Bool) → (if b then joined true (first_equal op ks 0) else None) ≡ Some j → get_or (flags ks) j false ≡ false
  by true h = by_first (first_equal op ks 0) refl h
  by false h = none_some h

-- ---- constants

word_fixed : (f : Fixed) (x : Operand) (w : ℕ) → word_of x.value ≡ Some w → is_fixed f x ≡ true
word_fixed f x w e = at x.value e where
  at : (s : Source) → word_of s ≡ Some w → is_fixed_source f s ≡ true
  at (source.Constant v) h = refl
  at (source.Variable v) h = none_some h
  at (source.Result i) h = none_some h

words_fixed : (f : Fixed) (op : OpTree) (from w : ℕ) → computed op from ≡ Some w → (is_computed op.kind ≡ true) × (HasFew op.kind op.args → all_fixed f op.args ≡ true)
words_fixed f op from w e = at (word_in (slice_get op.args 0)) (word_in (slice_get op.args 1)) (word_in (slice_get op.args 2)) refl refl refl e where
  one : (i : ℕ) (v : ℕ) → word_in (slice_get op.args i) ≡ Some v → (x : Operand) → slice_get op.args i ≡ Some x → is_fixed f x ≡ true
  one i v h x q = word_fixed f x v (sym (ap word_in q) ∙ h)

  at : (x y z : Option ℕ) → word_in (slice_get op.args 0) ≡ x → word_in (slice_get op.args 1) ≡ y → word_in (slice_get op.args 2) ≡ z → computed_on op from x y z ≡ Some w
      → (is_computed op.kind ≡ true) × (HasFew op.kind op.args → all_fixed f op.args ≡ true)
  at None y z a b c h = none_some h
  at (Some x) None z a b c h = none_some h
  at (Some x) (Some y) None a b c h = none_some h
  at (Some x) (Some y) (Some z) a b c h = by (n.is_computed op.kind && is_defined op.kind op.signed op.bits (x ∷ y ∷ z ∷ [])) refl h where
    by : (d : Bool) → (n.is_computed op.kind && is_defined op.kind op.signed op.bits (x ∷ y ∷ z ∷ [])) ≡ d → (if d then Some (value op.kind op.signed op.bits from (x ∷ y ∷ z ∷ [])) else None) ≡ Some w
        → (is_computed op.kind ≡ true) × (HasFew op.kind op.args → all_fixed f op.args ≡ true)
    by true q k =
        let m = sym (computed_same op.kind) ∙ (both_true (n.is_computed op.kind) (is_defined op.kind op.signed op.bits (x ∷ y ∷ z ∷ [])) q).0 in
        (m, λ few. three_fixed f op.args (few_three op.kind op.args m few) (one 0 x a) (one 1 y b) (one 2 z c))
    by false q k = none_some k

module _ (outs : List Out) (wide narrow : VarId → Bool) (into : (v : VarId) → narrow v ≡ true → wide v ≡ true) where
  -- A constant stands only for an operation on constants alone, and an operation on constants alone only for another one.
  abbrev StandsFor : List OpTree → List OpTree → ℕ → Source → Type 0
  StandsFor done ops j (source.Constant w) = get_or (marks wide done) j false ≡ true
  StandsFor done ops j (source.Variable v) = ⊥
  StandsFor done ops j (source.Result m) = (m.0 < length ops) × (get_or (marks narrow ops) m.0 false ≡ true → get_or (marks wide done) j false ≡ true)

  record Keeps (done : List OpTree) (s : Numbered) : Type 0 where
    count : length s.values ≡ length done
    stands : (j : ℕ) (v : Value) → slice_get s.values j ≡ Some v → StandsFor done (ops_of s.ops) j v.operand.value
    made : (j : ℕ) (v : Value) (m : OpId) → slice_get s.values j ≡ Some v → v.operand.value ≡ source.Result m → makes_out outs j ≡ true → get_or (flags s.ops) m.0 false ≡ true
    apart : (i k : ℕ) (v w : Value) (m : OpId) → slice_get s.values i ≡ Some v → slice_get s.values k ≡ Some w → i ≢ k → makes_out outs i ≡ true → makes_out outs k ≡ true
        → v.operand.value ≡ source.Result m → w.operand.value ≡ source.Result m → ⊥

  -- ---- operands

  module _ (done : List OpTree) (s : Numbered) (h : Keeps done s) where
    abbrev ops : List OpTree
    ops = ops_of s.ops

    abbrev before : Fixed
    before = with_ops (beginning wide) done

    abbrev now : Fixed
    now = with_ops (beginning narrow) (ops_of s.ops)

    stood : (j : ℕ) (x : Source) → StandsFor done (ops_of s.ops) j x → is_fixed_source now x ≡ true → get_or (marks wide done) j false ≡ true
    stood j (source.Constant w) z e = z
    stood j (source.Variable v) z e = absurd z
    stood j (source.Result m) z e = z.1 e

    source_back : (x : Operand) (t : Source) → x.value ≡ t → IsEarly (length done) t → is_fixed_source now (standing_for s.values x t).value ≡ true → is_fixed_source before t ≡ true
    source_back x (source.Constant w) q l e = refl
    source_back x (source.Variable v) q l e =
        let k : is_fixed_source now (source.Variable v) ≡ true = ap (is_fixed_source now) (sym q) ∙ e in
        ap (λ (f : VarId → Bool). f v) (same_variables (beginning wide) done) ∙ into v (sym (ap (λ (f : VarId → Bool). f v) (same_variables (beginning narrow) (ops_of s.ops))) ∙ k)
    source_back x (source.Result i) q l e =
        let c = h.count in
        let v = there s.values i.0 (omega (arith, l, c)) in
        stood i.0 v.0.operand.value (h.stands i.0 v.0 v.1) (sym (ap (λ (o : Option Value). is_fixed_source now (operand_or o x).value) v.1) ∙ e)

    back : (x : Operand) → IsEarly (length done) x.value → is_fixed now (renamed s.values x) ≡ true → is_fixed before x ≡ true
    back x l e = source_back x x.value refl l e

    all_back : (xs : List Operand) → AreEarly (length done) xs → all_fixed now (map (renamed s.values) xs) ≡ true → all_fixed before xs ≡ true
    all_back [] l e = refl
    all_back (x ∷ xs) l e =
        let q = both_true (is_fixed now (renamed s.values x)) (all_fixed now (map (renamed s.values) xs)) e in from_both (is_fixed before x) (all_fixed before xs) (back x l.0 q.0) (all_back xs l.1 q.1)

    -- ---- one operation more

    module _ (op : OpTree) (l : AreEarly (length done) op.args) (few : HasFew op.kind op.args) where
      abbrev new : OpTree
      new = renamed_op s.values op

      older : (j : ℕ) → j < length done → get_or (marks wide (done ++ op ∷ [])) j false ≡ get_or (marks wide done) j false
      older j q = let c = count_marks wide done in ap (λ l1. get_or l1 j false) (marks_more wide done op) ∙ marks_left (marks wide done) ((is_computed op.kind && all_fixed before op.args) ∷ []) j (omega (arith, q, c))

      newest : is_computed op.kind ≡ true → all_fixed now (map (renamed s.values) op.args) ≡ true → get_or (marks wide (done ++ op ∷ [])) (length s.values) false ≡ true
      newest k e =
          let c = count_marks wide done in
          let d = h.count in
          let q : length s.values ≡ length (marks wide done) = omega (arith, c, d) in
          ap₂ (λ l1 j. get_or l1 j false) (marks_more wide done op) q ∙ marks_end (marks wide done) (is_computed op.kind && all_fixed before op.args) ∙ from_both (is_computed op.kind) (all_fixed before op.args) k (all_back op.args l e)

      -- behind more operations
      lifted : (ops1 : List OpTree) → ((m : ℕ) → m < length (ops_of s.ops) → get_or (marks narrow ops1) m false ≡ get_or (marks narrow (ops_of s.ops)) m false) → length (ops_of s.ops) ≤ length ops1
          → (j : ℕ) → j < length done → (x : Source) → StandsFor done (ops_of s.ops) j x → StandsFor (done ++ op ∷ []) ops1 j x
      lifted ops1 same le j q (source.Constant w) z = older j q ∙ z
      lifted ops1 same le j q (source.Variable v) z = z
      lifted ops1 same le j q (source.Result m) z = let a = z.0 in (omega (arith, a, le), λ e. older j q ∙ z.1 (sym (same m.0 a) ∙ e))

      -- the values with that of this operation, among these operations
      with_last : (ks : List Kept) (x : Operand) → length (ops_of s.ops) ≤ length (ops_of ks) → ((m : ℕ) → m < length (ops_of s.ops) → get_or (marks narrow (ops_of ks)) m false ≡ get_or (marks narrow (ops_of s.ops)) m false)
          → ((j : ℕ) → get_or (flags s.ops) j false ≡ true → get_or (flags ks) j false ≡ true)
          → StandsFor (done ++ op ∷ []) (ops_of ks) (length s.values) x.value
          → ((m : OpId) → x.value ≡ source.Result m → makes_out outs (length s.values) ≡ true → get_or (flags ks) m.0 false ≡ true)
          → ((m : OpId) → x.value ≡ source.Result m → makes_out outs (length s.values) ≡ true → get_or (flags s.ops) m.0 false ≡ false)
          → (bits : ℕ) → Keeps (done ++ op ∷ []) (record { ops = ks; values = s.values ++ record { operand = x; bits = bits } ∷ [] })
      with_last ks x le same more stands_ made_ fresh bits = record {
        count = let a = length-append s.values (z ∷ []) in let b = length-append done (op ∷ []) in let c = h.count in omega (arith, a, b, c);
        stands = λ j v e. by_stands j v (last_or s.values z j v e);
        made = λ j v m e q k. by_made j v m q k (last_or s.values z j v e);
        apart = λ i k v w m e q ne oi ok p r. by_apart i k v w m ne oi ok p r (last_or s.values z i v e) (last_or s.values z k w q);
      } where
        z : Value
        z = record { operand = x; bits = bits }

        by_stands : (j : ℕ) (v : Value) → (slice_get s.values j ≡ Some v) ⊎ ((j ≡ length s.values) × (z ≡ v)) → StandsFor (done ++ op ∷ []) (ops_of ks) j v.operand.value
        by_stands j v (inl e) = let a = within s.values j v e in let c = h.count in lifted (ops_of ks) same le j (omega (arith, a, c)) v.operand.value (h.stands j v e)
        by_stands j v (inr e) = subst (λ i. StandsFor (done ++ op ∷ []) (ops_of ks) i v.operand.value) (sym e.0) (subst (λ (y : Value). StandsFor (done ++ op ∷ []) (ops_of ks) (length s.values) y.operand.value) e.1 stands_)

        by_made : (j : ℕ) (v : Value) (m : OpId) → v.operand.value ≡ source.Result m → makes_out outs j ≡ true → (slice_get s.values j ≡ Some v) ⊎ ((j ≡ length s.values) × (z ≡ v)) → get_or (flags ks) m.0 false ≡ true
        by_made j v m q k (inl e) = more m.0 (h.made j v m e q k)
        by_made j v m q k (inr e) = made_ m (ap (λ (y : Value). y.operand.value) e.1 ∙ q) (ap (makes_out outs) (sym e.0) ∙ k)

        clash : (i : ℕ) (v w : Value) (m : OpId) → slice_get s.values i ≡ Some v → z ≡ w → makes_out outs i ≡ true → makes_out outs (length s.values) ≡ true → v.operand.value ≡ source.Result m → w.operand.value ≡ source.Result m → ⊥
        clash i v w m e d oi ok p r = true_false (sym (h.made i v m e p oi) ∙ fresh m (ap (λ (y : Value). y.operand.value) d ∙ r) ok)

        by_apart : (i k : ℕ) (v w : Value) (m : OpId) → i ≢ k → makes_out outs i ≡ true → makes_out outs k ≡ true → v.operand.value ≡ source.Result m → w.operand.value ≡ source.Result m
            → (slice_get s.values i ≡ Some v) ⊎ ((i ≡ length s.values) × (z ≡ v)) → (slice_get s.values k ≡ Some w) ⊎ ((k ≡ length s.values) × (z ≡ w)) → ⊥
        by_apart i k v w m ne oi ok p r (inl a) (inl b) = h.apart i k v w m a b ne oi ok p r
        by_apart i k v w m ne oi ok p r (inl a) (inr b) = clash i v w m a b.1 oi (ap (makes_out outs) (sym b.0) ∙ ok) p r
        by_apart i k v w m ne oi ok p r (inr a) (inl b) = clash k w v m b a.1 ok (ap (makes_out outs) (sym a.0) ∙ oi) r p
        by_apart i k v w m ne oi ok p r (inr a) (inr b) = ne (a.0 ∙ sym b.0)

      result_index : (i : ℕ) (m : OpId) → source.Result (record { 0 = i }) ≡ source.Result m → i ≡ m.0
      result_index i m e = ap (λ (j : OpId). j.0) (inside (record { 0 = i }) m e) where
        inside : (a b : OpId) → source.Result a ≡ source.Result b → a ≡ b
        inside a b q = cc

      constant_no_result : (w : ℕ) (m : OpId) {A : Type 0} → source.Constant w ≡ source.Result m → A
      constant_no_result w m e = cc

      word_keeps : (w from : ℕ) (bits : ℕ) → computed (renamed_op s.values op) from ≡ Some w → Keeps (done ++ op ∷ []) (record { ops = s.ops; values = s.values ++ record { operand = constant w; bits = bits } ∷ [] })
      word_keeps w from bits e =
          let q = words_fixed now new from w e in
          with_last s.ops (constant w) (omega arith) (λ m z. refl) (λ j z. z) (newest q.0 (q.1 (few_map (renamed s.values) op.kind op.args few))) (λ m k o. constant_no_result w m k) (λ m k o. constant_no_result w m k) bits

      -- one of the same operands as an operation on constants alone is one itself
      equal_fixed : (i : ℕ) (old : OpTree) → slice_get (ops_of s.ops) i ≡ Some old → is_equal (renamed_op s.values op) old ≡ true → get_or (marks narrow (ops_of s.ops)) i false ≡ true → get_or (marks wide (done ++ op ∷ [])) (length s.values) false ≡ true
      equal_fixed i old at eq e =
          let a = equal_alike new old eq in
          let z : 0 + i ≡ i = omega arith in
          let y = mark_says (beginning narrow) (ops_of s.ops) i old at (ap (λ j. get_or (marks narrow (ops_of s.ops)) j false) z ∙ e) in
          let k : is_computed op.kind ≡ true = ap is_computed a.kind ∙ y.0 in
          newest k (three_fixed now (map (renamed s.values) op.args) (few_three op.kind (map (renamed s.values) op.args) k (few_map (renamed s.values) op.kind op.args few))
          (λ x q. fixed_at now old.args 0 x y.1 (sym a.first ∙ q)) (λ x q. fixed_at now old.args 1 x y.1 (sym a.second ∙ q)) (λ x q. fixed_at now old.args 2 x y.1 (sym a.third ∙ q)))

      earlier_keeps : (is_out : Bool) (x : Option ℕ) → is_out ≡ makes_out outs (length s.values) → ((j : ℕ) → x ≡ Some j → Earlier (renamed_op s.values op) (ops_of s.ops) j) → ((j : ℕ) → x ≡ Some j → is_out ≡ true → get_or (flags s.ops) j false ≡ false)
          → Keeps (done ++ op ∷ []) (record { ops = (with_earlier s (renamed_op s.values op) is_out x).ops; values = (with_earlier s (renamed_op s.values op) is_out x).values })
      earlier_keeps is_out (Some i) o f g =
          let z = (f i refl).joins in
          let w = within (ops_of s.ops) i z.other z.at in
          let c = count_same s.ops in
          let same = stays_same is_out s.ops i in
          with_last (with_out is_out s.ops i) (result_of i) (subst (λ l1. length (ops_of s.ops) ≤ length l1) (sym same) (omega arith)) (λ m q. ap (λ l1. get_or (marks narrow l1) m false) same) (λ j e. flag_kept is_out s.ops i j e)
          (subst (λ l1. StandsFor (done ++ op ∷ []) l1 (length s.values) (source.Result (record { 0 = i }))) (sym same) (w, λ e. equal_fixed i z.other z.at z.equal e))
          (λ m e k. subst (λ j. get_or (flags (with_out is_out s.ops i)) j false ≡ true) (result_index i m e) (subst (λ b1. get_or (flags (with_out b1 s.ops i)) i false ≡ true) (sym (o ∙ k)) (flag_set s.ops i (omega (arith, w, c)))))
          (λ m e k. subst (λ j. get_or (flags s.ops) j false ≡ false) (result_index i m e) (g i refl (o ∙ k))) (result_bits op.kind op.bits)
      earlier_keeps is_out None o f g =
          let kept : Kept = record { op = new; makes_out = is_out } in
          let same = ops_append s.ops kept in
          let c = count_same s.ops in
          let l1 = length-append (ops_of s.ops) (new ∷ []) in
          let cm = count_marks narrow (ops_of s.ops) in
          let fc = flags_count s.ops in
          let mark = is_computed op.kind && all_fixed now (map (renamed s.values) op.args) in
          let own : get_or (marks narrow (ops_of s.ops ++ new ∷ [])) (length s.ops) false ≡ mark =
          let q : length s.ops ≡ length (marks narrow (ops_of s.ops)) = omega (arith, c, cm) in ap₂ (λ l2 j. get_or l2 j false) (marks_more narrow (ops_of s.ops) new) q ∙ marks_end (marks narrow (ops_of s.ops)) mark in
          with_last (s.ops ++ kept ∷ []) (result_of (length s.ops)) (subst (λ l2. length (ops_of s.ops) ≤ length l2) (sym same) (omega (arith, l1)))
          (λ m q. ap (λ l2. get_or (marks narrow l2) m false) same ∙ ap (λ l2. get_or l2 m false) (marks_more narrow (ops_of s.ops) new) ∙ marks_left (marks narrow (ops_of s.ops)) (mark ∷ []) m (omega (arith, q, cm)))
          (λ j e. ap (λ l2. get_or l2 j false) (flags_append s.ops kept) ∙ true_left (flags s.ops) (is_out ∷ []) j e)
          (subst (λ l2. StandsFor (done ++ op ∷ []) l2 (length s.values) (source.Result (record { 0 = length s.ops }))) (sym same)
          (omega (arith, c, l1), λ e. let q = both_true (is_computed op.kind) (all_fixed now (map (renamed s.values) op.args)) (sym own ∙ e) in newest q.0 q.1))
          (λ m e k. subst (λ j. get_or (flags (s.ops ++ kept ∷ [])) j false ≡ true) (result_index (length s.ops) m e)
          (ap₂ (λ l2 j. get_or l2 j false) (flags_append s.ops kept) (sym fc) ∙ marks_end (flags s.ops) is_out ∙ o ∙ k))
          (λ m e k. subst (λ j. get_or (flags s.ops) j false ≡ false) (result_index (length s.ops) m e) (beyond (flags s.ops) (length s.ops) (omega (arith, fc)))) (result_bits op.kind op.bits) where
            true_left : (xs ys : List Bool) (j : ℕ) → get_or xs j false ≡ true → get_or (xs ++ ys) j false ≡ true
            true_left [] ys zero e = true_false (sym e)
            true_left [] ys (suc j) e = true_false (sym e)
            true_left (x ∷ xs) ys zero e = e
            true_left (x ∷ xs) ys (suc j) e = true_left xs ys j e

            beyond : (xs : List Bool) (j : ℕ) → length xs ≤ j → get_or xs j false ≡ false
            beyond [] j e = refl
            beyond (x ∷ xs) zero e = absurd (omega (arith, e))
            beyond (x ∷ xs) (suc j) e = beyond xs j (omega (arith, e))

      op_keeps : (scope : Scope) → scope.apart ≡ true → Keeps (done ++ op ∷ []) (numbered_op scope outs s op)
      op_keeps scope a = by (computed (renamed_op s.values op) (first_bits scope.widths s.values op.bits op.args)) refl where
        by : (x : Option ℕ) → computed (renamed_op s.values op) (first_bits scope.widths s.values op.bits op.args) ≡ x → Keeps (done ++ op ∷ []) (with_word scope.apart s (renamed_op s.values op) (makes_out outs (length s.values)) x)
        by (Some w) e = word_keeps w (first_bits scope.widths s.values op.bits op.args) (result_bits op.kind op.bits) e
        by None e =
            earlier_keeps (makes_out outs (length s.values)) (earlier (scope.apart && makes_out outs (length s.values)) (renamed_op s.values op) s.ops) refl
            (λ j q. earlier_found (scope.apart && makes_out outs (length s.values)) (renamed_op s.values op) s.ops j q)
            (λ j q o. apart_flag (renamed_op s.values op) s.ops j (ap₂ (λ c d. earlier (c && d) (renamed_op s.values op) s.ops) (sym a) (sym o) ∙ q))

  all_keep : (scope : Scope) → scope.apart ≡ true → (shapes : Shapes) (words : List ℕ) (stores : Bool) (rest done : List OpTree) (s : Numbered) → Keeps done s → OpsAreTyped shapes.widths words done rest → OpsAreReady shapes words stores done rest
      → Keeps (done ++ rest) (numbered_ops scope outs s rest)
  all_keep scope a shapes words stores [] done s h t k = subst (λ l. Keeps l s) (sym (append-nil done)) h
  all_keep scope a shapes words stores (op ∷ rest) done s h t k =
      subst (λ l. Keeps l (numbered_ops scope outs (numbered_op scope outs s op) rest)) (append_assoc done (op ∷ []) rest)
      (all_keep scope a shapes words stores rest (done ++ op ∷ []) (numbered_op scope outs s op) (op_keeps done s h op t.0.args k.0.few scope a) t.1 k.1)

-- ---- blocks

out_at : (values : List Value) (xs : List Out) (i : ℕ) (y : Out) → slice_get (map (renamed_out values) xs) i ≡ Some y → (x : Out) × (slice_get xs i ≡ Some x) × (renamed_out values x ≡ y)
out_at values [] i y e = none_some e
out_at values (x ∷ xs) zero y e = (x, refl, some_same e)
out_at values (x ∷ xs) (suc i) y e = out_at values xs i y e

makes_at : (xs : List Out) (i : ℕ) (x : Out) (op : OpId) → slice_get xs i ≡ Some x → x.value.value ≡ source.Result op → makes_out xs op.0 ≡ true
makes_at [] i x op e q = none_some e
makes_at (y ∷ xs) zero x op e q =
    ap (λ (c : Bool). c || makes_out xs op.0) (ap (λ (z : Out). is_result op.0 z.value.value) (some_same e) ∙ ap (is_result op.0) q ∙ itself_number op.0)
makes_at (y ∷ xs) (suc i) x op e q = ap (λ c. is_result op.0 y.value.value || c) (makes_at xs i x op e q) ∙ or_true (is_result op.0 y.value.value)

-- the result that a variable's own operand is
pub names_result : (fixed : Fixed) (x : Source) → NamesOwn fixed x → (op : OpId) × (x ≡ source.Result op) × (get_or fixed.ops op.0 false ≡ false)
names_result fixed (source.Constant w) h = absurd h
names_result fixed (source.Variable v) h = absurd h
names_result fixed (source.Result op) h = (op, refl, h)

pub early_out : (shapes : Shapes) (words : List ℕ) (base : List OpTree) (xs : List Out) (i : ℕ) (x : Out) → OutsAreTyped shapes.widths words base xs → slice_get xs i ≡ Some x → IsEarly (length base) x.value.value
early_out shapes words base [] i x h e = none_some e
early_out shapes words base (y ∷ xs) zero x h e = subst (λ (z : Out). IsEarly (length base) z.value.value) (some_same e) (has_early shapes.widths words base h.0.0 y.value.value h.0.2)
early_out shapes words base (y ∷ xs) (suc i) x h e = early_out shapes words base xs i x h.1 e

held_early : (shapes : Shapes) (words : List ℕ) (base : List OpTree) (xs : List Out) (v : VarId) → OutsAreTyped shapes.widths words base xs → IsEarly (length base) (held xs v).value
held_early shapes words base [] v h = tt
held_early shapes words base (x ∷ xs) v h = by (x.variable.0 == v.0) (held_early shapes words base xs v h.1) where
  by : (c : Bool) → IsEarly (length base) (held xs v).value → IsEarly (length base) (if c then x.value else held xs v).value
  by true k = has_early shapes.widths words base h.0.0 x.value.value h.0.2
  by false k = k

held_renamed : (values : List Value) (xs : List Out) (v : VarId) → outs_set xs v ≡ true → held (map (renamed_out values) xs) v ≡ renamed values (held xs v)
held_renamed values [] v e = true_false (sym e)
held_renamed values (x ∷ xs) v e = by (x.variable.0 == v.0) refl (λ k. held_renamed values xs v k) where
  by : (c : Bool) → (x.variable.0 == v.0) ≡ c → (outs_set xs v ≡ true → held (map (renamed_out values) xs) v ≡ renamed values (held xs v)) → (if c then renamed values x.value else held (map (renamed_out values) xs) v) ≡ renamed values (if c then x.value else held xs v)
  by true q k = refl
  by false q k = k (sym (ap (λ c. c || outs_set xs v) q) ∙ e)

result_same : (c d : OpId) → c.0 ≡ d.0 → source.Result c ≡ source.Result d
result_same c d r = λ i. source.Result (record { 0 = r i })

module _ (scope : Scope) (a : scope.apart ≡ true) (shapes : Shapes) (words : List ℕ) (b : BlockTree) (h : BlockIsReady shapes words true b) (wide narrow : VarId → Bool) (into : (v : VarId) → narrow v ≡ true → wide v ≡ true) where
  abbrev s : Numbered
  s = numbered_ops scope b.outs nothing b.ops

  kept : Keeps b.outs wide narrow into b.ops (numbered_ops scope b.outs nothing b.ops)
  kept = all_keep b.outs wide narrow into scope a shapes words true b.ops [] nothing (record { count = refl; stands = λ j v e. none_some e; made = λ j v m e q k. none_some e; apart = λ i k v w m e q n o p r t. none_some e }) h.typed.ops h.ops

  -- what stands for a result
  abbrev Found : Operand → OpId → Type 0
  Found x op = (v : Value) × (slice_get s.values op.0 ≡ Some v) × (renamed s.values x ≡ v.operand)

  found : (i : ℕ) (x : Out) (op : OpId) → slice_get b.outs i ≡ Some x → x.value.value ≡ source.Result op → Found x.value op
  found i x op e q =
      let l : op.0 < length b.ops = subst (IsEarly (length b.ops)) q (early_out shapes words b.ops b.outs i x h.typed.outs e) in
      let c = kept.count in
      let v = there s.values op.0 (omega (arith, l, c)) in
      (v.0, v.1, ap (λ t. standing_for s.values x.value t) q ∙ ap (λ o. operand_or o x.value) v.1)

  own_stands : (j : ℕ) (x : Source) → StandsFor b.outs wide narrow into b.ops (ops_of s.ops) j x → get_or (marks wide b.ops) j false ≡ false → NamesOwn (fixed_in narrow (numbered_block scope b)) x
  own_stands j (source.Constant w) z e = absurd (true_false (sym z ∙ e))
  own_stands j (source.Variable v) z e = absurd z
  own_stands j (source.Result m) z e = not_true (get_or (marks narrow (ops_of s.ops)) m.0 false) (get_or (marks wide b.ops) j false) z.1 e

  pub outs_own : (later : VarId → Bool) → OutsAreOwn later (fixed_in wide b) b.outs → OutsAreOwn later (fixed_in narrow (numbered_block scope b)) (numbered_block scope b).outs
  outs_own later own = record {
    named = λ i y e q.
        let x = out_at s.values b.outs i y e in
        by_named i x.0 x.1 (ap (λ (z : Out). later z.variable) x.2 ∙ q) y x.2;
    apart = λ i k y z e f n p q d.
        let x = out_at s.values b.outs i y e in
        let w = out_at s.values b.outs k z f in
        by_apart i k x.0 w.0 x.1 w.1 (λ r. n (sym (ap (λ (u : Out). u.variable.0) x.2) ∙ r ∙ ap (λ (u : Out). u.variable.0) w.2))
        (ap (λ (u : Out). later u.variable) x.2 ∙ p) (ap (λ (u : Out). later u.variable) w.2 ∙ q)
        (ap (λ (u : Out). u.value.value) x.2 ∙ d ∙ sym (ap (λ (u : Out). u.value.value) w.2));
  } where
    by_named : (i : ℕ) (x : Out) → slice_get b.outs i ≡ Some x → later x.variable ≡ false → (y : Out) → renamed_out s.values x ≡ y → NamesOwn (fixed_in narrow (numbered_block scope b)) y.value.value
    by_named i x e q y r =
        let z = names_result (fixed_in wide b) x.value.value (own.named i x e q) in
        let v = found i x z.0 e z.1 in
        subst (λ (u : Out). NamesOwn (fixed_in narrow (numbered_block scope b)) u.value.value) r
        (subst (λ (u : Operand). NamesOwn (fixed_in narrow (numbered_block scope b)) u.value) (sym v.2) (own_stands z.0.0 v.0.operand.value (kept.stands z.0.0 v.0 v.1) z.2))

    by_apart : (i k : ℕ) (x w : Out) → slice_get b.outs i ≡ Some x → slice_get b.outs k ≡ Some w → x.variable.0 ≢ w.variable.0 → later x.variable ≡ false → later w.variable ≡ false → (renamed s.values x.value).value ≡ (renamed s.values w.value).value → ⊥
    by_apart i k x w e f n p q d =
        let zx = names_result (fixed_in wide b) x.value.value (own.named i x e p) in
        let zw = names_result (fixed_in wide b) w.value.value (own.named k w f q) in
        let vx = found i x zx.0 e zx.1 in
        let vw = found k w zw.0 f zw.1 in
        let rx = names_result (fixed_in narrow (numbered_block scope b)) vx.0.operand.value (own_stands zx.0.0 vx.0.operand.value (kept.stands zx.0.0 vx.0 vx.1) zx.2) in
        let same : vw.0.operand.value ≡ source.Result rx.0 = sym (ap (λ (u : Operand). u.value) vw.2) ∙ sym d ∙ ap (λ (u : Operand). u.value) vx.2 ∙ rx.1 in
        kept.apart zx.0.0 zw.0.0 vx.0 vw.0 rx.0 vx.1 vw.1 (λ r. own.apart i k x w e f n p q (zx.1 ∙ result_same zx.0 zw.0 r ∙ sym zw.1)) (makes_at b.outs i x zx.0 e zx.1) (makes_at b.outs k w zw.0 f zw.1) rx.1 same

  -- what a variable holds that is set is fixed only if it was
  pub held_back : (v : VarId) → outs_set b.outs v ≡ true → is_fixed (fixed_in narrow (numbered_block scope b)) (held (numbered_block scope b).outs v) ≡ true → is_fixed (fixed_in wide b) (held b.outs v) ≡ true
  held_back v e f =
      back b.outs wide narrow into b.ops s kept (held b.outs v) (held_early shapes words b.ops b.outs v h.typed.outs) (sym (ap (is_fixed (fixed_in narrow (numbered_block scope b))) (held_renamed s.values b.outs v e)) ∙ f)
