-- In a numbered block operands are there and have their widths.
use Rattle.std.proofs.Common.{◌≡◌, ◌∙◌, ◌<◌, ◌⊎◌, inl, inr, ℕ, zero, suc, ◌+◌, Bool, true, false, not, ◌&&◌, refl, ap, sym, subst, arith, List, [], ◌∷◌, ◌++◌, append_assoc, append-nil, map, length, length-append, Option, Some, None, is_some}
use Rattle.std.specs.Prelude.{slice_get, if◌then◌else◌}
use Rattle.std.specs.Option.{option_map}
use Rattle.ir_core.specs.declared.body.OpKind.{OpKind}
use Rattle.ir_core.specs.declared.body.OpKind.TheVariants as o
use Rattle.ir_core.specs.declared.body.Operand.{Operand}
use Rattle.ir_core.specs.declared.body.Out.{Out}
use Rattle.ir_core.specs.declared.body.Source.{Source}
use Rattle.ir_core.specs.declared.body.Source.TheVariants as source
use Rattle.ir_core.specs.Value.{count_of, value, is_defined}
use Rattle.ir_core.specs.Timing.{result_bits}
use Rattle.ir_core.specs.Bodies.{OpTree}
use Rattle.ir_core.specs.Trees.{ExitTree, next, branch, choose, break_, continue_, leave, BlockTree}
use Rattle.passes.specs.Numbering.Equal.{is_equal}
use Rattle.passes.specs.Numbering.Constants.{word_in, is_computed, computed_on, computed}
use Rattle.passes.specs.Numbering.{Scope, Value, Kept, Numbered, First, constant, result_of, operand_or, standing_for, renamed, renamed_op, first_bits, first_equal, joined, earlier, is_common, with_out, with_earlier, with_word, makes_out, numbered_with, numbered_op, numbered_ops, nothing, ops_of, renamed_out, renamed_exit, numbered_block}
use Rattle.passes.proofs.Equalities.{equal_alike, second}
use Rattle.pass_runs.specs.ConvertRuns.Typed.{IsEarly, AreEarly, HasBits, GuardIsTyped, LastHas, AccessIsTyped, OpIsTyped, OpsAreTyped, OutsAreTyped, ExitIsTyped, BlockIsTyped}
use Rattle.pass_runs.proofs.ConvertRuns.Lists.{there, within, last_or}
use Rattle.pass_runs.proofs.ConvertRuns.Fitting.{is_access, value_fits}
use Rattle.pass_runs.proofs.ConvertRuns.Joining.{has_more, has_early, ops_more, next_has}

some_same : {A : Type 0} {x y : A} → Some x ≡ Some y → x ≡ y
some_same e = cc

-- ---- operations that stay

stays_same : (b : Bool) (ks : List Kept) (i : ℕ) → ops_of (with_out b ks i) ≡ ops_of ks
stays_same b [] i = refl
stays_same b (k ∷ ks) zero = refl
stays_same b (k ∷ ks) (suc i) = ap (λ l. k.op ∷ l) (stays_same b ks i)

ops_append : (ks : List Kept) (k : Kept) → ops_of (ks ++ k ∷ []) ≡ ops_of ks ++ k.op ∷ []
ops_append [] k = refl
ops_append (x ∷ ks) k = ap (λ l. x.op ∷ l) (ops_append ks k)

count_same : (ks : List Kept) → length (ops_of ks) ≡ length ks
count_same [] = refl
count_same (k ∷ ks) = ap suc (count_same ks)

-- an equal operation that was found is there
record IsFound (op : OpTree) (ks : List Kept) (i n : ℕ) : Type 0 where
  at : ℕ
  number : n ≡ i + at
  old : OpTree
  there_ : slice_get (ops_of ks) at ≡ Some old
  equal : is_equal op old ≡ true

equal_found : (op : OpTree) (ks : List Kept) (i : ℕ) (r : First) → first_equal op ks i ≡ Some r → IsFound op ks i r.op
equal_found op [] i r e = absurd cc
equal_found op (k ∷ ks) i r e = by (not (is_some k.op.guard) && is_equal op k.op) refl e (λ q. equal_found op ks (i + 1) r q) where
  by : (b : Bool) → (not (is_some k.op.guard) && is_equal op k.op) ≡ b → (if b then Some (record { op = i; makes_out = k.makes_out }) else first_equal op ks (i + 1)) ≡ Some r
      → (first_equal op ks (i + 1) ≡ Some r → IsFound op ks (i + 1) r.op) → IsFound op (k ∷ ks) i r.op
  by true q h further =
      let s = ap (λ (x : First). x.op) (some_same h) in
      record { at = 0; number = sym s ∙ (let z : i ≡ i + 0 = omega arith in z); old = k.op; there_ = refl; equal = second (not (is_some k.op.guard)) (is_equal op k.op) q }
  by false q h further =
      let f = further h in let n = f.number in let a = f.at in
      record { at = suc a; number = (let z : r.op ≡ i + suc a = omega (arith, n) in z); old = f.old; there_ = f.there_; equal = f.equal }

earlier_found : (is_apart : Bool) (op : OpTree) (ks : List Kept) (n : ℕ) → earlier is_apart op ks ≡ Some n → IsFound op ks 0 n
earlier_found is_apart op ks n e = by (not (is_some op.guard) && is_common op.kind) e where
  by_first : (x : Option First) → first_equal op ks 0 ≡ x → joined is_apart x ≡ Some n → IsFound op ks 0 n
  by_first None q h = absurd cc
  by_first (Some r) q h = by_apart (is_apart && r.makes_out) h where
    by_apart : (b : Bool) → (if b then None else Some r.op) ≡ Some n → IsFound op ks 0 n
    by_apart true z = absurd cc
    by_apart false z = subst (IsFound op ks 0) (some_same z) (equal_found op ks 0 r q)

  by : (b : Bool) → (if b then joined is_apart (first_equal op ks 0) else None) ≡ Some n → IsFound op ks 0 n
  by true h = by_first (first_equal op ks 0) refl h
  by false h = absurd cc

module _ (widths words : List ℕ) where
  -- what is known of the operations so far
  record Sound (done : List OpTree) (ops : List OpTree) (values : List Value) : Type 0 where
    typed : OpsAreTyped widths words [] ops
    count : length values ≡ length done
    has : (j : ℕ) (x : Value) → slice_get values j ≡ Some x → HasBits widths words ops x.bits x.operand.value
    bits : (j : ℕ) (op : OpTree) (x : Value) → slice_get done j ≡ Some op → slice_get values j ≡ Some x → x.bits ≡ result_bits op.kind op.bits

  abbrev IsSound : List OpTree → Numbered → Type 0
  IsSound done s = Sound done (ops_of s.ops) s.values

  -- ---- operands

  module _ (done ops : List OpTree) (values : List Value) (h : Sound done ops values) where
    value_at : (i : ℕ) → i < length done → (x : Value) × (slice_get values i ≡ Some x)
    value_at i l = let c = h.count in there values i (omega (arith, l, c))

    standing_has : (x : Operand) (s : Source) (k : ℕ) → x.value ≡ s → HasBits widths words done k s → HasBits widths words ops k (standing_for values x s).value
    standing_has x (source.Constant w) k e z = subst (HasBits widths words ops k) (sym e) z
    standing_has x (source.Variable w) k e z = subst (HasBits widths words ops k) (sym e) z
    standing_has x (source.Result i) k e z =
        let v = value_at i.0 (within done i.0 z.0 z.1) in
        let b : v.0.bits ≡ k = h.bits i.0 z.0 v.0 z.1 v.1 ∙ z.2 in
        subst (λ c. HasBits widths words ops k (operand_or c x).value) (sym v.1) (subst (λ j. HasBits widths words ops j v.0.operand.value) b (h.has i.0 v.0 v.1))

    renamed_has : (x : Operand) (k : ℕ) → HasBits widths words done k x.value → HasBits widths words ops k (renamed values x).value
    renamed_has x k z = standing_has x x.value k refl z

    standing_early : (x : Operand) (s : Source) → x.value ≡ s → IsEarly (length done) s → IsEarly (length ops) (standing_for values x s).value
    standing_early x (source.Constant w) e z = subst (IsEarly (length ops)) (sym e) tt
    standing_early x (source.Variable w) e z = subst (IsEarly (length ops)) (sym e) tt
    standing_early x (source.Result i) e z =
        let v = value_at i.0 z in
        subst (λ c. IsEarly (length ops) (operand_or c x).value) (sym v.1) (has_early widths words ops v.0.bits v.0.operand.value (h.has i.0 v.0 v.1))

    renamed_early : (xs : List Operand) → AreEarly (length done) xs → AreEarly (length ops) (map (renamed values) xs)
    renamed_early [] z = tt
    renamed_early (x ∷ xs) z = (standing_early x x.value refl z.0, renamed_early xs z.1)

    guard_renamed : (g : Option Operand) → GuardIsTyped widths words done g → GuardIsTyped widths words ops (option_map (renamed values) g)
    guard_renamed None z = tt
    guard_renamed (Some x) z = renamed_has x 1 z

    last_renamed : (k : ℕ) (xs : List Operand) → LastHas widths words done k xs → LastHas widths words ops k (map (renamed values) xs)
    last_renamed k [] z = tt
    last_renamed k (x ∷ []) z = renamed_has x k z
    last_renamed k (x ∷ y ∷ ys) z = last_renamed k (y ∷ ys) z

    access_renamed : (op : OpTree) (kind : OpKind) (a : Option _) → AccessIsTyped widths words done op kind a → AccessIsTyped widths words ops (renamed_op values op) kind a
    access_renamed op o.Store (Some a) z = (z.0, z.1, last_renamed z.0 op.args z.2)
    access_renamed op o.Store None z = tt
    access_renamed op o.Load (Some a) z = z
    access_renamed op o.Load None z = tt
    access_renamed op kind a z = tt

    op_renamed : (op : OpTree) → OpIsTyped widths words done op → OpIsTyped widths words ops (renamed_op values op)
    op_renamed op z = record { args = renamed_early op.args z.args; guard = guard_renamed op.guard z.guard; access = access_renamed op op.kind op.array z.access }

    outs_renamed : (os : List Out) → OutsAreTyped widths words done os → OutsAreTyped widths words ops (map (renamed_out values) os)
    outs_renamed [] z = tt
    outs_renamed (x ∷ os) z = ((z.0.0, z.0.1, renamed_has x.value z.0.0 z.0.2), outs_renamed os z.1)

    exit_renamed : (e : ExitTree) → ExitIsTyped widths words done e → ExitIsTyped widths words ops (renamed_exit values e)
    exit_renamed next z = tt
    exit_renamed (branch test) z = renamed_has test 1 z
    exit_renamed (choose cases) z = renamed_early cases z
    exit_renamed break_ z = tt
    exit_renamed continue_ z = tt
    exit_renamed (leave number) z = tt

    -- ---- one operation more

    more_value : (op : OpTree) (x : Operand) → HasBits widths words ops (result_bits op.kind op.bits) x.value → Sound (done ++ op ∷ []) ops (values ++ record { operand = x; bits = result_bits op.kind op.bits } ∷ [])
    more_value op x k = record {
      typed = h.typed;
      count = let a = length-append values (v ∷ []) in let b = length-append done (op ∷ []) in let c = h.count in omega (arith, a, b, c);
      has = λ j y e. by_has j y (last_or values v j y e);
      bits = λ j p y e q. by_bits j p y (last_or done op j p e) (last_or values v j y q);
    } where
      v : Value
      v = record { operand = x; bits = result_bits op.kind op.bits }

      by_has : (j : ℕ) (y : Value) → (slice_get values j ≡ Some y) ⊎ ((j ≡ length values) × (v ≡ y)) → HasBits widths words ops y.bits y.operand.value
      by_has j y (inl e) = h.has j y e
      by_has j y (inr e) = subst (λ (z : Value). HasBits widths words ops z.bits z.operand.value) e.1 k

      by_bits : (j : ℕ) (p : OpTree) (y : Value) → (slice_get done j ≡ Some p) ⊎ ((j ≡ length done) × (op ≡ p)) → (slice_get values j ≡ Some y) ⊎ ((j ≡ length values) × (v ≡ y)) → y.bits ≡ result_bits p.kind p.bits
      by_bits j p y (inl e) (inl q) = h.bits j p y e q
      by_bits j p y (inl e) (inr q) = let a = within done j p e in let b = q.0 in let c = h.count in absurd (omega (arith, a, b, c))
      by_bits j p y (inr e) (inl q) = let a = within values j y q in let b = e.0 in let c = h.count in absurd (omega (arith, a, b, c))
      by_bits j p y (inr e) (inr q) = sym (ap (λ (z : Value). z.bits) q.1) ∙ ap (λ (z : OpTree). result_bits z.kind z.bits) e.1

    more_ops : (op : OpTree) → OpIsTyped widths words ops op → Sound done (ops ++ op ∷ []) values
    more_ops op k = record {
      typed = ops_more widths words [] ops op h.typed k;
      count = h.count;
      has = λ j x e. has_more widths words ops (op ∷ []) x.bits x.operand.value (h.has j x e);
      bits = h.bits;
    }

  -- a word that is computed
  plain_kind : (kind : OpKind) → is_computed kind ≡ true → is_access kind ≡ false
  plain_kind o.Load e = absurd cc
  plain_kind o.Store e = absurd cc
  plain_kind kind e = refl

  both_first : (x y : Bool) → (x && y) ≡ true → x ≡ true
  both_first true y e = refl
  both_first false y e = e

  computed_fits : (op : OpTree) (from w : ℕ) → computed op from ≡ Some w → w < count_of (result_bits op.kind op.bits)
  computed_fits op from w e = at (word_in (slice_get op.args 0)) (word_in (slice_get op.args 1)) (word_in (slice_get op.args 2)) e where
    at : (x y z : Option ℕ) → computed_on op from x y z ≡ Some w → w < count_of (result_bits op.kind op.bits)
    at (Some x) (Some y) (Some z) h = by (is_computed op.kind && is_defined op.kind op.signed op.bits (x ∷ y ∷ z ∷ [])) refl h where
      by : (b : Bool) → (is_computed op.kind && is_defined op.kind op.signed op.bits (x ∷ y ∷ z ∷ [])) ≡ b → (if b then Some (value op.kind op.signed op.bits from (x ∷ y ∷ z ∷ [])) else None) ≡ Some w → w < count_of (result_bits op.kind op.bits)
      by true q k = subst (λ j. j < count_of (result_bits op.kind op.bits)) (some_same k) (value_fits op.kind op.signed op.bits from (x ∷ y ∷ z ∷ []) (plain_kind op.kind (both_first (is_computed op.kind) (is_defined op.kind op.signed op.bits (x ∷ y ∷ z ∷ [])) q)))
      by false q k = absurd cc
    at None y z h = absurd cc
    at (Some x) None z h = absurd cc
    at (Some x) (Some y) None h = absurd cc

  -- the same operations, with other marks
  same_ops : (done ops others : List OpTree) (values : List Value) → ops ≡ others → Sound done ops values → Sound done others values
  same_ops done ops others values e h = subst (λ l. Sound done l values) e h

  module _ (scope : Scope) (done : List OpTree) (s : Numbered) (op : OpTree) (h : IsSound done s) (k : OpIsTyped widths words done op) where
    abbrev new : OpTree
    new = renamed_op s.values op

    new_typed : OpIsTyped widths words (ops_of s.ops) new
    new_typed = op_renamed done (ops_of s.ops) s.values h op k

    earlier_sound : (is_out : Bool) (x : Option ℕ) → ((n : ℕ) → x ≡ Some n → IsFound new s.ops 0 n) → IsSound (done ++ op ∷ []) (with_earlier s new is_out x)
    earlier_sound is_out (Some n) f =
        let z = f n refl in
        let alike = equal_alike new z.old z.equal in
        let m = z.number in
        let e : n ≡ z.at = omega (arith, m) in
        let at : slice_get (ops_of s.ops) n ≡ Some z.old = ap (slice_get (ops_of s.ops)) e ∙ z.there_ in
        same_ops (done ++ op ∷ []) (ops_of s.ops) (ops_of (with_out is_out s.ops n)) (with_earlier s new is_out (Some n)).values (sym (stays_same is_out s.ops n))
        (more_value done (ops_of s.ops) s.values h op (result_of n) (z.old, at, sym (λ i. result_bits (alike.kind i) (alike.bits i))))
    earlier_sound is_out None f =
        let kept : Kept = record { op = new; makes_out = is_out } in
        let all = more_ops done (ops_of s.ops) s.values h new new_typed in
        let e : result_of (length (ops_of s.ops)) ≡ result_of (length s.ops) = ap result_of (count_same s.ops) in
        let has = subst (λ (x : Operand). HasBits widths words (ops_of s.ops ++ new ∷ []) (result_bits op.kind op.bits) x.value) e (next_has widths words (ops_of s.ops) new) in
        same_ops (done ++ op ∷ []) (ops_of s.ops ++ new ∷ []) (ops_of (s.ops ++ kept ∷ [])) (with_earlier s new is_out None).values (sym (ops_append s.ops kept))
        (more_value done (ops_of s.ops ++ new ∷ []) s.values all op (result_of (length s.ops)) has)

    word_sound : (is_out : Bool) (x : Option ℕ) → ((w : ℕ) → x ≡ Some w → w < count_of (result_bits op.kind op.bits)) → IsSound (done ++ op ∷ []) (with_word scope.apart s new is_out x)
    word_sound is_out (Some w) f = more_value done (ops_of s.ops) s.values h op (constant w) (f w refl)
    word_sound is_out None f = earlier_sound is_out (earlier (scope.apart && is_out) new s.ops) (λ n e. earlier_found (scope.apart && is_out) new s.ops n e)

    op_sound : (is_out : Bool) → IsSound (done ++ op ∷ []) (numbered_with scope s op is_out)
    op_sound is_out = word_sound is_out (computed new (first_bits scope.widths s.values op.bits op.args)) (λ w e. computed_fits new (first_bits scope.widths s.values op.bits op.args) w e)

  all_sound : (scope : Scope) (outs : List Out) (rest done : List OpTree) (s : Numbered) → IsSound done s → OpsAreTyped widths words done rest → IsSound (done ++ rest) (numbered_ops scope outs s rest)
  all_sound scope outs [] done s h k = subst (λ l. IsSound l s) (sym (append-nil done)) h
  all_sound scope outs (op ∷ rest) done s h k =
      subst (λ l. IsSound l (numbered_ops scope outs (numbered_op scope outs s op) rest)) (append_assoc done (op ∷ []) rest)
      (all_sound scope outs rest (done ++ op ∷ []) (numbered_op scope outs s op) (op_sound scope done s op h k.0 (makes_out outs (length s.values))) k.1)

  pub block_typed : (scope : Scope) (b : BlockTree) → BlockIsTyped widths words b → BlockIsTyped widths words (numbered_block scope b)
  block_typed scope b h =
      let s = numbered_ops scope b.outs nothing b.ops in
      let z = all_sound scope b.outs b.ops [] nothing (record { typed = tt; count = refl; has = λ j x e. absurd cc; bits = λ j op x e q. absurd cc }) h.ops in
      record { ops = z.typed; outs = outs_renamed b.ops (ops_of s.ops) s.values z b.outs h.outs; exit = exit_renamed b.ops (ops_of s.ops) s.values z b.exit h.exit }
