-- A numbered block is ready.
use Rattle.std.specs.Prelude.{slice_get}
use Rattle.std.proofs.Common.{◌≡◌, ◌<◌, ◌⊎◌, inl, inr, ℕ, zero, suc, Bool, true, false, ◌&&◌, refl, ap, sym, subst, arith, List, [], ◌∷◌, ◌++◌, append_assoc, append-nil, map, length, length-append, Option, Some, None, if◌then◌else◌}
use Rattle.ir_core.specs.declared.body.OpKind.{OpKind}
use Rattle.ir_core.specs.declared.body.OpKind.TheVariants as o
use Rattle.ir_core.specs.declared.body.Operand.{Operand}
use Rattle.ir_core.specs.declared.body.Out.{Out}
use Rattle.ir_core.specs.declared.body.Source.{Source}
use Rattle.ir_core.specs.declared.body.Source.TheVariants as source
use Rattle.ir_core.specs.Value.{count_of, value, is_defined}
use Rattle.ir_core.specs.Timing.{result_bits}
use Rattle.ir_core.specs.Bodies.{OpTree, Shapes}
use Rattle.ir_core.specs.Trees.{ExitTree, next, branch, choose, break_, continue_, leave, BlockTree}
use Rattle.passes.specs.Numbering.Constants.{word_in, is_computed, computed_on, computed}
use Rattle.passes.specs.Numbering.{Scope, Value, Kept, Numbered, constant, result_of, operand_or, standing_for, renamed, renamed_op, first_bits, earlier, with_out, with_earlier, with_word, makes_out, numbered_with, numbered_op, numbered_ops, nothing, ops_of, renamed_out, renamed_exit, numbered_block}
use Rattle.passes.proofs.Equalities.{equal_alike}
use Rattle.passes.proofs.NumberRuns.Finding.{Earlier, earlier_found}
use Rattle.pass_runs.specs.ConvertRuns.Typed.{HasBits}
use Rattle.pass_runs.proofs.ConvertRuns.Lists.{there, within, last_or}
use Rattle.pass_runs.proofs.ConvertRuns.Fitting.{is_access, value_fits}
use Rattle.pass_runs.proofs.ConvertRuns.Joining.{has_more, next_has}
use Rattle.pass_runs.proofs.ConvertRuns.ConvertedTrees.Blocks.{block_typed}
use Rattle.sound_trees.specs.Ready.{IsNear, AreNear, OutsAreNear, ExitIsNear, OpIsReady, OpsAreReady, BlockIsReady}
use Rattle.sound_trees.proofs.Adding.{ready_more}
use Rattle.sound_trees.proofs.Names.{SameNames, names_once}
use Rattle.sound_trees.proofs.Fixed.{both_true}
use Rattle.sound_trees.proofs.Renamed.{op_ready_as}

some_same : {A : Type 0} {x y : A} → Some x ≡ Some y → x ≡ y
some_same e = cc

-- ---- operations that stay

pub stays_same : (b : Bool) (ks : List Kept) (i : ℕ) → ops_of (with_out b ks i) ≡ ops_of ks
stays_same b [] i = refl
stays_same b (k ∷ ks) zero = refl
stays_same b (k ∷ ks) (suc i) = ap (λ l. k.op ∷ l) (stays_same b ks i)

pub ops_append : (ks : List Kept) (k : Kept) → ops_of (ks ++ k ∷ []) ≡ ops_of ks ++ k.op ∷ []
ops_append [] k = refl
ops_append (x ∷ ks) k = ap (λ l. x.op ∷ l) (ops_append ks k)

pub count_same : (ks : List Kept) → length (ops_of ks) ≡ length ks
count_same [] = refl
count_same (k ∷ ks) = ap suc (count_same ks)

-- ---- a word that is computed

no_access : (kind : OpKind) → is_computed kind ≡ true → is_access kind ≡ false
no_access o.Load e = absurd cc
no_access o.Store e = absurd cc
no_access kind e = refl

computed_fits : (op : OpTree) (from w : ℕ) → computed op from ≡ Some w → w < count_of (result_bits op.kind op.bits)
computed_fits op from w e = at (word_in (slice_get op.args 0)) (word_in (slice_get op.args 1)) (word_in (slice_get op.args 2)) e where
  at : (x y z : Option ℕ) → computed_on op from x y z ≡ Some w → w < count_of (result_bits op.kind op.bits)
  at (Some x) (Some y) (Some z) h = by (is_computed op.kind && is_defined op.kind op.signed op.bits (x ∷ y ∷ z ∷ [])) refl h where
    by : (b : Bool) → (is_computed op.kind && is_defined op.kind op.signed op.bits (x ∷ y ∷ z ∷ [])) ≡ b → (if b then Some (value op.kind op.signed op.bits from (x ∷ y ∷ z ∷ [])) else None) ≡ Some w → w < count_of (result_bits op.kind op.bits)
    by true q k =
        subst (λ j. j < count_of (result_bits op.kind op.bits)) (some_same k)
        (value_fits op.kind op.signed op.bits from (x ∷ y ∷ z ∷ []) (no_access op.kind (both_true (is_computed op.kind) (is_defined op.kind op.signed op.bits (x ∷ y ∷ z ∷ [])) q).0))
    by false q k = absurd cc
  at None y z h = absurd cc
  at (Some x) None z h = absurd cc
  at (Some x) (Some y) None h = absurd cc

module _ (shapes : Shapes) (words : List ℕ) (stores : Bool) where
  abbrev Has : List OpTree → ℕ → Source → Type 0
  Has = HasBits shapes.widths words

  -- what stands for the operations so far
  record Stands (done ops : List OpTree) (values : List Value) : Type 0 where
    count : length values ≡ length done
    has : (j : ℕ) (op : OpTree) (v : Value) → slice_get done j ≡ Some op → slice_get values j ≡ Some v → Has ops (result_bits op.kind op.bits) v.operand.value
    near : (j : ℕ) (v : Value) → slice_get values j ≡ Some v → IsNear v.operand
    ready : OpsAreReady shapes words stores [] ops

  module _ (done ops : List OpTree) (values : List Value) (h : Stands done ops values) where
    standing_has : (x : Operand) (s : Source) (k : ℕ) → x.value ≡ s → Has done k s → Has ops k (standing_for values x s).value
    standing_has x (source.Constant w) k e z = subst (Has ops k) (sym e) z
    standing_has x (source.Variable w) k e z = subst (Has ops k) (sym e) z
    standing_has x (source.Result i) k e z =
        let l = within done i.0 z.0 z.1 in
        let c = h.count in
        let v = there values i.0 (omega (arith, l, c)) in
        subst (λ c1. Has ops k (operand_or c1 x).value) (sym v.1) (subst (λ j. Has ops j v.0.operand.value) z.2 (h.has i.0 z.0 v.0 z.1 v.1))

    renamed_has : (x : Operand) (k : ℕ) → Has done k x.value → Has ops k (renamed values x).value
    renamed_has x k z = standing_has x x.value k refl z

    standing_near : (x : Operand) (s : Source) → IsNear x → IsNear (standing_for values x s)
    standing_near x (source.Constant w) n = n
    standing_near x (source.Variable w) n = n
    standing_near x (source.Result i) n = by (slice_get values i.0) refl where
      by : (v : Option Value) → slice_get values i.0 ≡ v → IsNear (operand_or v x)
      by None e = n
      by (Some v) e = h.near i.0 v e

    renamed_near : (x : Operand) → IsNear x → IsNear (renamed values x)
    renamed_near x n = standing_near x x.value n

    op_renamed : (op : OpTree) → OpIsReady shapes words stores done op → OpIsReady shapes words stores ops (renamed_op values op)
    op_renamed op z = op_ready_as shapes words stores (renamed values) done ops renamed_near renamed_has op z

    outs_renamed : (xs : List Out) → OutsAreNear xs → OutsAreNear (map (renamed_out values) xs)
    outs_renamed [] n = tt
    outs_renamed (x ∷ xs) n = (renamed_near x.value n.0, outs_renamed xs n.1)

    cases_renamed : (xs : List Operand) → AreNear xs → AreNear (map (renamed values) xs)
    cases_renamed [] n = tt
    cases_renamed (x ∷ xs) n = (renamed_near x n.0, cases_renamed xs n.1)

    exit_renamed : (e : ExitTree) → ExitIsNear e → ExitIsNear (renamed_exit values e)
    exit_renamed next n = tt
    exit_renamed (branch test) n = renamed_near test n
    exit_renamed (choose cases) n = cases_renamed cases n
    exit_renamed break_ n = tt
    exit_renamed continue_ n = tt
    exit_renamed (leave number) n = tt

    -- ---- one operation more

    more_value : (op : OpTree) (x : Operand) (bits : ℕ) → Has ops (result_bits op.kind op.bits) x.value → IsNear x → Stands (done ++ op ∷ []) ops (values ++ record { operand = x; bits = bits } ∷ [])
    more_value op x bits k n = record {
      count = let a = length-append values (v ∷ []) in let b = length-append done (op ∷ []) in let c = h.count in omega (arith, a, b, c);
      has = λ j p y e q. by_has j p y (last_or done op j p e) (last_or values v j y q);
      near = λ j y q. by_near j y (last_or values v j y q);
      ready = h.ready;
    } where
      v : Value
      v = record { operand = x; bits = bits }

      by_near : (j : ℕ) (y : Value) → (slice_get values j ≡ Some y) ⊎ ((j ≡ length values) × (v ≡ y)) → IsNear y.operand
      by_near j y (inl e) = h.near j y e
      by_near j y (inr e) = subst (λ (z : Value). IsNear z.operand) e.1 n

      by_has : (j : ℕ) (p : OpTree) (y : Value) → (slice_get done j ≡ Some p) ⊎ ((j ≡ length done) × (op ≡ p)) → (slice_get values j ≡ Some y) ⊎ ((j ≡ length values) × (v ≡ y)) → Has ops (result_bits p.kind p.bits) y.operand.value
      by_has j p y (inl e) (inl q) = h.has j p y e q
      by_has j p y (inl e) (inr q) = let a = within done j p e in let b = q.0 in let c = h.count in absurd (omega (arith, a, b, c))
      by_has j p y (inr e) (inl q) = let a = within values j y q in let b = e.0 in let c = h.count in absurd (omega (arith, a, b, c))
      by_has j p y (inr e) (inr q) = subst (λ (z : OpTree). Has ops (result_bits z.kind z.bits) y.operand.value) e.1 (subst (λ (z : Value). Has ops (result_bits op.kind op.bits) z.operand.value) q.1 k)

    more_ops : (op : OpTree) → OpIsReady shapes words stores ops op → Stands done (ops ++ op ∷ []) values
    more_ops op k = record {
      count = h.count;
      has = λ j p v e q. has_more shapes.widths words ops (op ∷ []) (result_bits p.kind p.bits) v.operand.value (h.has j p v e q);
      near = h.near;
      ready = ready_more shapes words stores [] ops op h.ready k;
    }

  abbrev IsStanding : List OpTree → Numbered → Type 0
  IsStanding done s = Stands done (ops_of s.ops) s.values

  module _ (scope : Scope) (done : List OpTree) (s : Numbered) (op : OpTree) (h : IsStanding done s) (k : OpIsReady shapes words stores done op) where
    abbrev new : OpTree
    new = renamed_op s.values op

    earlier_stands : (is_out : Bool) (x : Option ℕ) → ((n : ℕ) → x ≡ Some n → Earlier new (ops_of s.ops) n) → IsStanding (done ++ op ∷ []) (with_earlier s new is_out x)
    earlier_stands is_out (Some n) f =
        let z = (f n refl).joins in
        let alike = equal_alike new z.other z.equal in
        subst (λ l. Stands (done ++ op ∷ []) l (with_earlier s new is_out (Some n)).values) (sym (stays_same is_out s.ops n))
        (more_value done (ops_of s.ops) s.values h op (result_of n) (result_bits op.kind op.bits) (z.other, z.at, sym (λ i. result_bits (alike.kind i) (alike.bits i))) refl)
    earlier_stands is_out None f =
        let kept : Kept = record { op = new; makes_out = is_out } in
        let all = more_ops done (ops_of s.ops) s.values h new (op_renamed done (ops_of s.ops) s.values h op k) in
        let e : result_of (length (ops_of s.ops)) ≡ result_of (length s.ops) = ap result_of (count_same s.ops) in
        let has = subst (λ (x : Operand). Has (ops_of s.ops ++ new ∷ []) (result_bits op.kind op.bits) x.value) e (next_has shapes.widths words (ops_of s.ops) new) in
        subst (λ l. Stands (done ++ op ∷ []) l (with_earlier s new is_out None).values) (sym (ops_append s.ops kept))
        (more_value done (ops_of s.ops ++ new ∷ []) s.values all op (result_of (length s.ops)) (result_bits op.kind op.bits) has refl)

    word_stands : (is_out : Bool) (x : Option ℕ) → ((w : ℕ) → x ≡ Some w → w < count_of (result_bits op.kind op.bits)) → IsStanding (done ++ op ∷ []) (with_word scope.apart s new is_out x)
    word_stands is_out (Some w) f = more_value done (ops_of s.ops) s.values h op (constant w) (result_bits op.kind op.bits) (f w refl) refl
    word_stands is_out None f = earlier_stands is_out (earlier (scope.apart && is_out) new s.ops) (λ n e. earlier_found (scope.apart && is_out) new s.ops n e)

    op_stands : (is_out : Bool) → IsStanding (done ++ op ∷ []) (numbered_with scope s op is_out)
    op_stands is_out = word_stands is_out (computed new (first_bits scope.widths s.values op.bits op.args)) (λ w e. computed_fits new (first_bits scope.widths s.values op.bits op.args) w e)

  all_stand : (scope : Scope) (outs : List Out) (rest done : List OpTree) (s : Numbered) → IsStanding done s → OpsAreReady shapes words stores done rest → IsStanding (done ++ rest) (numbered_ops scope outs s rest)
  all_stand scope outs [] done s h k = subst (λ l. IsStanding l s) (sym (append-nil done)) h
  all_stand scope outs (op ∷ rest) done s h k =
      subst (λ l. IsStanding l (numbered_ops scope outs (numbered_op scope outs s op) rest)) (append_assoc done (op ∷ []) rest)
      (all_stand scope outs rest (done ++ op ∷ []) (numbered_op scope outs s op) (op_stands scope done s op h k.0 (makes_out outs (length s.values))) k.1)

  pub renamed_names : (values : List Value) (xs : List Out) → SameNames (map (renamed_out values) xs) xs
  renamed_names values [] = tt
  renamed_names values (x ∷ xs) = (refl, renamed_names values xs)

  pub block_ready : (scope : Scope) (b : BlockTree) → BlockIsReady shapes words stores b → BlockIsReady shapes words stores (numbered_block scope b)
  block_ready scope b h =
      let s = numbered_ops scope b.outs nothing b.ops in
      let z = all_stand scope b.outs b.ops [] nothing (record { count = refl; has = λ j op v e q. absurd cc; near = λ j v e. absurd cc; ready = tt }) h.ops in
      record {
        typed = block_typed shapes.widths words scope b h.typed;
        once = names_once (map (renamed_out s.values) b.outs) b.outs (renamed_names s.values b.outs) h.once;
        ops = z.ready;
        outs = outs_renamed b.ops (ops_of s.ops) s.values z b.outs h.outs;
        exit = exit_renamed b.ops (ops_of s.ops) s.values z b.exit h.exit;
      }
