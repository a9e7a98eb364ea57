-- A numbered block is valid.
use Rattle.std.specs.Prelude.{slice_get}
use Rattle.std.specs.Option.{option_map}
use Rattle.std.proofs.Common.{◌≡◌, ◌∙◌, ◌≤◌, ◌<◌, ◌⊎◌, inl, inr, ℕ, suc, Bool, true, ◌&&◌, refl, ap, sym, subst, arith, List, [], ◌∷◌, ◌++◌, append_assoc, append-nil, map, length, length-append, Option, Some, None}
use Rattle.ir_core.specs.declared.body.Operand.{Operand}
use Rattle.ir_core.specs.declared.body.Out.{Out}
use Rattle.ir_core.specs.declared.body.Source.{Source}
use Rattle.ir_core.specs.declared.body.Source.TheVariants as source
use Rattle.ir_core.specs.Value.{count_of}
use Rattle.ir_core.specs.Timing.{result_bits}
use Rattle.ir_core.specs.Bodies.{OpTree}
use Rattle.ir_core.specs.Trees.{ExitTree, next, branch, choose, break_, continue_, leave, BlockTree}
use Rattle.passes.specs.Numbering.Constants.{computed}
use Rattle.passes.specs.Numbering.{Scope, Value, Kept, Numbered, constant, result_of, operand_or, standing_for, renamed, renamed_op, first_bits, earlier, with_earlier, with_word, makes_out, numbered_with, numbered_op, numbered_ops, nothing, ops_of, renamed_out, renamed_exit, numbered_block}
use Rattle.passes.proofs.Equalities.{equal_alike}
use Rattle.passes.proofs.Growing.{with_out_stays}
use Rattle.passes.proofs.NumberRuns.Finding.{Earlier, earlier_found}
use Rattle.passes.specs.Conversion.Joining.{is_conversion, first_word}
use Rattle.pass_runs.specs.ConvertRuns.Typed.{HasBits}
use Rattle.pass_runs.proofs.ConvertRuns.Lists.{there, within, last_or}
use Rattle.valid_trees.specs.Shapes.{FrameShape, words_in}
use Rattle.valid_trees.specs.Operands.{IsOperand}
use Rattle.valid_trees.specs.Operations.{OpIsValid}
use Rattle.valid_trees.specs.Bodies.{OpsAreValid, OutsAreValid, ExitIsValid, BlockIsValid}
use Rattle.valid_trees.proofs.ValidNumbering.Adding.{ops_more, operand_more, next_operand}
use Rattle.valid_trees.proofs.ValidNumbering.Renamed.{valid_as, guard_renamed, all_renamed, conversion_one, length_map}
use Rattle.valid_trees.proofs.ValidNumbering.Computed.{computed_fits, stays_open}

-- ---- operations that stay

ops_append : (ks : List Kept) (k : Kept) → ops_of (ks ++ k ∷ []) ≡ ops_of ks ++ k.op ∷ []
ops_append [] k = refl
ops_append (x ∷ ks) k = ap (λ l. x.op ∷ l) (ops_append ks k)

count_same : (ks : List Kept) → length (ops_of ks) ≡ length ks
count_same [] = refl
count_same (k ∷ ks) = ap suc (count_same ks)

module _ (frame : FrameShape) where
  abbrev Is : List OpTree → ℕ → Operand → Type 0
  Is = IsOperand frame []

  -- what stands for the operations so far
  record Stands (done ops : List OpTree) (values : List Value) : Type 0 where
    count : length values ≡ length done
    has : (j : ℕ) (op : OpTree) (v : Value) → slice_get done j ≡ Some op → slice_get values j ≡ Some v → Is ops (result_bits op.kind op.bits) v.operand
    valid : OpsAreValid frame [] [] ops

  abbrev Has : List OpTree → ℕ → Source → Type 0
  Has = HasBits frame.widths (words_in frame)

  module _ (done ops : List OpTree) (values : List Value) (h : Stands done ops values) where
    renamed_is : (x : Operand) (n : ℕ) → Is done n x → Is ops n (renamed values x)
    renamed_is x n z = by x.value refl where
      by : (s : Source) → x.value ≡ s → Is ops n (standing_for values x s)
      by (source.Constant w) e = record { has = subst (Has ops n) (sym e) (subst (Has done n) e z.has); distance = z.distance }
      by (source.Variable w) e = record { has = subst (Has ops n) (sym e) (subst (Has done n) e z.has); distance = z.distance }
      by (source.Result i) e =
          let k = subst (Has done n) e z.has in
          let l = within done i.0 k.0 k.1 in
          let c = h.count in
          let v = there values i.0 (omega (arith, l, c)) in
          subst (λ y. Is ops n (operand_or y x)) (sym v.1) (subst (λ m. Is ops m v.0.operand) k.2 (h.has i.0 k.0 v.0 k.1 v.1))

    fixed : (x : Operand) (w : ℕ) → x.value ≡ source.Constant w → (renamed values x).value ≡ source.Constant w
    fixed x w e = ap (λ s. (standing_for values x s).value) e ∙ e

    op_renamed : (op : OpTree) → OpIsValid frame [] done op → (is_conversion op.kind ≡ true → first_word (map (renamed values) op.args) ≡ None) → OpIsValid frame [] ops (renamed_op values op)
    op_renamed op z e = valid_as frame [] [] done ops (renamed values) renamed_is fixed op (option_map (renamed values) op.guard) z (guard_renamed frame [] [] done ops (renamed values) renamed_is fixed 1 op.guard z.guard) e

    outs_renamed : (xs : List Out) → OutsAreValid frame [] done xs → OutsAreValid frame [] ops (map (renamed_out values) xs)
    outs_renamed [] z = tt
    outs_renamed (x ∷ xs) z = (record { bits = z.0.bits; there = z.0.there; value = renamed_is x.value z.0.bits z.0.value }, outs_renamed xs z.1)

    exit_renamed : (e : ExitTree) → ExitIsValid frame done e → ExitIsValid frame ops (renamed_exit values e)
    exit_renamed next z = tt
    exit_renamed (branch test) z = renamed_is test 1 z
    exit_renamed (choose cases) z = all_renamed frame [] [] done ops (renamed values) renamed_is fixed 1 cases z
    exit_renamed break_ z = tt
    exit_renamed continue_ z = tt
    exit_renamed (leave number) z = tt

    -- ---- one operation more

    more_value : (op : OpTree) (x : Operand) (bits : ℕ) → Is ops (result_bits op.kind op.bits) x → Stands (done ++ op ∷ []) ops (values ++ record { operand = x; bits = bits } ∷ [])
    more_value op x bits k = record {
      count = let a = length-append values (v ∷ []) in let b = length-append done (op ∷ []) in let c = h.count in omega (arith, a, b, c);
      has = λ j p y e q. by j p y (last_or done op j p e) (last_or values v j y q);
      valid = h.valid;
    } where
      v : Value
      v = record { operand = x; bits = bits }

      by : (j : ℕ) (p : OpTree) (y : Value) → (slice_get done j ≡ Some p) ⊎ ((j ≡ length done) × (op ≡ p)) → (slice_get values j ≡ Some y) ⊎ ((j ≡ length values) × (v ≡ y)) → Is ops (result_bits p.kind p.bits) y.operand
      by j p y (inl e) (inl q) = h.has j p y e q
      by j p y (inl e) (inr q) = let a = within done j p e in let b = q.0 in let c = h.count in absurd (omega (arith, a, b, c))
      by j p y (inr e) (inl q) = let a = within values j y q in let b = e.0 in let c = h.count in absurd (omega (arith, a, b, c))
      by j p y (inr e) (inr q) = subst (λ (z : OpTree). Is ops (result_bits z.kind z.bits) y.operand) e.1 (subst (λ (z : Value). Is ops (result_bits op.kind op.bits) z.operand) q.1 k)

    more_op : (op : OpTree) → OpIsValid frame [] ops op → Stands done (ops ++ op ∷ []) values
    more_op op k = record {
      count = h.count;
      has = λ j p v e q. operand_more frame [] ops (op ∷ []) (result_bits p.kind p.bits) v.operand (h.has j p v e q);
      valid = ops_more frame [] [] ops op h.valid k;
    }

  abbrev IsStanding : List OpTree → Numbered → Type 0
  IsStanding done s = Stands done (ops_of s.ops) s.values

  module _ (scope : Scope) (done : List OpTree) (s : Numbered) (op : OpTree) (h : IsStanding done s) (k : OpIsValid frame [] done op) where
    abbrev new : OpTree
    new = renamed_op s.values op

    abbrev Open : Type 0
    Open = is_conversion op.kind ≡ true → first_word new.args ≡ None

    earlier_stands : (is_out : Bool) (x : Option ℕ) → Open → ((n : ℕ) → x ≡ Some n → Earlier new (ops_of s.ops) n) → IsStanding (done ++ op ∷ []) (with_earlier s new is_out x)
    earlier_stands is_out (Some n) open_ f =
        let z = (f n refl).joins in
        let alike = equal_alike new z.other z.equal in
        subst (λ l. Stands (done ++ op ∷ []) l (with_earlier s new is_out (Some n)).values) (sym (with_out_stays is_out s.ops n))
        (more_value done (ops_of s.ops) s.values h op (result_of n) (result_bits op.kind op.bits) (record { has = (z.other, z.at, sym (λ i. result_bits (alike.kind i) (alike.bits i))); distance = refl }))
    earlier_stands is_out None open_ f =
        let kept : Kept = record { op = new; makes_out = is_out } in
        let all = more_op done (ops_of s.ops) s.values h new (op_renamed done (ops_of s.ops) s.values h op k open_) in
        let e : result_of (length (ops_of s.ops)) ≡ result_of (length s.ops) = ap result_of (count_same s.ops) in
        let has = subst (Is (ops_of s.ops ++ new ∷ []) (result_bits op.kind op.bits)) e (next_operand frame [] (ops_of s.ops) new) in
        subst (λ l. Stands (done ++ op ∷ []) l (with_earlier s new is_out None).values) (sym (ops_append s.ops kept))
        (more_value done (ops_of s.ops ++ new ∷ []) s.values all op (result_of (length s.ops)) (result_bits op.kind op.bits) has)

    word_stands : (is_out : Bool) (x : Option ℕ) → (x ≡ None → Open) → ((w : ℕ) → x ≡ Some w → w < count_of (result_bits op.kind op.bits)) → IsStanding (done ++ op ∷ []) (with_word scope.apart s new is_out x)
    word_stands is_out (Some w) o f = more_value done (ops_of s.ops) s.values h op (constant w) (result_bits op.kind op.bits) (record { has = f w refl; distance = refl })
    word_stands is_out None o f = earlier_stands is_out (earlier (scope.apart && is_out) new s.ops) (o refl) (λ n e. earlier_found (scope.apart && is_out) new s.ops n e)

    few : is_conversion op.kind ≡ true → length new.args ≤ 1
    few e = let l = length_map (renamed s.values) op.args in let m = conversion_one frame [] done op op.kind k.acts e in omega (arith, l, m)

    op_stands : (is_out : Bool) → IsStanding (done ++ op ∷ []) (numbered_with scope s op is_out)
    op_stands is_out =
        let from = first_bits scope.widths s.values op.bits op.args in
        word_stands is_out (computed new from) (λ e c. stays_open new from few e c) (λ w e. computed_fits new from w e)

  all_stand : (scope : Scope) (outs : List Out) (rest done : List OpTree) (s : Numbered) → IsStanding done s → OpsAreValid frame [] done rest → IsStanding (done ++ rest) (numbered_ops scope outs s rest)
  all_stand scope outs [] done s h k = subst (λ l. IsStanding l s) (sym (append-nil done)) h
  all_stand scope outs (op ∷ rest) done s h k =
      subst (λ l. IsStanding l (numbered_ops scope outs (numbered_op scope outs s op) rest)) (append_assoc done (op ∷ []) rest)
      (all_stand scope outs rest (done ++ op ∷ []) (numbered_op scope outs s op) (op_stands scope done s op h k.0 (makes_out outs (length s.values))) k.1)

  pub block_valid : (scope : Scope) (b : BlockTree) → BlockIsValid frame b → BlockIsValid frame (numbered_block scope b)
  block_valid scope b h =
      let s = numbered_ops scope b.outs nothing b.ops in
      let z = all_stand scope b.outs b.ops [] nothing (record { count = refl; has = λ j op v e q. absurd cc; valid = tt }) h.ops in
      record {
        ops = z.valid;
        outs = outs_renamed b.ops (ops_of s.ops) s.values z b.outs h.outs;
        exit = exit_renamed b.ops (ops_of s.ops) s.values z b.exit h.exit;
      }
