-- A numbered block has no two operations that do the same.
use Rattle.std.proofs.Common.{◌≡◌, ◌∙◌, ◌⊎◌, inl, inr, ℕ, zero, suc, true, ◌||◌, refl, ap, sym, subst, List, [], ◌∷◌, map, Some}
use Rattle.std.specs.Prelude.{slice_get}
use Rattle.ir_core.specs.declared.body.Operand.{Operand}
use Rattle.ir_core.specs.declared.body.Out.{Out}
use Rattle.ir_core.specs.declared.body.Source.{Source}
use Rattle.ir_core.specs.declared.body.Source.TheVariants as source
use Rattle.ir_core.specs.Bodies.{OpTree}
use Rattle.ir_core.specs.Trees.{BlockTree}
use Rattle.passes.specs.Numbering.{Scope, Value, Kept, Numbered, operand_or, standing_for, renamed, renamed_out, is_result, makes_out, ops_of, nothing, numbered_ops, numbered_block}
use Rattle.passes.proofs.Equalities.{false_true, number_same}
use Rattle.passes.specs.DistinctOperations.{HasNoTwins}
use Rattle.passes.proofs.DistinctOperations.Alike.{Same, same_alike}
use Rattle.passes.proofs.DistinctOperations.Marking.{one_of, or_left, or_right}
use Rattle.passes.proofs.DistinctOperations.Steps.{Makes, Distinct, ops_distinct}

-- ---- the outs of the numbered block

module _ (values : List Value) (m i : ℕ) (v : Value) (at : slice_get values m ≡ Some v) (names : is_result i v.operand.value ≡ true) where
  named : (x : Operand) (s : Source) → is_result m s ≡ true → is_result i (standing_for values x s).value ≡ true
  named x (source.Constant w) t = false_true t
  named x (source.Variable w) t = false_true t
  named x (source.Result op) t = ap (λ n. is_result i (operand_or (slice_get values n) x).value) (number_same op.0 m t) ∙ ap (λ o. is_result i (operand_or o x).value) at ∙ names

  out_made : (outs : List Out) → makes_out outs m ≡ true → makes_out (map (renamed_out values) outs) i ≡ true
  out_made [] t = false_true t
  out_made (x ∷ xs) t = by (out_made xs) (one_of (is_result m x.value.value) (makes_out xs m) t) where
    by : (makes_out xs m ≡ true → makes_out (map (renamed_out values) xs) i ≡ true) → (is_result m x.value.value ≡ true) ⊎ (makes_out xs m ≡ true)
        → (is_result i (renamed values x.value).value || makes_out (map (renamed_out values) xs) i) ≡ true
    by further (inl h) = or_left (is_result i (renamed values x.value).value) (makes_out (map (renamed_out values) xs) i) (named x.value x.value.value h)
    by further (inr h) = or_right (is_result i (renamed values x.value).value) (makes_out (map (renamed_out values) xs) i) (further h)

-- ---- the operations of the numbered block

one_op : (x y : OpTree) → Some x ≡ Some y → x ≡ y
one_op x y e = cc

kept_at : (ks : List Kept) (i : ℕ) (x : OpTree) → slice_get (ops_of ks) i ≡ Some x → (k : Kept) × (slice_get ks i ≡ Some k) × (k.op ≡ x)
kept_at [] i x e = absurd cc
kept_at (k ∷ ks) zero x e = (k, refl, one_op k.op x e)
kept_at (k ∷ ks) (suc i) x e = kept_at ks i x e

module _ (scope : Scope) (b : BlockTree) where
  abbrev whole : Numbered
  whole = numbered_ops scope b.outs nothing b.ops

  abbrev all : List Out
  all = map (renamed_out whole.values) b.outs

  distinct : Distinct scope.apart b.outs whole.ops whole.values
  distinct = ops_distinct scope b.outs nothing b.ops (record { twins = λ i j x y l p q s. absurd cc; marked = λ i x e t. absurd cc })

  makes : (i : ℕ) → Makes scope.apart b.outs whole.values i → makes_out all i ≡ true
  makes i h = out_made whole.values h.number i h.value h.at h.names b.outs h.makes

  pub block_distinct : HasNoTwins scope (numbered_block scope b)
  block_distinct i j x y t = by (kept_at whole.ops i x t.first) (kept_at whole.ops j y t.second) where
    by : (k : Kept) × (slice_get whole.ops i ≡ Some k) × (k.op ≡ x) → (k : Kept) × (slice_get whole.ops j ≡ Some k) × (k.op ≡ y) → (scope.apart ≡ true) × (makes_out all i ≡ true) × (makes_out all j ≡ true)
    by (k, p, e) (l, q, f) =
        let s = subst (λ o. Same o l.op) (sym e) (subst (λ o. Same x o) (sym f) (same_alike x y t.same)) in
        let r = distinct.twins i j k l t.before p q s in
        (r.0, makes i (distinct.marked i k p r.1), makes j (distinct.marked j l q r.2))
