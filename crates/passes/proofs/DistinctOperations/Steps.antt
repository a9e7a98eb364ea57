-- The operations that stay are apart, step by step.
use Rattle.std.proofs.Common.{◌≡◌, ◌∙◌, ◌≤◌, ◌<◌, ◌⊎◌, inl, inr, ℕ, zero, suc, Bool, true, ◌&&◌, refl, ap, sym, subst, arith, List, [], ◌∷◌, ◌++◌, length, Option, Some, None}
use Rattle.std.specs.Prelude.{slice_get}
use Rattle.std.proofs.lemmas.Bool.Decides.{Decides-eqb}
use Rattle.std.proofs.lemmas.Option.{slice_get_within}
use Rattle.ir_core.specs.declared.body.Out.{Out}
use Rattle.ir_core.specs.Timing.{result_bits}
use Rattle.ir_core.specs.Bodies.{OpTree}
use Rattle.passes.specs.Numbering.Constants.{computed}
use Rattle.passes.specs.Numbering.{Scope, Value, Kept, Numbered, constant, result_of, renamed_op, first_bits, earlier, is_common, with_out, with_earlier, with_word, is_result, makes_out, numbered_op, numbered_ops}
use Rattle.passes.proofs.Equalities.{first, second, equal_alike, alike_equal, alike_back}
use Rattle.passes.proofs.NumberRuns.Lists.{left_of, seam, last_or}
use Rattle.passes.proofs.DistinctOperations.Alike.{Same, alike_through}
use Rattle.passes.proofs.DistinctOperations.Finding.{Found, first_found, stays_beside}
use Rattle.passes.proofs.DistinctOperations.Marking.{Before, before_marking}

same_or_before : (m n : ℕ) → m ≤ n → (m ≡ n) ⊎ (m < n)
same_or_before zero zero h = inl refl
same_or_before zero (suc n) h = inr (omega arith)
same_or_before (suc m) zero h = absurd (omega (arith, h))
same_or_before (suc m) (suc n) h = by (same_or_before m n (omega (arith, h))) where
  by : (m ≡ n) ⊎ (m < n) → (suc m ≡ suc n) ⊎ (suc m < suc n)
  by (inl e) = inl (ap suc e)
  by (inr l) = inr (omega (arith, l))

one_kept : (x y : Kept) → Some x ≡ Some y → x ≡ y
one_kept x y e = cc

module _ (apart : Bool) (outs : List Out) where
  -- what stands for an operation of the block before that makes an out is the result of the operation of number i
  pub record Makes (values : List Value) (i : ℕ) : Type 0 where
    pub number : ℕ
    pub value : Value
    pub at : slice_get values number ≡ Some value
    pub names : is_result i value.operand.value ≡ true
    pub makes : makes_out outs number ≡ true

  makes_more : (values : List Value) (v : Value) (i : ℕ) → Makes values i → Makes (values ++ v ∷ []) i
  makes_more values v i h = record { number = h.number; value = h.value; at = left_of values (v ∷ []) h.number h.value h.at; names = h.names; makes = h.makes }

  -- the result of this operation stands for the next one
  makes_next : (values : List Value) (bits i : ℕ) → makes_out outs (length values) ≡ true → Makes (values ++ record { operand = result_of i; bits = bits } ∷ []) i
  makes_next values bits i m = record {
    number = length values;
    value = record { operand = result_of i; bits = bits };
    at = seam values [] (record { operand = result_of i; bits = bits });
    names = (Decides-eqb i i).1 refl;
    makes = m;
  }

  -- two operations are to stay apart, as each makes an out
  abbrev Outs : Kept → Kept → Type 0
  Outs x y = (apart ≡ true) × (x.makes_out ≡ true) × (y.makes_out ≡ true)

  -- Where two operations that stay do the same, they are to stay apart; and what is marked to make an out makes one.
  pub record Distinct (ops : List Kept) (values : List Value) : Type 0 where
    pub twins : (i j : ℕ) (x y : Kept) → i < j → slice_get ops i ≡ Some x → slice_get ops j ≡ Some y → Same x.op y.op → Outs x y
    pub marked : (i : ℕ) (x : Kept) → slice_get ops i ≡ Some x → x.makes_out ≡ true → Makes values i

  value_more : (ops : List Kept) (values : List Value) (v : Value) → Distinct ops values → Distinct ops (values ++ v ∷ [])
  value_more ops values v h = record { twins = h.twins; marked = λ i x e t. makes_more values v i (h.marked i x e t) }

  -- ---- an operation becomes one with an earlier one

  marked_more : (ops : List Kept) (values : List Value) (is_out : Bool) (j bits : ℕ) → makes_out outs (length values) ≡ is_out → Distinct ops values
      → Distinct (with_out is_out ops j) (values ++ record { operand = result_of j; bits = bits } ∷ [])
  marked_more ops values is_out j bits m h = record {
    twins = λ i k x y l p q s. two i k x y l s (before_marking is_out ops j i x p) (before_marking is_out ops j k y q);
    marked = λ i x e t. let b = before_marking is_out ops j i x e in mark i x b (b.reason t);
  } where
    two : (i k : ℕ) (x y : Kept) → i < k → Same x.op y.op → Before is_out ops j i x → Before is_out ops j k y → Outs x y
    two i k x y l s b c =
        let r = h.twins i k b.kept c.kept l b.at c.at (subst (λ o. Same o c.kept.op) (sym b.op) (subst (λ o. Same x.op o) (sym c.op) s)) in
        (r.0, b.more r.1, c.more r.2)

    mark : (i : ℕ) (x : Kept) (b : Before is_out ops j i x) → (b.kept.makes_out ≡ true) ⊎ ((j ≡ i) × (is_out ≡ true)) → Makes (values ++ record { operand = result_of j; bits = bits } ∷ []) i
    mark i x b (inl t) = makes_more values (record { operand = result_of j; bits = bits }) i (h.marked i b.kept b.at t)
    mark i x b (inr r) = subst (λ n. Makes (values ++ record { operand = result_of j; bits = bits } ∷ []) n) r.0 (makes_next values bits j (m ∙ r.1))

  -- ---- an operation stays

  module _ (ops : List Kept) (values : List Value) (op : OpTree) (is_out : Bool) (m : makes_out outs (length values) ≡ is_out) (none : earlier (apart && is_out) op ops ≡ None) (h : Distinct ops values) where
    -- with an equal one that stays already
    beside : (i : ℕ) (x : Kept) → slice_get ops i ≡ Some x → Same x.op op → (apart ≡ true) × (x.makes_out ≡ true) × (is_out ≡ true)
    beside i x e s = by (first_found op ops 0 i x e s.first_guard (alike_equal op x.op s.alike)) where
      by : Found op ops 0 i → (apart ≡ true) × (x.makes_out ≡ true) × (is_out ≡ true)
      by f = (first apart is_out r.0, flag (same_or_before f.number i f.early), second apart is_out r.0) where
        r : ((apart && is_out) ≡ true) × (f.found.makes_out ≡ true)
        r = stays_beside op (apart && is_out) ops f.found f.is_first s.second_guard s.common none

        both_same : Same f.kept.op x.op
        both_same = record {
          first_guard = f.guard;
          second_guard = s.first_guard;
          common = ap is_common (sym s.alike.kind) ∙ s.common;
          alike = alike_through x.op op f.kept.op (alike_back op x.op s.alike) (equal_alike op f.kept.op f.equal);
        }

        flag : (f.number ≡ i) ⊎ (f.number < i) → x.makes_out ≡ true
        flag (inl p) = let q = one_kept f.kept x (sym f.at ∙ ap (slice_get ops) p ∙ e) in ap (λ (y : Kept). y.makes_out) (sym q) ∙ f.flag ∙ r.1
        flag (inr l) = (h.twins f.number i f.kept x l f.at e both_same).2

    kept_more : (bits : ℕ) → Distinct (ops ++ record { op = op; makes_out = is_out } ∷ []) (values ++ record { operand = result_of (length ops); bits = bits } ∷ [])
    kept_more bits = record {
      twins = λ i j x y l p q s. two i j x y l s (last_or ops k i x p) (last_or ops k j y q);
      marked = λ i x e t. mark i x t (last_or ops k i x e);
    } where
      k : Kept
      k = record { op = op; makes_out = is_out }

      two : (i j : ℕ) (x y : Kept) → i < j → Same x.op y.op → (slice_get ops i ≡ Some x) ⊎ ((i ≡ length ops) × (k ≡ x)) → (slice_get ops j ≡ Some y) ⊎ ((j ≡ length ops) × (k ≡ y)) → Outs x y
      two i j x y l s (inl p) (inl q) = h.twins i j x y l p q s
      two i j x y l s (inl p) (inr q) = subst (λ z. Outs x z) q.1 (beside i x p (subst (λ (z : Kept). Same x.op z.op) (sym q.1) s))
      two i j x y l s (inr p) (inl q) = let n = slice_get_within ops j y q in let e = p.0 in absurd (omega (arith, l, n, e))
      two i j x y l s (inr p) (inr q) = let n = q.0 in let e = p.0 in absurd (omega (arith, l, n, e))

      mark : (i : ℕ) (x : Kept) → x.makes_out ≡ true → (slice_get ops i ≡ Some x) ⊎ ((i ≡ length ops) × (k ≡ x)) → Makes (values ++ record { operand = result_of (length ops); bits = bits } ∷ []) i
      mark i x t (inl e) = makes_more values (record { operand = result_of (length ops); bits = bits }) i (h.marked i x e t)
      mark i x t (inr e) =
          subst (λ n. Makes (values ++ record { operand = result_of (length ops); bits = bits } ∷ []) n) (sym e.0)
          (makes_next values bits (length ops) (m ∙ ap (λ (z : Kept). z.makes_out) e.1 ∙ t))

  -- ---- one operation more

  module _ (s : Numbered) (op : OpTree) (is_out : Bool) (m : makes_out outs (length s.values) ≡ is_out) (h : Distinct s.ops s.values) where
    earlier_distinct : (d : Option ℕ) → earlier (apart && is_out) op s.ops ≡ d → Distinct (with_earlier s op is_out d).ops (with_earlier s op is_out d).values
    earlier_distinct (Some j) e = marked_more s.ops s.values is_out j (result_bits op.kind op.bits) m h
    earlier_distinct None e = kept_more s.ops s.values op is_out m e h (result_bits op.kind op.bits)

    word_distinct : (c : Option ℕ) → Distinct (with_word apart s op is_out c).ops (with_word apart s op is_out c).values
    word_distinct (Some w) = value_more s.ops s.values (record { operand = constant w; bits = result_bits op.kind op.bits }) h
    word_distinct None = earlier_distinct (earlier (apart && is_out) op s.ops) refl

module _ (scope : Scope) (outs : List Out) where
  abbrev AreDistinct : Numbered → Type 0
  AreDistinct s = Distinct scope.apart outs s.ops s.values

  op_distinct : (s : Numbered) (op : OpTree) → AreDistinct s → AreDistinct (numbered_op scope outs s op)
  op_distinct s op h =
      word_distinct scope.apart outs s (renamed_op s.values op) (makes_out outs (length s.values)) refl h
      (computed (renamed_op s.values op) (first_bits scope.widths s.values op.bits op.args))

  pub ops_distinct : (s : Numbered) (ops : List OpTree) → AreDistinct s → AreDistinct (numbered_ops scope outs s ops)
  ops_distinct s [] h = h
  ops_distinct s (op ∷ ops) h = ops_distinct (numbered_op scope outs s op) ops (op_distinct s op h)
