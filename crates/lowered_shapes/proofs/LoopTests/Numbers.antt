-- What becomes of one operation more, as the operations of a block that sets nothing are numbered.
use Rattle.std.proofs.Common.{◌≡◌, ◌∙◌, ◌⊎◌, inl, inr, ◌<◌, ◌≤◌, ℕ, zero, suc, true, false, ◌&&◌, refl, ap, sym, subst, arith, List, [], ◌∷◌, ◌++◌, length, length-append, Option, Some, None}
use Rattle.std.specs.Prelude.{slice_get}
use Rattle.std.specs.Option.{option_map}
use Rattle.std.proofs.lemmas.Option.{slice_get-map}
use Rattle.ir_core.specs.declared.body.Operand.{Operand}
use Rattle.ir_core.specs.declared.body.Source.{Source}
use Rattle.ir_core.specs.declared.body.Source.TheVariants as source
use Rattle.ir_core.specs.Timing.{result_bits}
use Rattle.ir_core.specs.Bodies.{OpTree, Words}
use Rattle.passes.specs.Numbering.Constants.{word_of, word_in, computed, computed_on}
use Rattle.passes.specs.Numbering as n
use Rattle.passes.specs.Numbering.{Scope, Value, Kept, Numbered, nothing, constant, result_of, renamed, renamed_op, operand_or, standing_for, ops_of, is_common, earlier, with_out, with_value, with_earlier, with_word, numbered_op, numbered_ops}
use Rattle.passes.proofs.Equalities.{Alike, equal_alike}
use Rattle.passes.proofs.Growing.{with_out_stays, numbered_more, counts}
use Rattle.passes.specs.NumberRuns.Ordered.{IsEarly}
use Rattle.passes.proofs.NumberRuns.Lists.{there, left_of, seam, length_map, map_more}
use Rattle.passes.proofs.NumberRuns.Meanings.{computes}
use Rattle.passes.proofs.NumberRuns.Finding.{earlier_found}

-- ---- operations that are computed

abbrev pub IsConstant : Source → Type 0
IsConstant (source.Constant w) = Unit {0}
IsConstant s = ⊥

abbrev IsThere : Option ℕ → Type 0
IsThere None = ⊥
IsThere (Some w) = Unit {0}

all_there : (op : OpTree) (from w : ℕ) (x y z : Option ℕ) → computed_on op from x y z ≡ Some w → IsThere x × IsThere y × IsThere z
all_there op from w (Some x) (Some y) (Some z) e = (tt, tt, tt)
all_there op from w None y z e = absurd cc
all_there op from w (Some x) None z e = absurd cc
all_there op from w (Some x) (Some y) None e = absurd cc

word_there : (s : Source) → IsThere (word_of s) → IsConstant s
word_there (source.Constant w) h = tt
word_there (source.Variable v) h = h
word_there (source.Result op) h = h

argument_there : (xs : List Operand) (i : ℕ) (x : Operand) → slice_get xs i ≡ Some x → IsThere (word_in (slice_get xs i)) → IsConstant x.value
argument_there xs i x e h = word_there x.value (subst (λ z. IsThere (word_in z)) e h)

-- It is computed from constants alone.
from_constants : (op : OpTree) (from w : ℕ) → computed op from ≡ Some w → (i : ℕ) (x : Operand) → i < 3 → slice_get op.args i ≡ Some x → IsConstant x.value
from_constants op from w e i x less at = by i less at where
  each : IsThere (word_in (slice_get op.args 0)) × IsThere (word_in (slice_get op.args 1)) × IsThere (word_in (slice_get op.args 2))
  each = all_there op from w (word_in (slice_get op.args 0)) (word_in (slice_get op.args 1)) (word_in (slice_get op.args 2)) e

  by : (j : ℕ) → j < 3 → slice_get op.args j ≡ Some x → IsConstant x.value
  by zero l h = argument_there op.args 0 x h each.0
  by (suc zero) l h = argument_there op.args 1 x h each.1
  by (suc (suc zero)) l h = argument_there op.args 2 x h each.2
  by (suc (suc (suc j))) l h = absurd (omega (arith, l))

no_words : Words
no_words = record { variables = λ i. 0; memories = λ m i. 0 }

computed_common : (op : OpTree) (from w : ℕ) → computed op from ≡ Some w → is_common op.kind ≡ true
computed_common op from w e = (computes op from w no_words [] e).common

module _ (scope : Scope) where
  -- ---- operations, and what stands for their results

  abbrev pub state : List OpTree → Numbered
  state ops = numbered_ops scope [] nothing ops

  -- the operations that stay
  abbrev pub kept : List OpTree → List OpTree
  kept ops = ops_of (state ops).ops

  -- what stands for an operand behind these operations
  abbrev pub value_of : List OpTree → Operand → Operand
  value_of ops x = renamed (state ops).values x

  pub counted : (ops : List OpTree) → length (state ops).values ≡ length ops
  counted ops = let e = counts scope [] nothing ops in omega (arith, e)

  pub argument_at : (ops : List OpTree) (op : OpTree) (i : ℕ) (x : Operand) → slice_get op.args i ≡ Some x → slice_get (renamed_op (state ops).values op).args i ≡ Some (value_of ops x)
  argument_at ops op i x e = slice_get-map (renamed (state ops).values) op.args i ∙ ap (option_map (renamed (state ops).values)) e

  -- ---- what becomes of an operation

  module _ (ops : List OpTree) (op : OpTree) where
    abbrev pub with_one : List OpTree
    with_one = ops ++ op ∷ []

    -- the operation with what stands for its operands
    abbrev pub after : OpTree
    after = renamed_op (state ops).values op

    -- what stands for its result
    abbrev pub new_value : Operand
    new_value = value_of with_one (result_of (length ops))

    -- It becomes a constant.
    pub record IsComputed : Type 0 where
      pub same : kept with_one ≡ kept ops
      pub is_constant : IsConstant new_value.value
      pub arguments : (i : ℕ) (x : Operand) → i < 3 → slice_get op.args i ≡ Some x → IsConstant (value_of ops x).value
      pub common : is_common op.kind ≡ true

    -- It becomes one with an earlier operation.
    pub record IsJoined : Type 0 where
      pub same : kept with_one ≡ kept ops
      pub number : ℕ
      pub other : OpTree
      pub at : slice_get (kept ops) number ≡ Some other
      pub gives : new_value ≡ result_of number
      pub alike : Alike after other
      pub common : is_common op.kind ≡ true

    pub record Stays : Type 0 where
      pub more : kept with_one ≡ kept ops ++ after ∷ []
      pub gives : new_value ≡ result_of (length (kept ops))

    -- what was there stays as it is, and one value more is there
    pub record Adds : Type 0 where
      pub value : Value
      pub values : (state with_one).values ≡ (state ops).values ++ value ∷ []
      pub gives : new_value ≡ value.operand
      pub becomes : IsComputed ⊎ (IsJoined ⊎ Stays)

    abbrev value_for : Operand → Value
    value_for x = record { operand = x; bits = result_bits op.kind op.bits }

    behind : (s : Numbered) (v : Value) → state with_one ≡ s → s.values ≡ (state ops).values ++ v ∷ [] → new_value ≡ v.operand
    behind s v e h =
        ap (λ (r : Numbered). operand_or (slice_get r.values (length ops)) (result_of (length ops))) e
        ∙ ap (λ l. operand_or (slice_get l (length ops)) (result_of (length ops))) h
        ∙ ap (λ i. operand_or (slice_get ((state ops).values ++ v ∷ []) i) (result_of (length ops))) (sym (counted ops))
        ∙ ap (λ c. operand_or c (result_of (length ops))) (seam (state ops).values [] v)

    adds_by : (x : Operand) (kept_ : List Kept) → state with_one ≡ with_value (state ops) kept_ after x → IsComputed ⊎ (IsJoined ⊎ Stays) → Adds
    adds_by x kept_ e h = record { value = value_for x; values = ap (λ (r : Numbered). r.values) e; gives = behind (with_value (state ops) kept_ after x) (value_for x) e refl; becomes = h }

    by_earlier : (d : Option ℕ) → earlier (scope.apart && false) after (state ops).ops ≡ d → state with_one ≡ with_earlier (state ops) after false d → Adds
    by_earlier (Some j) found e =
        let f = earlier_found (scope.apart && false) after (state ops).ops j found in
        let kept_ = with_out false (state ops).ops j in
        adds_by (result_of j) kept_ e (inr (inl (record {
          same = ap (λ (r : Numbered). ops_of r.ops) e ∙ with_out_stays false (state ops).ops j;
          number = j;
          other = f.joins.other;
          at = f.joins.at;
          gives = behind (with_value (state ops) kept_ after (result_of j)) (value_for (result_of j)) e refl;
          alike = equal_alike after f.joins.other f.joins.equal;
          common = f.common;
        })))
    by_earlier None found e =
        let x = result_of (length (state ops).ops) in
        let kept_ = (state ops).ops ++ record { op = after; makes_out = false } ∷ [] in
        adds_by x kept_ e (inr (inr (record {
          more = ap (λ (r : Numbered). ops_of r.ops) e ∙ map_more (λ (k : Kept). k.op) (state ops).ops (record { op = after; makes_out = false });
          gives = behind (with_value (state ops) kept_ after x) (value_for x) e refl ∙ ap result_of (sym (length_map (λ (k : Kept). k.op) (state ops).ops));
        })))

    by_word : (from : ℕ) (c : Option ℕ) → computed after from ≡ c → state with_one ≡ with_word scope.apart (state ops) after false c → Adds
    by_word from (Some w) found e =
        adds_by (constant w) (state ops).ops e (inl (record {
          same = ap (λ (r : Numbered). ops_of r.ops) e;
          is_constant = subst (λ (x : Operand). IsConstant x.value) (sym (behind (with_value (state ops) (state ops).ops after (constant w)) (value_for (constant w)) e refl)) tt;
          arguments = λ i x less at. from_constants after from w found i (value_of ops x) less (argument_at ops op i x at);
          common = computed_common after from w found;
        }))
    by_word from None found e = by_earlier (earlier (scope.apart && false) after (state ops).ops) refl e

    pub adds : Adds
    adds =
        let from = n.first_bits scope.widths (state ops).values op.bits op.args in
        by_word from (computed after from) refl (numbered_more scope [] nothing ops op)

  -- ---- as operations are added

  -- What stands for the results of operations stays the same behind more operations.
  pub record Grows (ops more : List OpTree) : Type 0 where
    pub count : length ops ≤ length more
    pub values : (i : ℕ) (v : Value) → slice_get (state ops).values i ≡ Some v → slice_get (state more).values i ≡ Some v

  pub grows_none : (ops : List OpTree) → Grows ops ops
  grows_none ops = record { count = omega arith; values = λ i v e. e }

  pub grows_on : (ops more most : List OpTree) → Grows ops more → Grows more most → Grows ops most
  grows_on ops more most h g =
      let c1 = h.count in
      let c2 = g.count in
      record { count = omega (arith, c1, c2); values = λ i v e. g.values i v (h.values i v e) }

  pub grows_one : (ops : List OpTree) (op : OpTree) → Grows ops (ops ++ op ∷ [])
  grows_one ops op =
      let a = adds ops op in
      record { count = let c = length-append ops (op ∷ []) in omega (arith, c); values = λ i v e. ap (λ l. slice_get l i) a.values ∙ left_of (state ops).values (a.value ∷ []) i v e }

  -- what stands for an operand that is there stays the same
  pub value_stays : (ops more : List OpTree) → Grows ops more → (x : Operand) → IsEarly (length ops) x.value → value_of more x ≡ value_of ops x
  value_stays ops more g x h = at x.value h where
    at : (s : Source) → IsEarly (length ops) s → standing_for (state more).values x s ≡ standing_for (state ops).values x s
    at (source.Constant w) e = refl
    at (source.Variable v) e = refl
    at (source.Result op) e =
        let c = counted ops in
        let v = there (state ops).values op.0 (omega (arith, e, c)) in
        ap (λ z. operand_or z x) (g.values op.0 v.0 v.1) ∙ ap (λ z. operand_or z x) (sym v.1)
