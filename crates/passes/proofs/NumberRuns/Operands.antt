-- What operands hold as results are added, and as equal operands.
use Rattle.std.proofs.Common.{◌≡◌, ◌∙◌, ◌<◌, ℕ, refl, ap, ap₂, sym, subst, arith, List, [], ◌∷◌, ◌++◌, map, length, Option, Some, None, not}
use Rattle.std.specs.Prelude.{slice_get, get_or, ◌==◌}
use Rattle.std.specs.Option.{option_map}
use Rattle.std.proofs.lemmas.List.{get_or_append_left}
use Rattle.ir_core.specs.declared.body.Operand.{Operand}
use Rattle.ir_core.specs.declared.body.Source.{Source}
use Rattle.ir_core.specs.declared.body.Source.TheVariants as source
use Rattle.ir_core.specs.Timing.{result_bits}
use Rattle.ir_core.specs.Bodies.{OpTree, Words, word, operand, is_allowed, bits_in, operand_bits, first_bits}
use Rattle.passes.specs.Numbering as n
use Rattle.passes.specs.Numbering.{Value, standing_for, renamed, renamed_op, source_bits}
use Rattle.passes.specs.Numbering.Constants.{word_of}
use Rattle.passes.specs.NumberRuns.Ordered.{IsEarly, AreEarly, IsEarlyIfThere}
use Rattle.passes.proofs.NumberRuns.Lists.{there}

-- ---- more results, and other words with the same variables

pub word_more : (t : Words) (results more : List ℕ) (s : Source) → IsEarly (length results) s → word t (results ++ more) s ≡ word t results s
word_more t results more (source.Constant w) h = refl
word_more t results more (source.Variable v) h = refl
word_more t results more (source.Result op) h = get_or_append_left results more 0 op.0 h

pub words_more : (t : Words) (results more : List ℕ) (xs : List Operand) → AreEarly (length results) xs → map (operand t (results ++ more)) xs ≡ map (operand t results) xs
words_more t results more [] h = refl
words_more t results more (x ∷ xs) h = ap₂ (λ w ws. w ∷ ws) (word_more t results more x.value h.0) (words_more t results more xs h.1)

word_apart : (t u : Words) (results : List ℕ) (s : Source) → t.variables ≡ u.variables → word t results s ≡ word u results s
word_apart t u results (source.Constant w) e = refl
word_apart t u results (source.Variable v) e = ap (λ (f : ℕ → ℕ). f v.0) e
word_apart t u results (source.Result op) e = refl

pub words_apart : (t u : Words) (results : List ℕ) (xs : List Operand) → t.variables ≡ u.variables → map (operand t results) xs ≡ map (operand u results) xs
words_apart t u results [] e = refl
words_apart t u results (x ∷ xs) e = ap₂ (λ w ws. w ∷ ws) (word_apart t u results x.value e) (words_apart t u results xs e)

pub early_more : (m k : ℕ) → m < k → (xs : List Operand) → AreEarly m xs → AreEarly k xs
early_more m k le [] h = tt
early_more m k le (x ∷ xs) h = (at x.value h.0, early_more m k le xs h.1) where
  at : (s : Source) → IsEarly m s → IsEarly k s
  at (source.Constant w) e = tt
  at (source.Variable v) e = tt
  at (source.Result op) e = omega (arith, e, le)

-- ---- what stands for results

-- what stands for an operation of so many bits is a constant, or one of these operations with as many
abbrev pub Names : List OpTree → ℕ → Source → Type 0
Names kept bits (source.Constant w) = Unit {0}
Names kept bits (source.Variable v) = ⊥
Names kept bits (source.Result op) = (k : OpTree) × (slice_get kept op.0 ≡ Some k) × (result_bits k.kind k.bits ≡ bits)

-- a value stands for the operation of this number
pub record Stands (ops kept : List OpTree) (results others : List ℕ) (j : ℕ) (v : Value) : Type 0 where
  pub same : (t : Words) → get_or results j 0 ≡ operand t others v.operand
  pub bits : (d : ℕ) → bits_in (slice_get ops j) d ≡ v.bits
  pub names : Names kept v.bits v.operand.value

abbrev pub AllStand : List OpTree → List OpTree → List ℕ → List ℕ → List Value → Type 0
AllStand ops kept results others values = (j : ℕ) (v : Value) → slice_get values j ≡ Some v → Stands ops kept results others j v

module _ (ops kept : List OpTree) (results others : List ℕ) (values : List Value) (all : AllStand ops kept results others values) where
  standing_same : (t : Words) (x : Operand) (s : Source) → x.value ≡ s → IsEarly (length values) s → word t results s ≡ operand t others (standing_for values x s)
  standing_same t x (source.Constant w) e h = ap (word t others) (sym e)
  standing_same t x (source.Variable v) e h = ap (word t others) (sym e)
  standing_same t x (source.Result op) e h =
      let v = there values op.0 h in
      (all op.0 v.0 v.1).same t ∙ ap (λ c. operand t others (n.operand_or c x)) (sym v.1)

  pub renamed_same : (t : Words) (x : Operand) → IsEarly (length values) x.value → operand t results x ≡ operand t others (renamed values x)
  renamed_same t x h = standing_same t x x.value refl h

  pub args_same : (t : Words) (xs : List Operand) → AreEarly (length values) xs → map (operand t results) xs ≡ map (operand t others) (map (renamed values) xs)
  args_same t [] h = refl
  args_same t (x ∷ xs) h = ap₂ (λ w ws. w ∷ ws) (renamed_same t x h.0) (args_same t xs h.1)

  pub allowed_same : (t : Words) (guard : Option Operand) → IsEarlyIfThere (length values) guard → is_allowed t results guard ≡ is_allowed t others (option_map (renamed values) guard)
  allowed_same t None h = refl
  allowed_same t (Some x) h = ap (λ w. not (w == 0)) (renamed_same t x h)

  -- ---- the new operands name what is there

  module _ (counted : (j : ℕ) (k : OpTree) → slice_get kept j ≡ Some k → j < length others) where
    named_early : (bits : ℕ) (s : Source) → Names kept bits s → IsEarly (length others) s
    named_early bits (source.Constant w) h = tt
    named_early bits (source.Variable v) h = tt
    named_early bits (source.Result op) h = counted op.0 h.0 h.1

    standing_early : (x : Operand) (s : Source) → x.value ≡ s → IsEarly (length values) s → IsEarly (length others) (standing_for values x s).value
    standing_early x (source.Constant w) e h = subst (λ s. IsEarly (length others) s) (sym e) tt
    standing_early x (source.Variable v) e h = subst (λ s. IsEarly (length others) s) (sym e) tt
    standing_early x (source.Result op) e h =
        let v = there values op.0 h in
        subst (λ c. IsEarly (length others) (n.operand_or c x).value) (sym v.1) (named_early v.0.bits v.0.operand.value (all op.0 v.0 v.1).names)

    pub renamed_early : (xs : List Operand) → AreEarly (length values) xs → AreEarly (length others) (map (renamed values) xs)
    renamed_early [] h = tt
    renamed_early (x ∷ xs) h = (standing_early x x.value refl h.0, renamed_early xs h.1)

  -- ---- widths

  source_bits_same : (widths : List ℕ) (d : ℕ) (s : Source) → IsEarly (length values) s → operand_bits widths ops d s ≡ source_bits widths values d s
  source_bits_same widths d (source.Constant w) h = refl
  source_bits_same widths d (source.Variable v) h = refl
  source_bits_same widths d (source.Result op) h =
      let v = there values op.0 h in (all op.0 v.0 v.1).bits d ∙ ap (λ c. n.bits_or c d) (sym v.1)

  pub first_bits_same : (widths : List ℕ) (op : OpTree) (xs : List Operand) → AreEarly (length values) xs → first_bits widths ops op xs ≡ n.first_bits widths values op.bits xs
  first_bits_same widths op [] h = refl
  first_bits_same widths op (x ∷ xs) h = source_bits_same widths op.bits x.value h.0

  module _ (new : List OpTree) (begins : (j : ℕ) (k : OpTree) → slice_get kept j ≡ Some k → slice_get new j ≡ Some k) where
    named_bits : (widths : List ℕ) (d bits : ℕ) (s : Source) → Names kept bits s → word_of s ≡ None → operand_bits widths new d s ≡ bits
    named_bits widths d bits (source.Constant w) h e = absurd cc
    named_bits widths d bits (source.Variable v) h e = absurd h
    named_bits widths d bits (source.Result op) h e = ap (λ c. bits_in c d) (begins op.0 h.0 h.1) ∙ h.2

    standing_bits : (widths : List ℕ) (d : ℕ) (x : Operand) (s : Source) → x.value ≡ s → IsEarly (length values) s → word_of (standing_for values x s).value ≡ None
        → source_bits widths values d s ≡ operand_bits widths new d (standing_for values x s).value
    standing_bits widths d x (source.Constant w) e h not_one = ap (operand_bits widths new d) (sym e)
    standing_bits widths d x (source.Variable v) e h not_one = ap (operand_bits widths new d) (sym e)
    standing_bits widths d x (source.Result op) e h not_one =
        let v = there values op.0 h in
        let f = λ (c : Option Value). (n.operand_or c x).value in
        ap (λ c. n.bits_or c d) v.1
        ∙ sym (named_bits widths d v.0.bits v.0.operand.value (all op.0 v.0 v.1).names (ap (λ c. word_of (f c)) (sym v.1) ∙ not_one))
        ∙ ap (λ c. operand_bits widths new d (f c)) (sym v.1)

    -- where what stands for it is no constant
    pub renamed_bits : (widths : List ℕ) (d : ℕ) (x : Operand) → IsEarly (length values) x.value → word_of (renamed values x).value ≡ None
        → source_bits widths values d x.value ≡ operand_bits widths new d (renamed values x).value
    renamed_bits widths d x h not_one = standing_bits widths d x x.value refl h not_one
