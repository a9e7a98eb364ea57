-- Where operations are defined, they give what they give without any check.
use Rattle.std.proofs.Common.{◌≡◌, ℕ, ◌<◌, List, Bool, true, false, map, get_or, Option, Some, None, is_some, refl, sym, ap, ap₂, ◌∙◌}
use Rattle.std.proofs.lemmas.Bool.{false≢true}
use Rattle.std.proofs.lemmas.List.{get_or-map}
use Rattle.hls_base.specs.declared.place.Place.{Place}
use Rattle.hls_base.specs.declared.refusal.UbRule.{UbRule}
use Rattle.ir_core.specs.declared.body.Operand.{Operand}
use Rattle.ir_core.specs.declared.body.Source.{Source}
use Rattle.ir_core.specs.declared.body.Source.TheVariants as source
use Rattle.hls_base.specs.Valued.{is, faulty}
use Rattle.ir_core.specs.Bodies.{Words, Performed, performed, Ranged, first_bits, operand, word, fault, fault_if, is_allowed, perform}
use Rattle.clock_ir.specs.Flows.{TimedOp}
use Rattle.clock_runs.proofs.Effects.{sort_of, effect_by, effect_is}
use Rattle.clock_runs.proofs.Settings.{Setting, nothing, op_at, ops_of, count_of, allows, value_at, memories_at, after}

-- what operation k reads, in the iteration that begins with these contents
abbrev pub reading_in : Setting → Words → ℕ → Operand → ℕ
reading_in s t k = operand t (after s t k).results

-- operation k breaks no rule there
abbrev pub Defined : Setting → Words → ℕ → Type 0
Defined s t k =
    let op = (op_at s k).op in
    allows (reading_in s t k) op.guard ≡ true → is_some op.flag ≡ true → fault s.shapes op (map (reading_in s t k) op.args) ≡ None

-- the contents behind the first k operations
abbrev pub inner : Setting → Words → ℕ → Words
inner s t k = record { variables = t.variables; memories = (after s t k).memories }

abbrev pub ranged : Setting → Words → ℕ → Ranged
ranged s t k = record { results = (after s t k).results; words = inner s t k }

word_inner : (s : Setting) (t : Words) (k : ℕ) (results : List ℕ) (x : Source) → word (inner s t k) results x ≡ word t results x
word_inner s t k results (source.Constant c) = refl
word_inner s t k results (source.Variable v) = refl
word_inner s t k results (source.Result j) = refl

pub operand_inner : (s : Setting) (t : Words) (k : ℕ) (results : List ℕ) → operand (inner s t k) results ≡ operand t results
operand_inner s t k results = λ i x. word_inner s t k results x.value i

allowed_is : (t : Words) (results : List ℕ) (guard : Option Operand) → is_allowed t results guard ≡ allows (operand t results) guard
allowed_is t results None = refl
allowed_is t results (Some x) = refl

not_faulty : {rule : UbRule} {at : Place} {p : Performed} → faulty rule at ≡ is p → ⊥
not_faulty e = (cc)

is_same : {p q : Performed} → is p ≡ is q → p ≡ q
is_same e = (cc)

-- what a check that finds nothing says
checked : (allowed : Bool) (flag : Option Place) (rule : Option UbRule) (p q : Performed) → fault_if allowed flag rule p ≡ is q → (p ≡ q) × (allowed ≡ true → is_some flag ≡ true → rule ≡ None)
checked true (Some at) (Some rule) p q e = absurd (not_faulty e)
checked true (Some at) None p q e = (is_same e, λ a b. refl)
checked true None rule p q e = (is_same e, λ a b. absurd (false≢true b))
checked false flag rule p q e = (is_same e, λ a b. absurd (false≢true a))

pub op_of_at : (s : Setting) (k : ℕ) → k < count_of s → get_or (ops_of s) k nothing.op ≡ (op_at s k).op
op_of_at s k lt = get_or-map (λ (p : TimedOp). p.op) s.body.ops k nothing nothing.op lt

module _ (s : Setting) (t : Words) where
  -- one operation
  pub performs : (k : ℕ) (q : Performed) → perform s.shapes (ops_of s) (op_at s k).op (after s t k).results (inner s t k) ≡ is q
      → (q ≡ performed (value_at s k (reading_in s t k) (after s t k).memories) (record { variables = t.variables; memories = memories_at s k (reading_in s t k) (after s t k).memories })) × Defined s t k
  performs k q e =
      let op = (op_at s k).op in
      let results = (after s t k).results in
      let w = inner s t k in
      let same = operand_inner s t k results in
      let from = first_bits s.shapes.widths (ops_of s) op op.args in
      let allowed : is_allowed w results op.guard ≡ allows (reading_in s t k) op.guard = allowed_is w results op.guard ∙ ap (λ r. allows r op.guard) same in
      let found = checked (is_allowed w results op.guard) op.flag (fault s.shapes op (map (operand w results) op.args)) _ q e in (
        sym found.0 ∙ effect_is s.shapes op (is_allowed w results op.guard) from (map (operand w results) op.args) w
            ∙ ap₂ (λ a r. effect_by s.shapes op (sort_of op.kind) a from (map r op.args) w) allowed same,
        (λ a b. ap (λ r. fault s.shapes op (map r op.args)) (sym same) ∙ found.1 (allowed ∙ a) b),
      )
