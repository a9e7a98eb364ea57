-- What the analysis of counters finds of a body's operations.
use Rattle.std.proofs.Common.{◌≡◌, ℕ, ◌∙◌, inl, inr, sym, refl, ap, Bool, true, false, not, ◌&&◌, Option, Some, None, is_some, ℤ, pos, ◌+ℤ◌, if◌then◌else◌}
use Rattle.std.specs.Ordering.{int_eq}
use Rattle.std.proofs.lemmas.Bool.{cases_Bool, cond-true, cond-false, and_parts, eqb-true, false≢true}
use Rattle.hls_base.specs.declared.number.OpId.{OpId}
use Rattle.hls_base.specs.declared.number.VarId.{VarId}
use Rattle.ir_core.specs.declared.body.Body.{Body}
use Rattle.ir_core.specs.declared.body.Op.{Op}
use Rattle.ir_core.specs.declared.body.Operand.{Operand}
use Rattle.ir_core.specs.declared.body.Source.{Source}
use Rattle.ir_core.specs.declared.body.Source.TheVariants as source
use Rattle.ir_core.specs.declared.stamp.Untimed.{Untimed}
use Rattle.dep_graph.specs.declared.counter.Addition.{Addition}
use Rattle.dep_graph.specs.declared.counter.Offset.{Offset}
use Rattle.dep_graph.specs.declared.counter.Sum.{Sum}
use Rattle.dep_graph.specs.Offsets.{nth, maker, added, addition, is_variable, counted, step_at, step_from, step_of, guards_agree, or_else, flat, is_covered, plus_constant, covered}
use Rattle.clock_runs.proofs.Lists.{some_same, no_some}

-- ---- additions

pub addition_parts : (u : Op Untimed) (a : Addition) → addition u ≡ Some a → (is_some u.flag ≡ true) × (added u.kind u.bits u.args.items ≡ Some a)
addition_parts u a e = elim (cases_Bool (is_some u.flag)) [
  | inl on ↦ (on, sym (cond-true _ _ _ on) ∙ e)
  | inr off ↦ absurd (no_some (sym (cond-false _ _ _ off) ∙ e))
]

-- an operation that adds the step to the variable, in each iteration
pub record Steps (body : Body Untimed) (variable : ℕ) (step : ℤ) : Type 0 where
  pub op : OpId
  pub made : maker body.outs.items variable ≡ Some op
  pub it : Op Untimed
  pub there : nth body.ops.items op.0 ≡ Some it
  pub unguarded : it.guard ≡ None
  pub sum : Addition
  pub adds : addition it ≡ Some sum
  pub other : VarId
  pub source : sum.operand.value ≡ source.Variable other
  pub same : other.0 ≡ variable
  pub constant : sum.constant ≡ step
  pub moves : int_eq step (pos 0) ≡ false

variable_is : (x : Source) (v : ℕ) → is_variable x v ≡ true → (other : VarId) × ((x ≡ source.Variable other) × (other.0 ≡ v))
variable_is (source.Constant w) v e = absurd (false≢true e)
variable_is (source.Variable other) v e = (other, (refl, eqb-true other.0 v e))
variable_is (source.Result j) v e = absurd (false≢true e)

not_of : (b : Bool) → not b ≡ true → b ≡ false
not_of true e = absurd (false≢true e)
not_of false e = refl

abbrev Counted : Option Addition → ℕ → ℤ → Type 0
Counted p v step = (a : Addition) × ((p ≡ Some a) × (is_variable a.operand.value v ≡ true) × (a.constant ≡ step) × (int_eq step (pos 0) ≡ false))

counted_is : (p : Option Addition) (v : ℕ) (step : ℤ) → counted p v ≡ Some step → Counted p v step
counted_is None v step e = absurd (no_some e)
counted_is (Some a) v step e = elim (cases_Bool (is_variable a.operand.value v && not (int_eq a.constant (pos 0)))) [
  | inl on ↦
      let parts = and_parts (is_variable a.operand.value v) (not (int_eq a.constant (pos 0))) on in
      let same : a.constant ≡ step = some_same (sym (cond-true _ _ _ on) ∙ e) in
      (a, (refl, parts.0, same, ap (λ z. int_eq z (pos 0)) (sym same) ∙ not_of (int_eq a.constant (pos 0)) parts.1))
  | inr off ↦ absurd (no_some (sym (cond-false _ _ _ off) ∙ e))
]

step_by_is : (guard : Option Operand) (p : Option Addition) (v : ℕ) (step : ℤ) → (if is_some guard then None else counted p v) ≡ Some step → (guard ≡ None) × Counted p v step
step_by_is None p v step e = (refl, counted_is p v step e)
step_by_is (Some g) p v step e = absurd (no_some e)

pub steps_of : (body : Body Untimed) (variable : ℕ) (step : ℤ) → step_of body variable ≡ Some step → Steps body variable step
steps_of body variable step e = at_maker (maker body.outs.items variable) refl e
  where
    at_op : (op : OpId) (u : Option (Op Untimed)) → maker body.outs.items variable ≡ Some op → nth body.ops.items op.0 ≡ u → step_at u variable ≡ Some step → Steps body variable step
    at_op op None m n e = absurd (no_some e)
    at_op op (Some u) m n e =
        let h = step_by_is u.guard (addition u) variable step e in
        let c = h.1 in
        let x = variable_is c.0.operand.value variable c.1.1 in
        record {
          op = op;
          made = m;
          it = u;
          there = n;
          unguarded = h.0;
          sum = c.0;
          adds = c.1.0;
          other = x.0;
          source = x.1.0;
          same = x.1.1;
          constant = c.1.2;
          moves = c.1.3;
        }

    at_maker : (o : Option OpId) → maker body.outs.items variable ≡ o → step_from body.ops.items o variable ≡ Some step → Steps body variable step
    at_maker None m e = absurd (no_some e)
    at_maker (Some op) m e = at_op op (nth body.ops.items op.0) m refl e

-- ---- sums

pub flat_is : {A : Type 0} (p : Option (Option A)) (x : A) → flat p ≡ Some x → p ≡ Some (Some x)
flat_is None x e = absurd (no_some e)
flat_is (Some y) x e = ap (λ z. Some z) e

-- a sum and a constant
abbrev pub more_by : Sum → ℤ → Option Operand → Sum
more_by sum c guard = record {
  offset = record { counter = sum.offset.counter; step = sum.offset.step; constant = sum.offset.constant +ℤ c };
  guard = or_else sum.guard guard;
}

pub plus_is : (p : Option Sum) (c : ℤ) (guard : Option Operand) (sum : Sum) → plus_constant p c guard ≡ Some sum
    → (before : Sum) × ((p ≡ Some before) × (guards_agree before.guard guard ≡ true) × (more_by before c guard ≡ sum))
plus_is None c guard sum e = absurd (no_some e)
plus_is (Some before) c guard sum e = elim (cases_Bool (guards_agree before.guard guard)) [
  | inl on ↦ (before, (refl, on, some_same (sym (cond-true _ _ _ on) ∙ e)))
  | inr off ↦ absurd (no_some (sym (cond-false _ _ _ off) ∙ e))
]

pub covered_is : (p : Option Sum) (guard : Option Operand) (offset : Offset) → covered p guard ≡ Some offset
    → (sum : Sum) × ((p ≡ Some sum) × (is_covered sum.guard guard ≡ true) × (sum.offset ≡ offset))
covered_is None guard offset e = absurd (no_some e)
covered_is (Some sum) guard offset e = elim (cases_Bool (is_covered sum.guard guard)) [
  | inl on ↦ (sum, (refl, on, some_same (sym (cond-true _ _ _ on) ∙ e)))
  | inr off ↦ absurd (no_some (sym (cond-false _ _ _ off) ∙ e))
]
