-- A counter grows by its step with each iteration.
use Rattle.std.proofs.Common.{◌≡◌, ℕ, zero, suc, ◌+◌, ◌<◌, ◌∙◌, sym, ap, ap₂, subst, true, get_or, Some, is_some, ℤ, pos, ◌+ℤ◌, arith}
use Rattle.std.specs.Prelude.{slice_get}
use Rattle.std.proofs.lemmas.Int.{ints}
use Rattle.ir_core.specs.declared.body.Body.{Body}
use Rattle.ir_core.specs.declared.stamp.Untimed.{Untimed}
use Rattle.ir_core.specs.Value.{number_of}
use Rattle.dep_graph.specs.Offsets.{maker, added, step_of}
use Rattle.ir_core.specs.Bodies.{OpTree, word, first_bits}
use Rattle.clock_runs.specs.Premises.{HasWidth}
use Rattle.clock_runs.proofs.Settings.{Setting, op_at, ops_of, count_of, allows, after, moment, AreOuts}
use Rattle.clock_runs.proofs.Iterations.{variable_next, taken_over}
use Rattle.clock_runs.proofs.Defined.{Defined}
use Rattle.clock_runs.proofs.Additions.{stands}
use Rattle.clock_runs.proofs.Counters.{addition_parts, steps_of}
use Rattle.clock_runs.proofs.Growing.{grown}
use Rattle.clock_runs.proofs.Sums.{IsCopy, full, unbroken, constants, value_full}
use Rattle.clock_runs.proofs.Subscripts.{HaveGrown}
use Rattle.clock_runs.proofs.Lists.{some_same}

module _ (s : Setting) (body : Body Untimed) (copy : IsCopy s s.carried body) (outs : AreOuts s.carried) (same_outs : s.carried ≡ body.outs.items) where
  grows_once : (i variable bits : ℕ) (step : ℤ) → ((k : ℕ) → k < count_of s → Defined s (moment s i) k) → step_of body variable ≡ Some step → slice_get s.shapes.widths variable ≡ Some bits
      → number_of true bits ((moment s (suc i)).variables variable) ≡ number_of true bits ((moment s i).variables variable) +ℤ step
  grows_once i variable bits step defined e width =
      let t = moment s i in
      let found = steps_of body variable step e in
      let k = found.op.0 in
      let at = copy.ops k found.it found.there in
      let op = (op_at s k).op in
      let parts = addition_parts found.it found.sum found.adds in
      let flagged : is_some op.flag ≡ true = ap (λ (o : OpTree). is_some o.flag) (sym at.1) ∙ parts.0 in
      let adds : added op.kind op.bits op.args ≡ Some found.sum = ap (λ (o : OpTree). added o.kind o.bits o.args) (sym at.1) ∙ parts.1 in
      let guarded : allows (full s t) op.guard ≡ true = ap (λ (o : OpTree). allows (full s t) o.guard) (sym at.1) ∙ ap (allows (full s t)) found.unguarded in
      let none = unbroken s s.carried body copy t k at.0 (defined k at.0) guarded flagged in
      let gives = stands s.shapes (ops_of s) op (full s t) (constants s s.carried body copy t) (allows (full s t) op.guard) (first_bits s.shapes.widths (ops_of s) op op.args) (after s t k).memories flagged (copy.sound k at.0).kind found.sum adds none in
      let widths : slice_get s.shapes.widths variable ≡ Some op.bits = ap (slice_get s.shapes.widths) (sym found.same) ∙ subst (λ x. HasWidth s.shapes (ops_of s) op.bits x) found.source gives.1 in
      let one : op.bits ≡ bits = some_same (sym widths ∙ width) in
      let next : (moment s (suc i)).variables variable ≡ get_or (after s t (count_of s)).results k 0 =
      variable_next s outs i variable ∙ ap (λ o. taken_over o (t.variables variable) (after s t (count_of s)).results) (ap (λ xs. maker xs variable) same_outs ∙ found.made) in
      let value = next ∙ value_full s s.carried body copy t k at.0 in
      let old : full s t found.sum.operand ≡ t.variables variable = ap (word t (after s t (count_of s)).results) found.source ∙ ap t.variables found.same in
      subst (λ b. number_of true b ((moment s (suc i)).variables variable) ≡ number_of true b (t.variables variable) +ℤ step) one
      (ap (number_of true op.bits) value ∙ gives.0 ∙ ap₂ (λ w c. number_of true op.bits w +ℤ c) old found.constant)

  -- in d iterations
  pub grows : (i d : ℕ) → ((j k : ℕ) → j < i + d → k < count_of s → Defined s (moment s j) k) → HaveGrown s body (moment s i) (moment s (i + d)) d
  grows i zero defined variable bits step e width =
      let number = number_of true bits ((moment s i).variables variable) in
      let still : number ≡ number +ℤ pos 0 = omega (arith, ints) in
      ap (λ j. number_of true bits ((moment s j).variables variable)) (let z : i + 0 ≡ i = omega arith in z) ∙ still
  grows i (suc d) defined variable bits step e width =
      let next : i + suc d ≡ suc (i + d) = omega arith in
      let before = grows i d (λ j k lt in_. defined j k (omega arith) in_) variable bits step e width in
      let once = grows_once (i + d) variable bits step (λ k lt. defined (i + d) k (omega arith) lt) e width in
      let number = number_of true bits ((moment s i).variables variable) in
      let up : number_of true bits ((moment s (suc (i + d))).variables variable) ≡ number +ℤ (grown step d +ℤ step) = omega (arith, ints, before, once) in
      ap (λ j. number_of true bits ((moment s j).variables variable)) next ∙ up
