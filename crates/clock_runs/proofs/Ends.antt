-- Where a block leads, and what the variables are then.
use Rattle.std.proofs.Common.{◌≡◌, ℕ, ◌==◌, ◌∙◌, not, if◌then◌else◌, refl, ap, ap₂, List, [], ◌∷◌, Some, None}
use Rattle.hls_base.specs.declared.number.NodeId.{NodeId}
use Rattle.ir_core.specs.declared.body.Operand.{Operand}
use Rattle.ir_core.specs.declared.body.Out.{Out}
use Rattle.ir_core.specs.declared.cfg.End.{End}
use Rattle.ir_core.specs.declared.cfg.End.TheVariants as end
use Rattle.unit_binding.specs.Copies.{IsEndCopy}
use Rattle.ir_core.specs.Bodies.{Words, operand, with_word, outs}
use Rattle.ir_core.specs.FlatRuns.{to, ends, chosen, going}
use Rattle.clock_ir.specs.Flows.{taken}
use Rattle.clock_ir.specs.ClockRuns.{chosen_by, going_by}
use Rattle.clock_runs.specs.Premises.{Each, IsOperand, IsSoundEnd}

pub end_copied : (read : Operand → ℕ) (e c : End) → IsEndCopy e c → going_by read c ≡ going_by read e
end_copied read (end.Jump next) c h = ap (going_by read) h
end_copied read (end.Branch test left right) c h = ap (going_by read) h
end_copied read (end.Return word) c h = ap (going_by read) h
end_copied read (end.Choose cases other) (end.Choose copies target) h = ap₂ (λ cs n. to (chosen_by read cs n)) h.0 h.1
end_copied read (end.Choose cases other) (end.Jump next) h = absurd h
end_copied read (end.Choose cases other) (end.Branch test left right) h = absurd h
end_copied read (end.Choose cases other) (end.Return word) h = absurd h

-- where the operands are read as they are one after another
module _ (k : ℕ) (read : Operand → ℕ) (t : Words) (results : List ℕ) (same : (x : Operand) → IsOperand [] k x → read x ≡ operand t results x) where
  chosen_same : (cases : List (Operand × NodeId)) (other : NodeId) → Each (λ c. IsOperand [] k c.0) cases → chosen_by read cases other ≡ chosen t results cases other
  chosen_same [] other h = refl
  chosen_same (c ∷ cs) other h = ap₂ (λ w n. if not (w == 0) then c.1.0 else n) (same c.0 h.0) (chosen_same cs other h.1)

  pub going_same : (e : End) → IsSoundEnd k e → going_by read e ≡ going e t results
  going_same (end.Jump next) h = refl
  going_same (end.Branch test left right) h = ap (λ w. to (if not (w == 0) then left.0 else right.0)) (same test h)
  going_same (end.Choose cases other) h = ap to (chosen_same cases.items other h)
  going_same (end.Return None) h = refl
  going_same (end.Return (Some x)) h = ap (λ w. ends (Some w)) (same x h)

  pub taken_same : (xs : List Out) (f : ℕ → ℕ) → Each (λ (x : Out). IsOperand [] k x.value) xs → taken read xs f ≡ outs xs t results f
  taken_same [] f h = refl
  taken_same (x ∷ xs) f h = taken_same xs (with_word f x.variable.0 (read x.value)) h.1 ∙ ap (λ w. outs xs t results (with_word f x.variable.0 w)) (same x.value h.0)
