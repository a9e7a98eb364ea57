-- Operations are added to valid ones.
use Rattle.std.proofs.Common.{ℕ, refl, length, sym, subst, List, [], ◌∷◌, ◌++◌, append-nil, append_assoc}
use Rattle.ir_core.specs.declared.body.Operand.{Operand}
use Rattle.ir_core.specs.declared.body.Out.{Out}
use Rattle.ir_core.specs.Timing.{result_bits}
use Rattle.ir_core.specs.Bodies.{OpTree}
use Rattle.passes.specs.Numbering.{result_of}
use Rattle.pass_runs.proofs.ConvertRuns.Lists.{seam}
use Rattle.pass_runs.proofs.ConvertRuns.Joining.{has_more}
use Rattle.valid_trees.specs.Shapes.{FrameShape, words_in}
use Rattle.valid_trees.specs.Operands.{IsOperand}
use Rattle.valid_trees.specs.Operations.{OpIsValid}
use Rattle.valid_trees.specs.Bodies.{OpsAreValid, OutsAreValid}

module _ (frame : FrameShape) (carried : List Out) where
  pub ops_more : (before xs : List OpTree) (op : OpTree) → OpsAreValid frame carried before xs → OpIsValid frame carried (before ++ xs) op → OpsAreValid frame carried before (xs ++ op ∷ [])
  ops_more before [] op h k = (subst (λ l. OpIsValid frame carried l op) (append-nil before) k, tt)
  ops_more before (x ∷ xs) op h k = (h.0, ops_more (before ++ x ∷ []) xs op h.1 (subst (λ l. OpIsValid frame carried l op) (sym (append_assoc before (x ∷ []) xs)) k))

  pub operand_more : (ops more : List OpTree) (n : ℕ) (x : Operand) → IsOperand frame carried ops n x → IsOperand frame carried (ops ++ more) n x
  operand_more ops more n x h = record { has = has_more frame.widths (words_in frame) ops more n x.value h.has; distance = h.distance }

  -- the result of the operation that comes next
  pub next_operand : (ops : List OpTree) (op : OpTree) → IsOperand frame carried (ops ++ op ∷ []) (result_bits op.kind op.bits) (result_of (length ops))
  next_operand ops op = record { has = (op, seam ops [] op, refl); distance = refl }

  pub outs_more : (ops more : List OpTree) (xs : List Out) → OutsAreValid frame carried ops xs → OutsAreValid frame carried (ops ++ more) xs
  outs_more ops more [] h = tt
  outs_more ops more (x ∷ xs) h = (record { bits = h.0.bits; there = h.0.there; value = operand_more ops more h.0.bits x.value h.0.value }, outs_more ops more xs h.1)
