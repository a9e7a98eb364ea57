use Rattle.std.proofs.Common.{◌≤◌, ℕ, Bool, List, length, map, drop}
use Rattle.ir_core.specs.declared.body.Operand.{Operand}
use Rattle.ir_core.specs.Bodies.{op_of}
use Rattle.op_chain.specs.Subscripts.{handed}
use Rattle.op_chain.specs.Views.{ShowsResults, ShowsVariables}
use Rattle.op_chain.proofs.subscripts.hand_ops.Given as goal

abbrev pub invariant-loop-left : goal.invariant-loop-left
invariant-loop-left l = record {
  within : l.left ≤ length l.ops;
  results : (behind : List Operand) → ShowsResults l.initial.results behind → ShowsResults l.results (handed l.left (map op_of (drop l.left l.ops)) behind);
  variables : (behind : List Operand) (before : ℕ → Bool) → ShowsResults l.initial.results behind → ShowsVariables l.initial.variables before behind
      → ShowsVariables l.variables before (handed l.left (map op_of (drop l.left l.ops)) behind);
}

abbrev pub decreases-loop-left : goal.decreases-loop-left
decreases-loop-left l = l.left
