-- Operations and outs one behind another.
use Rattle.std.proofs.Common.{ℕ, List, [], ◌∷◌, ◌++◌}
use Rattle.ir_core.specs.Bodies.{OpTree}
use Rattle.flat_programs.specs.Machine.Held.{IsThere}
use Rattle.flat_programs.specs.There.{OperationsThere}

module _ (variables : ℕ) (dims : List (List ℕ)) where
  pub ops_more : (ops : List OpTree) (op : OpTree) → OperationsThere variables dims ops → IsThere op.array dims → OperationsThere variables dims (ops ++ op ∷ [])
  ops_more [] op h k = (k, tt)
  ops_more (x ∷ ops) op h k = (h.0, ops_more ops op h.1 k)
