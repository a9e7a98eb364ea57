-- Numbers of programs with times that are as small as their types.
use Rattle.std.specs.Prelude.{◌≡◌, ℕ, ◌^◌, ◌<◌, List, length, slice_get, Some}
use Rattle.std.specs.List.{All}
use Rattle.ir_core.specs.declared.body.Op.{Op}
use Rattle.ir_core.specs.declared.cfg.Cfg.{Cfg}
use Rattle.ir_core.specs.declared.cfg.Node.{Node}
use Rattle.ir_core.specs.declared.cfg.Node.TheVariants as node
use Rattle.ir_core.specs.declared.timed.Timed.{Timed}

-- lengths, intervals and exits are below 2^32
abbrev pub IsSmallNode : Node Timed → Type 0
IsSmallNode (node.Plain b) = b.length < 2 ^ 32
IsSmallNode (node.Looped r) = (r.ii < 2 ^ 32) × (r.exit < 2 ^ 32)

-- So they are in all nodes, and there are fewer than 2^64 arrays.
pub record HasSmallNumbers (timed : Cfg Timed) : Type 0 where
  pub nodes : (i : ℕ) (n : Node Timed) → slice_get timed.nodes.items i ≡ Some n → IsSmallNode n
  pub few : length timed.frame.memories.items < 2 ^ 64

-- ---- how many parts there are

abbrev pub ops_in : Node Timed → List (Op Timed)
ops_in (node.Plain b) = b.body.ops.items
ops_in (node.Looped r) = r.body.ops.items

-- nodes, variables and arrays can be numbered in 32 bits, and each body has fewer than 2^25 operations
pub record HasFewParts (timed : Cfg Timed) : Type 0 where
  pub nodes : length timed.nodes.items < 2 ^ 32
  pub variables : length timed.frame.variables.items < 2 ^ 32
  pub arrays : length timed.frame.memories.items < 2 ^ 32
  pub operations : All (λ n. length (ops_in n) < 2 ^ 25) timed.nodes.items
