-- What plans ask of the nodes of a program follows from its validity, where each node sets a variable by one out.
use Rattle.std.specs.Prelude.{◌≡◌, ℕ, true, List, length, map, slice_get, Some}
use Rattle.pieces.specs.Program.{ArrayTree}
use Rattle.ir_core.specs.declared.cfg.Cfg.{Cfg}
use Rattle.ir_core.specs.declared.cfg.Node.{Node}
use Rattle.ir_core.specs.declared.stamp.Untimed.{Untimed}
use Rattle.ir_layout.specs.Nodes.{node_of}
use Rattle.pass_runs.specs.ConvertRuns.Blocks.{Once}
use Rattle.program_validity.specs.Programs.{body_in, is_valid}
use Rattle.op_chain.specs.Laws.{IsFusedFrom}
use Rattle.datapath.specs.Plans.{array_of}
use Rattle.compiled_plans.specs.Frames.{plan_array}
use Rattle.compiled_plans.specs.Operations.{NodeNamed, NodeDivides}

-- The nodes of a valid program name its variables and arrays.
abbrev pub ValidNodesAreNamed : Type 0
ValidNodesAreNamed = (cfg : Cfg Untimed) (arrays : List ArrayTree) → is_valid cfg ≡ true → map array_of cfg.frame.memories.items ≡ map plan_array arrays
    → (i : ℕ) (n : Node Untimed) → slice_get cfg.nodes.items i ≡ Some n → NodeNamed (length cfg.frame.variables.items) arrays (node_of n)

-- no two outs of a node set one variable
abbrev pub NodesSetOnce : Cfg Untimed → Type 0
NodesSetOnce cfg = (i : ℕ) (n : Node Untimed) → slice_get cfg.nodes.items i ≡ Some n → Once (body_in n).outs.items

-- Then what they divide, and by what, has the width of the division, whatever widths the words of the arrays have.
abbrev pub ValidNodesDivide : Type 0
ValidNodesDivide = (cfg : Cfg Untimed) (words : List ℕ) → is_valid cfg ≡ true → NodesSetOnce cfg → (i : ℕ) (n : Node Untimed) → slice_get cfg.nodes.items i ≡ Some n → NodeDivides cfg.frame.variables.items words (node_of n)

-- This is all that validity lacks.
abbrev pub DividingNodesSetOnce : Type 0
DividingNodesSetOnce = (cfg : Cfg Untimed) (widths words : List ℕ) → ((i : ℕ) (n : Node Untimed) → slice_get cfg.nodes.items i ≡ Some n → NodeDivides widths words (node_of n)) → NodesSetOnce cfg

-- Fusing keeps this.
abbrev pub FusedNodesSetOnce : Type 0
FusedNodesSetOnce = (period : ℕ) (old new : Cfg Untimed) → IsFusedFrom period old new → NodesSetOnce old → NodesSetOnce new
