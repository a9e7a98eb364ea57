-- Fusing keeps validity.
use Rattle.std.specs.Prelude.{◌≡◌, ℕ, true, length, map}
use Rattle.ir_core.specs.declared.cfg.Cfg.{Cfg}
use Rattle.ir_core.specs.declared.stamp.Untimed.{Untimed}
use Rattle.ir_layout.specs.Nodes.{node_of}
use Rattle.program_validity.specs.Programs.{is_valid}
use Rattle.op_chain.specs.Forward.{NodesForward}
use Rattle.op_chain.specs.Laws.{IsFusedFrom}
use Rattle.op_chain.specs.Reaching.{NodesThere}

-- Programs with one frame, one first node and one list of nodes are valid alike.
abbrev pub TreesTellValidity : Type 0
TreesTellValidity = (a b : Cfg Untimed) → a.frame ≡ b.frame → a.first ≡ b.first → map node_of a.nodes.items ≡ map node_of b.nodes.items → is_valid a ≡ is_valid b

abbrev pub FusingKeepsValidity : Type 0
FusingKeepsValidity = (period : ℕ) (old new : Cfg Untimed) → is_valid old ≡ true → IsFusedFrom period old new → is_valid new ≡ true

-- The operands of a valid program name earlier operations.
abbrev pub ValidNodesAreForward : Type 0
ValidNodesAreForward = (cfg : Cfg Untimed) → is_valid cfg ≡ true → NodesForward (map node_of cfg.nodes.items)

-- Its outs set variables of its frame.
abbrev pub ValidNodesAreThere : Type 0
ValidNodesAreThere = (cfg : Cfg Untimed) → is_valid cfg ≡ true → NodesThere (length cfg.frame.variables.items) (map node_of cfg.nodes.items)
