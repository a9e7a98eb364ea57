-- Laws of fusing.
use Rattle.std.specs.Prelude.{◌≡◌, ◌⊎◌, ℕ, suc, Bool, true, false, List, ◌++◌, length, map, slice_get, Some}
use Rattle.hls_base.specs.declared.point.Point.{Point}
use Rattle.hls_base.specs.Steps.{Outcome, went, undefined, waiting, Ran, ran}
use Rattle.ir_core.specs.declared.body.OpKind.TheVariants as o
use Rattle.ir_core.specs.declared.body.Pairing.{Pairing}
use Rattle.ir_core.specs.declared.cfg.Cfg.{Cfg}
use Rattle.ir_core.specs.declared.stamp.Untimed.{Untimed}
use Rattle.ir_core.specs.Bodies.{OpTree, Words}
use Rattle.ir_core.specs.FlatRuns.{flat_run}
use Rattle.ir_layout.specs.Nodes.{NodeTree, node_of}
use Rattle.op_chain.specs.Forward.{NodesForward}
use Rattle.op_chain.specs.Subscripts.{reaching, body_in}
use Rattle.op_chain.specs.Pairs.{simple_of, is_fusable}
use Rattle.op_chain.specs.Fusing.{fused_nodes}

abbrev pub Begins : List Point → List Point → Type 0
Begins xs ys = (more : List Point) × (ys ≡ xs ++ more)

abbrev pub IsUndefined : {S A : Type 0} → Outcome S A → Type 0
IsUndefined (went v s n) = ⊥
IsUndefined (undefined rule at) = Unit {0}
IsUndefined waiting = ⊥

-- Two runs, each by the number of points that it may pass. The second run equals the first, unless the first is undefined.
pub record IsKeptBy {S A : Type 0} (first second : ℕ → Ran S A) : Type 0 where
  -- The second run passes at least the points that the first passes.
  pub comes : (n : ℕ) → Begins (first n).trace (second n).trace
  -- If the first run ends, the second ends with the same trace, value and store.
  pub ends : (n left : ℕ) (trace : List Point) (v : A) (s : S) → first n ≡ ran trace (went v s left) → second n ≡ ran trace (went v s left)
  -- If the first run waits, so does the second.
  pub waits : (n : ℕ) → (first n).outcome ≡ waiting → (second n).outcome ≡ waiting
  -- The second run is undefined only if the first is.
  pub faults : (n : ℕ) → IsUndefined (second n).outcome → IsUndefined (first n).outcome

-- The second program is the first one with pairs fused at this period.
pub record IsFusedFrom (period : ℕ) (old new : Cfg Untimed) : Type 0 where
  pub frame : new.frame ≡ old.frame
  pub first : new.first ≡ old.first
  pub nodes : map node_of new.nodes.items ≡ fused_nodes period (length old.frame.variables.items) (map node_of old.nodes.items)

-- From all contents, fusing keeps the run of a program whose operands name earlier operations.
abbrev pub FusingKeepsRuns : Type 0
FusingKeepsRuns = (period : ℕ) (old new : Cfg Untimed) → NodesForward (map node_of old.nodes.items) → IsFusedFrom period old new → (t : Words) → IsKeptBy (flat_run old t) (flat_run new t)

-- ---- pairs

-- No two operations of the fused nodes are a fusable pair.
abbrev pub FusingLeavesNoPair : Type 0
FusingLeavesNoPair = (period variables : ℕ) (nodes : List NodeTree) → NodesForward nodes → (i : ℕ) (node : NodeTree) → slice_get (fused_nodes (suc period) variables nodes) i ≡ Some node
    → (u v : ℕ) → is_fusable (suc period) (reaching variables (fused_nodes (suc period) variables nodes)) node u v ≡ false

-- A fused operation replaces these two operations of the node before fusing.
pub record IsPairOf (period : ℕ) (marks : List Bool) (before : NodeTree) (op : OpTree) (pairing : Pairing) (u v : ℕ) : Type 0 where
  pub one : OpTree
  pub two : OpTree
  pub first : slice_get (body_in before).ops u ≡ Some one
  pub second : slice_get (body_in before).ops v ≡ Some two
  pub fusable : is_fusable period marks before u v ≡ true
  pub first_operator : simple_of one.kind ≡ Some pairing.first
  pub second_operator : simple_of two.kind ≡ Some pairing.second
  pub bits : op.bits ≡ two.bits

-- the node had a fused operation with these operators, or a fusable pair
abbrev pub StandsFor : ℕ → List Bool → NodeTree → OpTree → Pairing → Type 0
StandsFor period marks before op pairing =
    ((v : ℕ) × (two : OpTree) × (slice_get (body_in before).ops v ≡ Some two) × (two.kind ≡ o.Fused pairing)) ⊎ ((u : ℕ) × (v : ℕ) × IsPairOf period marks before op pairing u v)

abbrev pub FusedStandForPairs : Type 0
FusedStandForPairs = (period variables : ℕ) (nodes : List NodeTree) (i : ℕ) (before after : NodeTree) → slice_get nodes i ≡ Some before → slice_get (fused_nodes (suc period) variables nodes) i ≡ Some after
    → (k : ℕ) (op : OpTree) (pairing : Pairing) → slice_get (body_in after).ops k ≡ Some op → op.kind ≡ o.Fused pairing → StandsFor (suc period) (reaching variables nodes) before op pairing
