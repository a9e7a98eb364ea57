-- What is left of the run of a flat program where a machine stands.
use Rattle.std.specs.Prelude.{◌≡◌, ℕ, suc, ◌+◌, ◌≤◌, ◌==◌, List, length, map, slice_get, Option, Some, None, Err, if◌then◌else◌}
use Rattle.hls_base.specs.declared.number.NodeId.{NodeId}
use Rattle.hls_base.specs.declared.place.Place.{Place}
use Rattle.hls_base.specs.declared.point.Point.{Point}
use Rattle.hls_base.specs.declared.refusal.UbRule.{UbRule}
use Rattle.ir_core.specs.declared.cfg.Block.{Block}
use Rattle.ir_core.specs.declared.cfg.Cfg.{Cfg}
use Rattle.ir_core.specs.declared.cfg.Memory.{Memory}
use Rattle.ir_core.specs.declared.cfg.Node.{Node}
use Rattle.ir_core.specs.declared.cfg.Node.TheVariants as node
use Rattle.ir_core.specs.declared.stamp.Untimed.{Untimed}
use Rattle.ir_core.specs.declared.machine.Halt.{Halt}
use Rattle.ir_core.specs.declared.machine.Halt.TheVariants as halt
use Rattle.hls_base.specs.Steps.{Ran, ran, went, undefined, goes, fails, waits, then_}
use Rattle.hls_base.specs.Valued.{valued}
use Rattle.ir_core.specs.Bodies.{Words}
use Rattle.ir_core.specs.FlatRuns.{Going, body_of, shapes_of, block_left, node_run, going_on, from_node}
use Rattle.flat_programs.specs.Memory.Contents.{dims_in}
use Rattle.flat_programs.specs.declared.machine.state.Round.{Round}
use Rattle.flat_programs.specs.declared.machine.state.Round.TheVariants as round
use Rattle.flat_programs.specs.declared.machine.state.State.{State}
use Rattle.flat_programs.specs.Machine.Sizes.{body_in, KeptThere, ParametersThere}
use Rattle.flat_programs.specs.Machine.States.{words_of, FitsBody, VariablesThere, ArraysThere, settled}
use Rattle.flat_programs.specs.Machine.Steps.{behind, left_in}

abbrev pub memory_dims : Cfg Untimed → List (List ℕ)
memory_dims cfg = map (λ (m : Memory). m.dims.items) cfg.frame.memories.items

-- ---- programs whose numbers name what is there

-- each variable that takes a value is one of the program's, and each array one of its memories
pub record IsWhole (cfg : Cfg Untimed) : Type 0 where
  pub outs : (i : ℕ) (it : Node Untimed) → slice_get cfg.nodes.items i ≡ Some it → VariablesThere (body_in it).outs.items (length cfg.frame.variables.items)
  pub arrays : (i : ℕ) (it : Node Untimed) → slice_get cfg.nodes.items i ≡ Some it → ArraysThere (body_in it).ops.items (memory_dims cfg)
  pub kept : KeptThere cfg.frame.kept.items (length cfg.frame.variables.items)
  pub params : ParametersThere cfg.frame.params.items (length cfg.frame.variables.items)

-- the state has the variables and memories of the program, and buffers that are long enough
pub record HasRoom (cfg : Cfg Untimed) (s : State) : Type 0 where
  pub bodies : (i : ℕ) (it : Node Untimed) → slice_get cfg.nodes.items i ≡ Some it → FitsBody s (body_in it)
  pub variables : length s.variables.items ≡ length cfg.frame.variables.items
  pub dims : dims_in s.memories ≡ memory_dims cfg
  pub position : s.position ≤ length s.results.items

-- ---- what is left, entering at most k more nodes and passing at most n points

-- where control goes from here
abbrev pub next_of : Cfg Untimed → ℕ → Going → Words → ℕ → Ran Words (Option ℕ)
next_of cfg k g t n = going_on (λ j t1 n1. from_node k (shapes_of cfg.frame) cfg.nodes.items j t1 n1) g t n

-- in a block, behind its point: the operations that are left, what the block sets, and where control goes
abbrev pub block_rest : Cfg Untimed → ℕ → State → Block Untimed → ℕ → Ran Words (Option ℕ)
block_rest cfg k s block n = then_ (valued (left_in (shapes_of cfg.frame) block.body s) (block_left block.end (body_of block.body)) (words_of s) n) (λ g t1 n1. next_of cfg k g t1 n1)

abbrev pub node_rest : Cfg Untimed → ℕ → State → Option (Node Untimed) → ℕ → Ran Words (Option ℕ)
node_rest cfg k s None n = waits
node_rest cfg k s (Some (node.Plain block)) n = if s.position == 0 then then_ (node_run (shapes_of cfg.frame) (node.Plain block) (words_of s) n) (λ g t1 n1. next_of cfg k g t1 n1) else block_rest cfg k s block n
node_rest cfg k s (Some (node.Looped region)) n = then_ (node_run (shapes_of cfg.frame) (node.Looped region) (words_of s) n) (λ g t1 n1. next_of cfg k g t1 n1)

abbrev pub rest_by : Halt → Cfg Untimed → State → ℕ → ℕ → Ran Words (Option ℕ)
rest_by halt.Running cfg s k n = node_rest cfg k s (slice_get cfg.nodes.items s.node.0) n
rest_by halt.Ended cfg s k n = goes s.returned (words_of s) n
rest_by (halt.Undefined rule at) cfg s k n = fails rule at

-- A block's point is passed as its first operation runs, or as the block is left where it has none.
abbrev pub rest : Cfg Untimed → State → ℕ → ℕ → Ran Words (Option ℕ)
rest cfg s k n = rest_by s.halt cfg s k n

-- the whole run from these contents
abbrev pub beginning : Cfg Untimed → Words → ℕ → ℕ → Ran Words (Option ℕ)
beginning cfg t k n = from_node (suc k) (shapes_of cfg.frame) cfg.nodes.items cfg.first.0 t n

-- One run is another one behind some points and nodes, at most so many of each.
pub record GoesOn (most : ℕ) (before after : ℕ → ℕ → Ran Words (Option ℕ)) : Type 0 where
  pub nodes : ℕ
  pub points : List Point
  pub few_nodes : nodes ≤ most
  pub few_points : length points ≤ most
  pub same : (k n : ℕ) → before (nodes + k) (length points + n) ≡ behind points (after k n)

-- One run is another one behind exactly these points, and at most so many nodes.
pub record Passes (passed : List Point) (most : ℕ) (before after : ℕ → ℕ → Ran Words (Option ℕ)) : Type 0 where
  pub nodes : ℕ
  pub few_nodes : nodes ≤ most
  pub same : (k n : ℕ) → before (nodes + k) (length passed + n) ≡ behind passed (after k n)

-- behind an iteration: undefined, or at the next node, or at the next iteration
abbrev pub moved : NodeId → Round → State → State
moved next (round.Undefined broken) s = settled (Err broken) s
moved next round.Over s = record s { node = next; position = 0 }
moved next (round.Passed done) s = settled done (record s { position = 0 })

-- ---- how a run ends

abbrev pub EndsSo : Ran Words (Option ℕ) → Option ℕ → Words → Type 0
EndsSo r value t = (points : List Point) × (left : ℕ) × (r ≡ ran points (went value t left))

abbrev pub FailsSo : Ran Words (Option ℕ) → UbRule → Place → Type 0
FailsSo r rule at = (points : List Point) × (r ≡ ran points (undefined rule at))
