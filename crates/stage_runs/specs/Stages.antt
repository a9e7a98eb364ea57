-- What is told of the stages of a program: the tree of blocks as its pieces are lowered, then numbered, then converted, each laid out and run.
use Rattle.std.specs.Prelude.{◌≡◌, ℕ, ◌<◌, ◌≤◌, ◌+◌, Bool, List, [], ◌∷◌, map, length, get_or, Option, Some, None}
use Rattle.std.specs.List.{flat_map}
use Rattle.hls_base.specs.ArrayAddress.{addresses}
use Rattle.hls_base.specs.declared.inputs.Inputs.{Inputs}
use Rattle.hls_base.specs.declared.place.Place.{Place}
use Rattle.hls_base.specs.declared.point.Point.{Point}
use Rattle.hls_base.specs.declared.point.PointKind.TheVariants as kind
use Rattle.hls_base.specs.declared.refusal.UbRule.{UbRule}
use Rattle.c_meaning.specs.Points.{times}
use Rattle.cycle_report.specs.declared.report.Cost.{Cost}
use Rattle.pieces.specs.Program.{ExpandedTree}
use Rattle.ir_core.specs.declared.cfg.Cfg.{Cfg}
use Rattle.ir_core.specs.declared.cfg.Node.{Node}
use Rattle.ir_core.specs.declared.cfg.Node.TheVariants as node
use Rattle.ir_core.specs.declared.stamp.Untimed.{Untimed}
use Rattle.ir_core.specs.declared.tree.BlockTree.{BlockTree}
use Rattle.ir_core.specs.Bodies.{Words}
use Rattle.ir_core.specs.FirstContents.{first_words}
use Rattle.ir_core.specs.FlatRuns.{flat_run}
use Rattle.ir_core.specs.Trees.{SequenceTree, sequence_of}
use Rattle.passes.specs.Lowering.Shapes.{first_point}
use Rattle.ir_lower.specs.Frames.{frame_view}
use Rattle.ir_layout.specs.Layout.{laid_out}
use Rattle.ir_layout.specs.Nodes.{node_of}
use Rattle.ir_core.specs.declared.machine.Halt.TheVariants as halt
use Rattle.flat_programs.specs.Machine.Rest.{memory_dims, EndsSo, FailsSo}
use Rattle.compile_steps.specs.Flat.{tree_of, numbered_of, converted_of}
use Rattle.compile_steps.specs.Resets.{expanded_frame}
use Rattle.stage_runs.specs.declared.stage.Stage.{Stage}
use Rattle.stage_runs.specs.declared.stage.StageName.{StageName}
use Rattle.stage_runs.specs.declared.stage.StageName.TheVariants as name
use Rattle.stage_runs.specs.Points.{node_points}

-- ---- the programs

-- the tree of blocks of a stage, which begins at this point
abbrev pub stage_tree : StageName → ExpandedTree → Bool → Point → SequenceTree
stage_tree name.Lowered e plain start = tree_of e start
stage_tree name.Numbered e plain start = numbered_of e start
stage_tree name.Converted e plain start = converted_of e plain start

pub record IsTreeOf (e : ExpandedTree) (plain : Bool) (name : StageName) (tree : BlockTree) : Type 0 where
  pub start : Point
  pub starts : first_point e.pieces ≡ Some start
  pub frame : frame_view tree.frame ≡ expanded_frame e
  pub returned : tree.result ≡ e.result
  pub blocks : sequence_of tree.blocks ≡ stage_tree name e plain start

-- the flat program of a stage
pub record IsStageOf (e : ExpandedTree) (plain : Bool) (name : StageName) (cfg : Cfg Untimed) : Type 0 where
  pub start : Point
  pub starts : first_point e.pieces ≡ Some start
  pub frame : frame_view cfg.frame ≡ expanded_frame e
  pub first : cfg.first.0 ≡ 0
  pub nodes : map node_of cfg.nodes.items ≡ laid_out (stage_tree name e plain start) e.result

-- ---- what words hold

-- where the elements of a memory stand, row by row
abbrev pub places : Cfg Untimed → ℕ → List ℕ
places cfg array = addresses (get_or (memory_dims cfg) array [])

-- these are the elements of a memory, as far as it has so many
abbrev pub AreElements : Cfg Untimed → Words → ℕ → List ℕ → Type 0
AreElements cfg t array words = (index : ℕ) → index < length words → index < length (places cfg array) → get_or words index 0 ≡ t.memories array (get_or (places cfg array) index 0)

-- and of all memories, as far as they are told
abbrev pub AreArrays : Cfg Untimed → Words → List (List ℕ) → Type 0
AreArrays cfg t arrays = (array : ℕ) → array < length arrays → AreElements cfg t array (get_or arrays array [])

-- ---- the runs

-- The run ends: its result and its arrays are those that the stage tells.
pub record EndsAs (cfg : Cfg Untimed) (inputs : Inputs) (most : ℕ) (ret : Option ℕ) (arrays : List (List ℕ)) : Type 0 where
  pub value : Option ℕ
  pub last : Words
  pub ends : EndsSo (flat_run cfg (first_words cfg.frame inputs) most) value last
  pub result : 0 < cfg.frame.ret → ret ≡ value
  pub void : cfg.frame.ret ≡ 0 → ret ≡ None
  pub elements : AreArrays cfg last arrays

-- What is told of a stage is what the run of its flat program comes to: how it ends and how often it passes the point of each node, or which rule it breaks, however many more points than steps it may pass.
pub record IsToldOf (cfg : Cfg Untimed) (inputs : Inputs) (stage : Stage) : Type 0 where
  pub ended : stage.halt ≡ halt.Ended → (most : ℕ) → stage.steps ≤ most → EndsAs cfg inputs most stage.ret stage.arrays
  pub passed : stage.halt ≡ halt.Ended → (most : ℕ) → stage.steps ≤ most
      → map (λ p. p.count) stage.points.items ≡ map (times (flat_run cfg (first_words cfg.frame inputs) most).trace) (node_points cfg.nodes.items)
  pub undefined : (rule : UbRule) (place : Place) → stage.halt ≡ halt.Undefined rule place → (most : ℕ) → stage.steps ≤ most → FailsSo (flat_run cfg (first_words cfg.frame inputs) most) rule place

-- ---- the steps that points give

-- A block takes a step for each operation and one to leave it, each time that its point is passed. A loop takes one for each iteration, and one more at its End.
abbrev pub node_costs : Node Untimed → List Cost
node_costs (node.Plain block) = record { point = block.point; cost = length block.body.ops.items + 1 } ∷ []
node_costs (node.Looped region) =
    record { point = region.point; cost = 1 }
    ∷ record { point = record { path = region.point.path; at = region.point.at; kind = kind.End }; cost = 1 } ∷ []

abbrev pub step_costs : List (Node Untimed) → List Cost
step_costs nodes = flat_map node_costs nodes
