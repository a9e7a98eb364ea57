-- What the layout keeps of valid trees.
use Rattle.std.specs.Prelude.{◌≡◌, ◌<◌, ◌^◌, ℕ, true, length, map, slice_get, Option, Some, None}
use Rattle.hls_base.specs.declared.number.VarId.{VarId}
use Rattle.ir_core.specs.declared.cfg.Cfg.{Cfg}
use Rattle.ir_core.specs.declared.cfg.Frame.{Frame}
use Rattle.ir_core.specs.declared.cfg.Node.{Node}
use Rattle.ir_core.specs.declared.stamp.Untimed.{Untimed}
use Rattle.ir_core.specs.Trees.{SequenceTree}
use Rattle.ir_layout.specs.Nodes.{node_of}
use Rattle.ir_layout.specs.Layout.{laid_out}
use Rattle.program_validity.specs.Frames.{is_frame}
use Rattle.program_validity.specs.Programs.{body_in, is_consistent}
use Rattle.valid_trees.specs.Shapes.{frame_shape}
use Rattle.valid_trees.specs.Trees.{TreeIsValid}

-- There is a number for each node, and for each operation of a node.
pub record HasNumbers (cfg : Cfg Untimed) : Type 0 where
  pub nodes : length cfg.nodes.items < 2 ^ 32
  pub operations : (i : ℕ) (n : Node Untimed) → slice_get cfg.nodes.items i ≡ Some n → length (body_in n).ops.items < 2 ^ 32

-- The variable that holds the result has the result's width, and there is one exactly where there is a result.
abbrev pub GivesResult : Frame → Option VarId → Type 0
GivesResult f None = f.ret ≡ 0
GivesResult f (Some v) = (0 < f.ret) × (slice_get f.variables.items v.0 ≡ Some f.ret)

-- The flat program that is laid out from a valid tree, beside a valid frame, names what is there, and its widths agree.
abbrev pub LaidOutProgramsAreConsistent : Type 0
LaidOutProgramsAreConsistent = (cfg : Cfg Untimed) (blocks : SequenceTree) (returned : Option VarId) → map node_of cfg.nodes.items ≡ laid_out blocks returned → cfg.first.0 ≡ 0 → HasNumbers cfg
    → is_frame cfg.frame ≡ true → GivesResult cfg.frame returned → TreeIsValid (frame_shape cfg.frame) blocks → is_consistent cfg ≡ true
