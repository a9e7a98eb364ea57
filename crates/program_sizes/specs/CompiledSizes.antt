-- How large the flat program is that pieces are compiled to.
use Rattle.std.specs.Prelude.{ℕ, ◌≡◌, ◌≤◌, ◌<◌, ◌^◌, length, map, slice_get, Option, Some}
use Rattle.hls_base.specs.declared.number.VarId.{VarId}
use Rattle.hls_base.specs.declared.point.Point.{Point}
use Rattle.pieces.specs.Trees.{PieceTrees}
use Rattle.pieces.specs.Weight.{piece_weights}
use Rattle.ir_core.specs.declared.cfg.Cfg.{Cfg}
use Rattle.ir_core.specs.declared.cfg.Node.{Node}
use Rattle.ir_core.specs.declared.stamp.Untimed.{Untimed}
use Rattle.passes.specs.Lowering.Blocks.{Scope, begun}
use Rattle.passes.specs.Lowering.{last, lowered}
use Rattle.passes.specs.Numbering as numbering
use Rattle.passes.specs.Numbering.{numbered_sequence}
use Rattle.passes.specs.Conversion as conversion
use Rattle.passes.specs.Conversion.{converted_sequence}
use Rattle.ir_layout.specs.Nodes.{node_of}
use Rattle.ir_layout.specs.Layout.{laid_out}
use Rattle.program_validity.specs.Programs.{body_in}
use Rattle.passes.specs.Lands.{land_count}
use Rattle.valid_trees.specs.ValidLayout.{HasNumbers}

-- pieces of a program that weighs no more than it may
pub record AreLight (pieces : PieceTrees) : Type 0 where
  pub weight : piece_weights pieces ≤ 8192
  pub lands : land_count pieces ≤ 8193

-- a flat program of few nodes, none of which has many operations
pub record IsSmallProgram (cfg : Cfg Untimed) : Type 0 where
  pub nodes : length cfg.nodes.items < 2 ^ 16
  pub operations : (i : ℕ) (n : Node Untimed) → slice_get cfg.nodes.items i ≡ Some n → length (body_in n).ops.items < 2 ^ 25

-- The flat program is small that is laid out from light pieces, lowered, numbered and converted, whatever point they begin at.
abbrev pub CompiledProgramsAreSmall : Type 0
CompiledProgramsAreSmall = (scope : Scope) (n : numbering.Scope) (c : conversion.Scope) (pieces : PieceTrees) (point : Point) (returned : Option VarId) (cfg : Cfg Untimed) → AreLight pieces
    → map node_of cfg.nodes.items ≡ laid_out (converted_sequence c (numbered_sequence n (lowered scope pieces last (begun point)))) returned → IsSmallProgram cfg

-- A small program has a number for each node, and for each operation of a node.
abbrev pub SmallProgramsHaveNumbers : Type 0
SmallProgramsHaveNumbers = (cfg : Cfg Untimed) → IsSmallProgram cfg → HasNumbers cfg
