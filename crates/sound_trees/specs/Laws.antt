-- The nodes of a program are sound.
use Rattle.std.specs.Prelude.{◌≡◌, Bool, List, map, Option}
use Rattle.hls_base.specs.declared.number.VarId.{VarId}
use Rattle.hls_base.specs.declared.point.Point.{Point}
use Rattle.ir_core.specs.declared.cfg.Node.{Node}
use Rattle.ir_core.specs.declared.stamp.Untimed.{Untimed}
use Rattle.pieces.specs.Trees.{PieceTrees}
use Rattle.ir_core.specs.Bodies.{Shapes}
use Rattle.ir_core.specs.Trees.{SequenceTree}
use Rattle.passes.specs.Lowering.Blocks.{Scope, begun}
use Rattle.passes.specs.Lowering.{last, lowered}
use Rattle.passes.specs.Numbering.{numbered_sequence}
use Rattle.passes.specs.Conversion.{converted_sequence}
use Rattle.ir_layout.specs.Nodes.{node_of}
use Rattle.ir_layout.specs.Layout.{laid_out}
use Rattle.pass_runs.specs.ConvertRuns.LoweredConversions.Suiting.{widths_of, PiecesSuit}
use Rattle.clock_runs.specs.Premises.{Each, IsSoundNode}
use Rattle.sound_trees.specs.Subscripts.{PiecesSubscriptsFit}

-- the widths of the variables, and the lengths of the arrays
abbrev pub shapes_in : Scope → Shapes
shapes_in scope = record { widths = widths_of scope; dims = map (λ a. a.lengths) scope.arrays }

-- the tree that pieces are lowered, numbered and converted to
abbrev pub tree_in : Scope → Bool → Bool → PieceTrees → Point → SequenceTree
tree_in scope apart loops pieces point =
    converted_sequence (record { widths = widths_of scope; loops = loops }) (numbered_sequence (record { widths = widths_of scope; apart = apart }) (lowered scope pieces last (begun point)))

abbrev pub TreesBecomeSound : Type 0
TreesBecomeSound = (scope : Scope) (apart loops : Bool) (pieces : PieceTrees) (point : Point) (returned : Option VarId) (nodes : List (Node Untimed)) → PiecesSuit scope pieces → PiecesSubscriptsFit scope.arrays pieces
    → map node_of nodes ≡ laid_out (tree_in scope apart loops pieces point) returned → Each (IsSoundNode (shapes_in scope)) nodes
