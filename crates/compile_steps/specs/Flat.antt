-- Which flat program an expanded program becomes: its pieces are lowered to a tree of blocks, in which equal operations become one, forks and loops are converted, which is laid out, and in which operators are fused.
use Rattle.std.specs.Prelude.{◌≡◌, ℕ, Bool, false, not, List, map, Some}
use Rattle.hls_base.specs.declared.point.Point.{Point}
use Rattle.hls_base.specs.declared.settings.Settings.{Settings}
use Rattle.c_value.specs.Values.{width}
use Rattle.pieces.specs.Program.{ExpandedTree}
use Rattle.ir_core.specs.declared.cfg.Cfg.{Cfg}
use Rattle.ir_core.specs.declared.stamp.Untimed.{Untimed}
use Rattle.ir_core.specs.Trees.{SequenceTree}
use Rattle.passes.specs.Lowering.Shapes.{first_point}
use Rattle.passes.specs.Lowering.Blocks.{begun}
use Rattle.passes.specs.Lowering.{scope_of, last, lowered}
use Rattle.passes.specs.Numbering.{numbered_sequence}
use Rattle.passes.specs.Conversion.{converted_sequence}
use Rattle.ir_layout.specs.Nodes.{node_of}
use Rattle.ir_layout.specs.Layout.{laid_out}
use Rattle.op_chain.specs.Laws.{IsFusedFrom}

abbrev pub variable_widths : ExpandedTree → List ℕ
variable_widths e = map width e.variables

-- the tree of blocks that pieces are lowered to, which begins at this point
abbrev pub tree_of : ExpandedTree → Point → SequenceTree
tree_of e start = lowered (scope_of e) e.pieces last (begun start)

-- the same with equal operations as one
abbrev pub numbered_of : ExpandedTree → Point → SequenceTree
numbered_of e start = numbered_sequence (record { widths = variable_widths e; apart = false }) (tree_of e start)

-- the same with forks and loops converted; where the program is to be plain, no loop is
abbrev pub converted_of : ExpandedTree → Bool → Point → SequenceTree
converted_of e plain start = converted_sequence (record { widths = variable_widths e; loops = not plain }) (numbered_of e start)

-- what is asked of the passes: whether loops stay as they are, and at which period operators are fused, 0 for none
pub record Passes : Type 0 where
  pub plain : Bool
  pub period : ℕ

abbrev pub passes_of : Settings → Passes
passes_of settings = record { plain = settings.plain; period = settings.period }

-- the program is laid out from that tree, and then operators are fused
pub record IsFlatOf (e : ExpandedTree) (passes : Passes) (cfg : Cfg Untimed) : Type 0 where
  pub start : Point
  pub starts : first_point e.pieces ≡ Some start
  pub unfused : Cfg Untimed
  pub first : unfused.first.0 ≡ 0
  pub nodes : map node_of unfused.nodes.items ≡ laid_out (converted_of e passes.plain start) e.result
  pub fused : IsFusedFrom passes.period unfused cfg
