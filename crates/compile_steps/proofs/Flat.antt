-- The steps from pieces to a flat program, one after another.
use Rattle.std.proofs.Common.{◌≡◌, ◌∙◌, ℕ, Bool, List, map, Option, Some, None, refl, ap}
use Rattle.std.specs.Prelude.{false, not}
use Rattle.hls_base.specs.declared.number.VarId.{VarId}
use Rattle.hls_base.specs.declared.point.Point.{Point}
use Rattle.pieces.specs.Program.{ExpandedTree}
use Rattle.ir_core.specs.declared.cfg.Cfg.{Cfg}
use Rattle.ir_core.specs.declared.stamp.Untimed.{Untimed}
use Rattle.ir_core.specs.Trees.{SequenceTree, side}
use Rattle.passes.specs.Lowering.Shapes.{first_point}
use Rattle.passes.specs.Lowering.{scope_of, last, lowered, lowering, side_from}
use Rattle.passes.specs.Numbering.{numbered_sequence}
use Rattle.passes.specs.Conversion.{converted_sequence}
use Rattle.ir_layout.specs.Nodes.{node_of}
use Rattle.ir_layout.specs.Layout.{laid_out}
use Rattle.op_chain.specs.Laws.{IsFusedFrom}
use Rattle.compile_steps.specs.Flat.{variable_widths, tree_of, Passes, IsFlatOf}

pub flat_by : (e : ExpandedTree) (passes : Passes) (unfused cfg : Cfg Untimed) (tree : SequenceTree) (x : Option Point) → first_point e.pieces ≡ x → side tree ≡ side_from (lowered (scope_of e) e.pieces last) x
    → unfused.first.0 ≡ 0 → map node_of unfused.nodes.items ≡ laid_out (converted_sequence (record { widths = variable_widths e; loops = not passes.plain }) (numbered_sequence (record { widths = variable_widths e; apart = false }) tree)) e.result
    → IsFusedFrom passes.period unfused cfg → IsFlatOf e passes cfg
flat_by e passes unfused cfg tree None at made first nodes fused = absurd (cc)
flat_by e passes unfused cfg tree (Some start) at made first nodes fused =
    let same : tree ≡ tree_of e start = cc in
    record {
      start = start;
      starts = at;
      unfused = unfused;
      first = first;
      fused = fused;
      nodes = nodes ∙ ap (λ t. laid_out (converted_sequence (record { widths = variable_widths e; loops = not passes.plain }) (numbered_sequence (record { widths = variable_widths e; apart = false }) t)) e.result) same;
    }

pub flat_of : (e : ExpandedTree) (passes : Passes) (unfused cfg : Cfg Untimed) (tree numbered converted : SequenceTree) (widths : List ℕ) (result : Option VarId) → side tree ≡ lowering e → widths ≡ variable_widths e
    → numbered ≡ numbered_sequence (record { widths = widths; apart = false }) tree → converted ≡ converted_sequence (record { widths = widths; loops = not passes.plain }) numbered
    → unfused.first.0 ≡ 0 → result ≡ e.result → map node_of unfused.nodes.items ≡ laid_out converted result → IsFusedFrom passes.period unfused cfg → IsFlatOf e passes cfg
flat_of e passes unfused cfg tree numbered converted widths result made same n c first r nodes =
    flat_by e passes unfused cfg tree (first_point e.pieces) refl made first
    (nodes ∙ ap (laid_out converted) r ∙ ap (λ s. laid_out s e.result) (c ∙ ap (λ s. converted_sequence (record { widths = widths; loops = not passes.plain }) s) n)
    ∙ ap (λ w. laid_out (converted_sequence (record { widths = w; loops = not passes.plain }) (numbered_sequence (record { widths = w; apart = false }) tree)) e.result) same)
