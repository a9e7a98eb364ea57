use Rattle.std.proofs.Common.{◌≡◌, ◌∙◌, ap}
use Rattle.std.specs.Prelude.{not}
use Rattle.pieces.specs.Program.{expanded_of}
use Rattle.ir_core.specs.declared.cfg.Frame.{Frame}
use Rattle.ir_lower.specs.Frames.{FrameView}
use Rattle.ir_core.specs.Trees.{sequence_of}
use Rattle.passes.specs.Conversion.{converted_sequence}
use Rattle.compile_steps.specs.Flat.{Passes, passes_of}
use Rattle.compile_steps.proofs.Flat.{flat_of}
use Rattle.compile_steps.proofs.steps.flat_program.Goals as goal

pub returns-clause-flat : goal.returns-clause-flat
returns-clause-flat c =
    let lowered = c.in_ok-tree.tree in
    let numbered = c.in_ok-tree-2.tree in
    let converted = c.in_ok-tree-3.tree in
    let passes : Passes = passes_of c.args.settings.now in
    flat_of (expanded_of c.args.expanded.now) passes c.in_ok-cfg.cfg c.in_ok-cfg-2.cfg (sequence_of lowered.blocks) (sequence_of numbered.blocks) (sequence_of converted.blocks)
    lowered.frame.variables.items converted.result c.in_ok-tree.ensures.blocks (ap (λ (v : FrameView). v.variables) c.in_ok-tree.ensures.frame) c.in_ok-tree-2.ensures.numbered
    (c.in_ok-tree-3.ensures.blocks ∙ ap (λ (f : Frame). converted_sequence (record { widths = f.variables.items; loops = not c.args.settings.now.plain }) (sequence_of numbered.blocks)) c.in_ok-tree-2.ensures.frame)
    c.in_ok-cfg.ensures.first (c.in_ok-tree-3.ensures.returned ∙ (c.in_ok-tree-2.ensures.returned ∙ c.in_ok-tree.ensures.returned)) c.in_ok-cfg.ensures.nodes
    (record { frame = c.in_ok-cfg-2.ensures.frame; first = c.in_ok-cfg-2.ensures.first; nodes = c.in_ok-cfg-2.ensures.nodes })
