-- The programs of the stages name what is there, since their trees do.
use Rattle.std.proofs.Common.{◌≡◌, ◌∙◌, ℕ, Bool, false, not, List, [], Some, length, sym, ap, subst}
use Rattle.std.proofs.lemmas.List.{length-map}
use Rattle.hls_base.specs.declared.point.Point.{Point}
use Rattle.c_value.specs.Values.{width}
use Rattle.c_tree.specs.Tree.{ProgramTree}
use Rattle.c_meaning.specs.Checks.Programs.{program_faults, top_name}
use Rattle.checked_source.specs.Sources.{IsTheProgramOf, end_of}
use Rattle.c_elaborate.specs.Programs.{program_elaborated}
use Rattle.c_expand.specs.Expansion.{expansion}
use Rattle.pieces.specs.Program.{ExpandedTree}
use Rattle.ir_core.specs.declared.cfg.Cfg.{Cfg}
use Rattle.ir_core.specs.declared.cfg.Memory.{Memory}
use Rattle.ir_core.specs.declared.stamp.Untimed.{Untimed}
use Rattle.ir_lower.specs.Frames.{FrameView, memory_view}
use Rattle.passes.specs.Lowering.{scope_of}
use Rattle.pass_runs.specs.ConvertRuns.LoweredConversions.Suiting.{PiecesSuit}
use Rattle.flat_programs.specs.There.{SequenceThere}
use Rattle.flat_programs.specs.Laws.{LayoutIsWhole}
use Rattle.flat_programs.specs.Machine.Rest.{memory_dims}
use Rattle.valid_trees.specs.WholeTrees.{LoweredIsThere, NumberedIsThere, ConvertedIsThere}
use Rattle.clock_machine.specs.Starts.{IsNamed}
use Rattle.source_validity.specs.SourceMachines.{IsFrameOf, SourceFramesAreNamed}
use Rattle.source_answers.specs.SourceRuns.{IsFaultless}
use Rattle.source_answers.specs.SourceRuns.SourceTypes.{SourcesHaveFinePieces}
use Rattle.compile_steps.specs.Flat.{variable_widths, tree_of, numbered_of}
use Rattle.compile_steps.specs.Resets.{array_memory}
use Rattle.stage_runs.specs.declared.stage.StageName.{StageName}
use Rattle.stage_runs.specs.declared.stage.StageName.TheVariants as name
use Rattle.stage_runs.specs.Stages.{stage_tree, IsStageOf}
use Rattle.stage_runs.specs.Whole.{SourcesHaveWholeStages}

module _ (lowered_there : LoweredIsThere) (numbered_there : NumberedIsThere) (converted_there : ConvertedIsThere) where
  module _ (e : ExpandedTree) (plain : Bool) (start : Point) (dims : List (List ℕ)) (count : length dims ≡ length e.arrays) (typed : PiecesSuit (scope_of e) e.pieces) where
    in_lowered : SequenceThere (length e.variables) dims (tree_of e start)
    in_lowered = lowered_there (scope_of e) dims e.pieces start count typed

    in_numbered : SequenceThere (length e.variables) dims (numbered_of e start)
    in_numbered = numbered_there (record { widths = variable_widths e; apart = false }) (length e.variables) dims (tree_of e start) in_lowered

    -- the tree of each stage names what is there
    stage_there : (stage : StageName) → SequenceThere (length e.variables) dims (stage_tree stage e plain start)
    stage_there name.Lowered = in_lowered
    stage_there name.Numbered = in_numbered
    stage_there name.Converted = converted_there (record { widths = variable_widths e; loops = not plain }) (length e.variables) dims (numbered_of e start) in_numbered

-- there are as many variables and memories as the expanded program has variables and arrays
variable_count : (e : ExpandedTree) (plain : Bool) (stage : StageName) (cfg : Cfg Untimed) → IsStageOf e plain stage cfg → length cfg.frame.variables.items ≡ length e.variables
variable_count e plain stage cfg is = ap (λ (v : FrameView). length v.variables) is.frame ∙ length-map e.variables width

memory_count : (e : ExpandedTree) (plain : Bool) (stage : StageName) (cfg : Cfg Untimed) → IsStageOf e plain stage cfg → length (memory_dims cfg) ≡ length e.arrays
memory_count e plain stage cfg is =
    length-map cfg.frame.memories.items (λ (m : Memory). m.dims.items)
    ∙ (sym (length-map cfg.frame.memories.items memory_view) ∙ (ap (λ (v : FrameView). length v.memories) is.frame ∙ length-map e.arrays array_memory))

frame_is : (e : ExpandedTree) (plain : Bool) (stage : StageName) (cfg : Cfg Untimed) → IsStageOf e plain stage cfg → IsFrameOf e cfg.frame
frame_is e plain stage cfg is = record {
  params = ap (λ (v : FrameView). v.params) is.frame;
  kept = ap (λ (v : FrameView). v.kept) is.frame;
  variables = variable_count e plain stage cfg is;
}

pub whole_stages : LayoutIsWhole → LoweredIsThere → NumberedIsThere → ConvertedIsThere → SourcesHaveFinePieces → SourceFramesAreNamed → SourcesHaveWholeStages
whole_stages layout lowered_there numbered_there converted_there fine_pieces named source p top name s plain stage cfg is =
    let e = expansion (program_elaborated p top) in
    let fine = fine_pieces source s.tokens s.replaced s.end p top name s.spelled s.becomes s.derives s.named s.faultless in
    let frame : IsNamed cfg.frame = named source p top name s cfg.frame (frame_is e plain stage cfg is) in
    let there = stage_there lowered_there numbered_there converted_there e plain is.start (memory_dims cfg) (memory_count e plain stage cfg is) fine.1.typed stage in
    layout cfg (stage_tree stage e plain is.start) e.result is.nodes
    (subst (λ n. SequenceThere n (memory_dims cfg) (stage_tree stage e plain is.start)) (sym (variable_count e plain stage cfg is)) there) frame.kept frame.params

-- what is known of a source that was read
pub faultless_of : (source top : List ℕ) (p : ProgramTree) (index : ℕ) → IsTheProgramOf source p → top_name p index ≡ Some top → program_faults p top ≡ [] → IsFaultless source p index top
faultless_of source top p index is named faultless = record {
  tokens = is.is.replaced.tokens;
  replaced = is.is.tokens;
  end = end_of source;
  spelled = is.is.replaced.spelled;
  becomes = is.is.replaced.becomes;
  derives = is.is.is.0;
  named = named;
  faultless = faultless;
}
