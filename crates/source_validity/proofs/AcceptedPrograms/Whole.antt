-- There are numbers enough for what an accepted source is compiled to.
use Rattle.std.proofs.Common.{true, ◌≡◌, ◌∙◌, ap, sym, arith, length}
use Rattle.std.proofs.lemmas.List.{length-map}
use Rattle.c_value.specs.Values.{width}
use Rattle.pieces.specs.Program.{ExpandedTree}
use Rattle.c_meaning.specs.PieceRuns.Runs.{frame_of}
use Rattle.ir_core.specs.declared.cfg.Frame.{Frame}
use Rattle.ir_lower.specs.Frames.{memory_view, FrameView, frame_view}
use Rattle.compile_steps.specs.Resets.{array_memory, expanded_frame}
use Rattle.pass_runs.specs.LowerRuns.Suits.{scope_of}
use Rattle.timed_pieces.specs.FlatRuns.{numbering_of, conversion_of}
use Rattle.c_elaborate.specs.Programs.{program_elaborated}
use Rattle.source_validity.specs.ValidFrames.{NamesAreFew}
use Rattle.program_sizes.specs.ExpandedSizes.{IsSmall}
use Rattle.program_sizes.proofs.ExpandedSizes.Whole.{expansions_small}
use Rattle.program_sizes.proofs.FewObjects.Programs.{few_objects}
use Rattle.c_tree.specs.Terminals.{terminals}
use Rattle.passes.specs.Lowering.Blocks.{Scope}
use Rattle.program_validity.specs.Programs.{is_valid}
use Rattle.expanded_programs.proofs.ElaboratedPrograms.Tokens.{numbers_fit}
use Rattle.source_answers.proofs.SourceRuns.ElaboratedSubscripts.Programs.{checked_fit}
use Rattle.source_answers.proofs.SourceRuns.SourceTypes.Whole.{sources_fine}
use Rattle.source_validity.proofs.SourceMachines.ForwardPrograms.Whole.{compiled_forward}
use Rattle.program_sizes.specs.CompiledSizes.{AreLight, IsSmallProgram}
use Rattle.program_sizes.proofs.CompiledSizes.Whole.{compiled_small, small_has_numbers}
use Rattle.source_validity.proofs.CompiledValidity.Sources.{sources_valid}
use Rattle.source_answers.specs.SourceRuns.{expanded}
use Rattle.source_validity.specs.AcceptedPrograms.{AcceptedSourcesCompileToValid}

-- a frame has as many variables and memories as the expanded program has variables and arrays
few_names : (f : Frame) (e : ExpandedTree) → frame_view f ≡ expanded_frame e → IsSmall e → NamesAreFew f
few_names f e same small =
    let variables : length f.variables.items ≡ length e.variables = ap (λ (v : FrameView). length v.variables) same ∙ length-map e.variables width in
    let memories : length f.memories.items ≡ length e.arrays =
    sym (length-map f.memories.items memory_view) ∙ ap (λ (v : FrameView). length v.memories) same ∙ length-map e.arrays array_memory in
    let few = small.variables in
    let some = small.arrays in
    record { variables = omega (arith, variables, few); memories = omega (arith, memories, some) }

pub accepted_valid : AcceptedSourcesCompileToValid
accepted_valid source p top name s light =
    let e : ExpandedTree = expanded p top in
    let found = sources_valid source p top name s in
    let few = few_objects s.tokens s.replaced s.end p top s.becomes s.derives in
    let small : IsSmall e = expansions_small (program_elaborated p top) few light in
    let pieces : AreLight e.pieces = record { weight = small.weight; lands = small.lands } in
    let scope : Scope = scope_of (frame_of e) in
    let fine = sources_fine source s.tokens s.replaced s.end p top name s.spelled s.becomes s.derives s.named s.faultless in
    let numbers = numbers_fit source s.tokens s.replaced s.spelled s.becomes in
    let subscripts = checked_fit (terminals s.replaced) s.end p top name numbers s.derives s.named s.faultless in (
      found.0,
      found.1,
      λ choice cfg laid same.
          (let fits : IsSmallProgram cfg = compiled_small scope (numbering_of (frame_of e) choice) (conversion_of (frame_of e) choice) e.pieces found.0 e.result cfg pieces laid.nodes in
          let valid : is_valid cfg ≡ true = found.2 choice cfg laid same (few_names cfg.frame e same small) (small_has_numbers cfg fits) in
          (valid, fits, compiled_forward scope choice.apart choice.loops e.pieces found.0 e.result cfg fine.1.typed subscripts pieces laid.nodes valid)),
    )
