-- How much a source is lowered to.
use Rattle.std.proofs.Common.{false, arith}
use Rattle.c_tree.specs.Terminals.{terminals}
use Rattle.c_elaborate.specs.Programs.{program_elaborated}
use Rattle.pieces.specs.Resolved.Core.{CoreProgramTree}
use Rattle.pieces.specs.Program.{ExpandedTree}
use Rattle.c_meaning.specs.PieceRuns.Runs.{frame_of}
use Rattle.expanded_programs.specs.Calls.Programs.{IsProgramSound}
use Rattle.expanded_programs.proofs.ElaboratedPrograms.Tokens.{numbers_fit}
use Rattle.expanded_programs.proofs.ElaboratedPrograms.Whole.{elaborated_sound}
use Rattle.passes.specs.Lowering.Blocks.{Scope}
use Rattle.pass_runs.specs.LowerRuns.Suits.{scope_of}
use Rattle.program_sizes.proofs.CountedOperations.Weights.{all_by_weight}
use Rattle.program_sizes.proofs.CountedOperations.Trees.{lowered_counted}
use Rattle.program_sizes.proofs.LoweredNodes.Trees.{lowered_nodes}
use Rattle.program_sizes.proofs.ExpandedSizes.Whole.{expansions_weighed}
use Rattle.program_sizes.proofs.FewObjects.Programs.{few_objects}
use Rattle.program_sizes.proofs.DeclaredVariables.Whole.{variables_counted}
use Rattle.program_sizes.proofs.DeclaredObjects.Counting.{objects_declared}
use Rattle.program_sizes.proofs.DeclaredObjects.Parameters.{parameters_few}
use Rattle.source_answers.specs.SourceRuns.{expanded}
use Rattle.source_validity.specs.AcceptedPrograms.{SourcesAreLoweredToFew}

pub lowered_to_few : SourcesAreLoweredToFew
lowered_to_few source p top name s point =
    let e : ExpandedTree = expanded p top in
    let core : CoreProgramTree = program_elaborated p top in
    let scope : Scope = scope_of (frame_of e) in
    let numbers = numbers_fit source s.tokens s.replaced s.spelled s.becomes in
    let sound : IsProgramSound core = elaborated_sound (terminals s.replaced) s.end p top name numbers s.derives s.named s.faultless in
    let weighed = expansions_weighed core (few_objects s.tokens s.replaced s.end p top s.becomes s.derives) in
    let weight = weighed.weight in
    let lands = weighed.lands in
    let operations = (lowered_counted scope e.pieces point).operations in
    let counted = all_by_weight scope false e.pieces in
    let nodes = lowered_nodes scope e.pieces point in
    let variables = variables_counted core sound (objects_declared p top) sound.top.0 sound.top.1 in
    let parameters = parameters_few p name top s.faultless core.top sound.top.0 sound.top.1 in
    omega (arith, weight, lands, operations, counted, nodes, variables, parameters)
