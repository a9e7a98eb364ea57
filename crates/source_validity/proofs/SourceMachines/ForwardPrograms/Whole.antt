-- Valid programs of few operations can be given times.
use Rattle.std.proofs.Common.{sym, subst, [], None}
use Rattle.ir_layout.specs.Layout.{finish}
use Rattle.pass_runs.specs.ConvertRuns.LoweredConversions.Suiting.{widths_of, words_of}
use Rattle.program_validity.specs.Programs.{is_consistent}
use Rattle.program_validity.proofs.Parts.{first_of_both}
use Rattle.sound_trees.specs.Laws.{shapes_in, tree_in}
use Rattle.sound_trees.proofs.Whole.{tree_ready}
use Rattle.program_sizes.proofs.CompiledSizes.Whole.{compiled_small}
use Rattle.source_validity.specs.SourceMachines.ForwardPrograms.{ValidProgramsAreForward, LaidOutConstantsAreNear, CompiledProgramsAreForward}
use Rattle.source_validity.proofs.SourceMachines.ForwardPrograms.Nodes.{consistent_forward}
use Rattle.source_validity.proofs.SourceMachines.ForwardPrograms.NearNodes.{BodyIsNear, NodesAreNear, iteration_near, laid_near, program_near}

pub valid_forward : ValidProgramsAreForward
valid_forward cfg valid near small = consistent_forward cfg (first_of_both (is_consistent cfg) _ valid) near small

pub constants_near : LaidOutConstantsAreNear
constants_near scope apart loops pieces point returned cfg suits subscripts laid =
    let shapes = shapes_in scope in
    let words = words_of scope in
    let ready = tree_ready BodyIsNear scope apart loops pieces point suits subscripts (λ known b h s. iteration_near shapes words known b h) in
    program_near shapes words cfg (subst (NodesAreNear shapes words) (sym laid)
    (laid_near shapes words (record { leave = None; again = None; lands = []; returned = returned }) finish 0 (tree_in scope apart loops pieces point) ready))

pub compiled_forward : CompiledProgramsAreForward
compiled_forward scope apart loops pieces point returned cfg suits subscripts light laid valid =
    valid_forward cfg valid (constants_near scope apart loops pieces point returned cfg suits subscripts laid)
    (compiled_small scope (record { widths = widths_of scope; apart = apart }) (record { widths = widths_of scope; loops = loops }) pieces point returned cfg light laid)
