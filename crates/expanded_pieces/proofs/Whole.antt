-- Programs of C, and the trees that they are lowered to.
use Rattle.c_elaborate.specs.Programs.{program_elaborated}
use Rattle.c_expand.specs.Expansion.{expansion}
use Rattle.passes.specs.Lowering.{scope_of}
use Rattle.pass_runs.proofs.LowerRuns.LoweredTrees.Fitting.{lowered_fits}
use Rattle.expanded_pieces.specs.Laws.{ExpandedIsWellFormed, CheckedProgramsFit}
use Rattle.expanded_pieces.proofs.Calls.{expanded_fit, expanded_short}
use Rattle.expanded_pieces.proofs.Grammar.{grammar_begins}
use Rattle.expanded_pieces.proofs.Elaborated.{elaborated_jumps, elaborated_lengths}

pub expanded_well_formed : ExpandedIsWellFormed
expanded_well_formed p jumps point = lowered_fits (scope_of (expansion p)) (expansion p).pieces point (expanded_fit p jumps)

pub checked_fit : CheckedProgramsFit
checked_fit tokens end p top name derives none =
    let core = program_elaborated p top in
    let jumps = elaborated_jumps p top name none (grammar_begins tokens end p derives) in
    record { jumps = expanded_fit core jumps; lengths = expanded_short core jumps (elaborated_lengths p top); blocks = expanded_well_formed core jumps }
