-- Programs whose pairs are fused can be given times as they could before: constants, outs and tests stay near, and programs small.
use Rattle.std.specs.Prelude.{◌≡◌, ℕ, true}
use Rattle.std.specs.List.{All}
use Rattle.ir_core.specs.declared.cfg.Cfg.{Cfg}
use Rattle.ir_core.specs.declared.stamp.Untimed.{Untimed}
use Rattle.program_validity.specs.Programs.{is_valid}
use Rattle.op_chain.specs.Laws.{IsFusedFrom}
use Rattle.report_rows.specs.ForwardNodes.{HasForwardBody}
use Rattle.program_sizes.specs.CompiledSizes.{IsSmallProgram}
use Rattle.source_validity.specs.SourceMachines.ForwardPrograms.NearConstants.{ConstantsAreNear}
use Rattle.source_validity.specs.SourceMachines.SmallTimes.NearOuts.{OutsAreNear}

abbrev pub FusedConstantsAreNear : Type 0
FusedConstantsAreNear = (period : ℕ) (old new : Cfg Untimed) → IsFusedFrom period old new → ConstantsAreNear old → ConstantsAreNear new

abbrev pub FusedOutsAreNear : Type 0
FusedOutsAreNear = (period : ℕ) (old new : Cfg Untimed) → IsFusedFrom period old new → OutsAreNear old → OutsAreNear new

abbrev pub FusedProgramsAreSmall : Type 0
FusedProgramsAreSmall = (period : ℕ) (old new : Cfg Untimed) → IsFusedFrom period old new → IsSmallProgram old → IsSmallProgram new

-- So the operations of each node come behind those that they wait for.
abbrev pub FusedProgramsAreForward : Type 0
FusedProgramsAreForward = (period : ℕ) (old new : Cfg Untimed) → is_valid old ≡ true → IsFusedFrom period old new → ConstantsAreNear old → IsSmallProgram old → All HasForwardBody new.nodes.items
