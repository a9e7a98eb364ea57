-- What holds of programs holds of them once pairs are fused.
use Rattle.std.specs.Prelude.{◌≡◌, ℕ, true}
use Rattle.ir_core.specs.declared.cfg.Cfg.{Cfg}
use Rattle.ir_core.specs.declared.stamp.Untimed.{Untimed}
use Rattle.program_validity.specs.Programs.{is_valid}
use Rattle.op_chain.specs.Laws.{IsFusedFrom}
use Rattle.clock_runs.specs.Premises.{IsSoundProgram}
use Rattle.sound_trees.specs.ValidPrograms.{LoopsSetOnce}
use Rattle.timed_pieces.specs.FormulaCycles.{PointsDiffer}
use Rattle.timed_pieces.specs.FormulaCycles.Ends.{LoopsLeadToTheirEnds}

-- No two outs of a loop set one variable.
abbrev pub FusedLoopsSetOnce : Type 0
FusedLoopsSetOnce = (period : ℕ) (old new : Cfg Untimed) → IsFusedFrom period old new → LoopsSetOnce old → LoopsSetOnce new

-- So a valid and sound program stays sound.
abbrev pub FusedProgramsAreSound : Type 0
FusedProgramsAreSound = (period : ℕ) (old new : Cfg Untimed) → is_valid old ≡ true → IsSoundProgram old → IsFusedFrom period old new → IsSoundProgram new

abbrev pub FusedPointsDiffer : Type 0
FusedPointsDiffer = (period : ℕ) (old new : Cfg Untimed) → IsFusedFrom period old new → PointsDiffer old.nodes.items → PointsDiffer new.nodes.items

abbrev pub FusedLoopsLeadToTheirEnds : Type 0
FusedLoopsLeadToTheirEnds = (period : ℕ) (old new : Cfg Untimed) → IsFusedFrom period old new → LoopsLeadToTheirEnds old → LoopsLeadToTheirEnds new
