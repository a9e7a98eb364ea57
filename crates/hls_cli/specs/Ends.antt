-- All that a run promises of its status, as one statement.
use Rattle.std.specs.Prelude.{◌≡◌, ◌≤◌, ◌⊎◌, ℕ, List, Option}
use Rattle.hls_base.specs.Outside.{Files, HasRisen, WhereTold, PutsAll}
use Rattle.hls_cli.specs.Lines.{fault_line, memory_line}
use Rattle.hls_cli.specs.Completeness.{IsComplete}
use Rattle.hls_cli.specs.SynthRun.{Outside, outside, RanToModule, RanToRefusal, RanToUsage, RanToVerdict, RanToOutcome, PutsCutLine, IsCutOff, HasFault}

-- what is seen of the shelf and the sink at one moment
pub record Seen : Type 0 where
  pub files : Option Files
  pub shelf_faults : ℕ
  pub bytes : Option (List ℕ)
  pub sink_faults : ℕ

abbrev pub seen : Option Files → ℕ → Option (List ℕ) → ℕ → Seen
seen files shelf_faults bytes sink_faults = record { files = files; shelf_faults = shelf_faults; bytes = bytes; sink_faults = sink_faults }

abbrev pub between : Seen → Seen → Outside
between old new = outside old.files new.files old.bytes new.bytes

-- what each status says
pub record Ends (words : List (List ℕ)) (old new : Seen) (status : ℕ) : Type 0 where
  pub known : status ≤ 9
  pub made : status ≡ 0 → RanToModule words (between old new) ⊎ (RanToVerdict words 0 (between old new) ⊎ RanToOutcome words 0 (between old new))
  pub refused : status ≡ 1 → RanToRefusal words (between old new) ⊎ RanToVerdict words 1 (between old new)
  pub usage : status ≡ 2 → RanToUsage words (between old new)
  pub compared : 5 ≤ status → RanToVerdict words status (between old new) ⊎ RanToOutcome words status (between old new)
  pub fault : status ≡ 3 → HasFault words old.files old.shelf_faults new.shelf_faults old.sink_faults new.sink_faults
  pub after_fault : status ≡ 3 → IsCutOff words fault_line (between old new)
  pub after_memory : status ≡ 4 → IsCutOff words memory_line (between old new)
  pub complete : IsComplete words old.files → (¬ HasRisen old.shelf_faults new.shelf_faults) → (¬ HasRisen old.sink_faults new.sink_faults) → (status ≡ 0) ⊎ (status ≡ 4)

-- The lines were put, and the answer is their status; or they were cut off, by a fault or for want of memory.
pub data IsFinish (status : ℕ) (line : List ℕ) (old new : Option (List ℕ)) (old_faults new_faults : ℕ) (answer : ℕ) : Type 0 where
  done : answer ≡ status → WhereTold (PutsAll line) old new → IsFinish status line old new old_faults new_faults answer
  failed : answer ≡ 3 → HasRisen old_faults new_faults → WhereTold (PutsCutLine line fault_line) old new → IsFinish status line old new old_faults new_faults answer
  starved : answer ≡ 4 → WhereTold (PutsCutLine line memory_line) old new → IsFinish status line old new old_faults new_faults answer
