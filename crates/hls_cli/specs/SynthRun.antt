-- What a run of the program leaves: the files, and the bytes that it put.
use Rattle.std.specs.Prelude.{◌≡◌, ◌≢◌, ◌⊎◌, ℕ, List, ◌++◌, take, Option, Some}
use Rattle.hls_base.specs.declared.refusal.Refusal.{Refusal}
use Rattle.hls_base.specs.Outside.{Files, HasRisen, WhereTold, IsAbsent, IsWritten, IsCutShort, PutsAll, PutsPrefix}
use Rattle.hls_flow.specs.FirstFault.{IsFirstFault}
use Rattle.hls_flow.specs.Synthesis.{IsSynthesis}
use Rattle.command_words.specs.Commands.{Synth, Cosim}
use Rattle.module_commands.specs.declared.outcome.Outcome.{Outcome}
use Rattle.module_commands.specs.Work.{SameFiles, Leaves, IsStoppedWork}
use Rattle.hls_cli.specs.Comparisons.{IsComparisonAnswer}
use Rattle.hls_cli.specs.ModuleRuns.{IsModuleOutcome, IsModuleMissing}
use Rattle.hls_cli.specs.Words.{IsSynth, IsCosim, IsUsage, IsComparison, IsOnModules, settings_of}
use Rattle.hls_cli.specs.Lines.{made_line, memory_line, refusal_line, usage_line}

-- what is read of a source: one byte more than the largest source has
abbrev pub read_bytes : ℕ
read_bytes = 65537

-- the source file is there, and its first bytes are these
pub record IsSourceOf (c : Synth) (files : Files) (source : List ℕ) : Type 0 where
  pub whole : List ℕ
  pub found : files c.source ≡ Some whole
  pub first : source ≡ take read_bytes whole

-- The module and the report were written, of a synthesis, and every other file is as before.
pub record IsMade (c : Synth) (old new : Files) : Type 0 where
  pub source : List ℕ
  pub source_is : IsSourceOf c old source
  pub module_bytes : List ℕ
  pub report_bytes : List ℕ
  pub correct : IsSynthesis source (settings_of c) module_bytes report_bytes
  pub module_is : new c.module_file ≡ Some module_bytes
  pub report_is : new c.report ≡ Some report_bytes
  pub others : (name : List ℕ) → name ≢ c.module_file → name ≢ c.report → new name ≡ old name

-- The source was refused with this fault, and no file changed.
pub record IsRefused (c : Synth) (fault : Refusal) (old new : Files) : Type 0 where
  pub source : List ℕ
  pub source_is : IsSourceOf c old source
  pub first_fault : IsFirstFault source c.top fault
  pub same : SameFiles old new

-- The work stopped before the first put: nothing was written, or the report was cut short, or after the whole report the module was. What was not written is as before, and each cut is a prefix of the bytes of a synthesis.
pub data IsStopped (c : Synth) (old new : Files) : Type 0 where
  unwritten : SameFiles old new → IsStopped c old new
  report_cut : (source module_bytes report_bytes : List ℕ) → IsSourceOf c old source → IsSynthesis source (settings_of c) module_bytes report_bytes
      → IsCutShort c.report report_bytes old new → IsStopped c old new
  module_cut : (source module_bytes report_bytes : List ℕ) (between : Files) → IsSourceOf c old source → IsSynthesis source (settings_of c) module_bytes report_bytes
      → IsWritten c.report report_bytes old between → IsCutShort c.module_file module_bytes between new → IsStopped c old new

-- a prefix of the answer's line, and then a prefix of the last line
abbrev pub PutsCutLine : List ℕ → List ℕ → List ℕ → List ℕ → Type 0
PutsCutLine line last old new = (n : ℕ) × (k : ℕ) × (new ≡ old ++ (take n line ++ take k last))

-- what stands outside before and after a run: the files and the bytes put, each where it is told
pub record Outside : Type 0 where
  pub old_files : Option Files
  pub new_files : Option Files
  pub old_bytes : Option (List ℕ)
  pub new_bytes : Option (List ℕ)

abbrev pub outside : Option Files → Option Files → Option (List ℕ) → Option (List ℕ) → Outside
outside old_files new_files old_bytes new_bytes = record { old_files = old_files; new_files = new_files; old_bytes = old_bytes; new_bytes = new_bytes }

-- The run ended for a fault or for want of memory, and put a prefix of the line that says so: before any line of an answer, or after a prefix of the line of the answer that its whole work gave. Memory may be wanting for the reading of the words already.
pub data IsCutOff (words : List (List ℕ)) (last : List ℕ) (o : Outside) : Type 0 where
  unread : last ≡ memory_line → WhereTold SameFiles o.old_files o.new_files → WhereTold (PutsPrefix last) o.old_bytes o.new_bytes → IsCutOff words last o
  stopped : (c : Synth) → IsSynth words c → WhereTold (IsStopped c) o.old_files o.new_files → WhereTold (PutsPrefix last) o.old_bytes o.new_bytes → IsCutOff words last o
  at_usage : IsUsage words → WhereTold SameFiles o.old_files o.new_files → WhereTold (PutsCutLine usage_line last) o.old_bytes o.new_bytes → IsCutOff words last o
  at_refusal : (c : Synth) (fault : Refusal) → IsSynth words c → WhereTold (IsRefused c fault) o.old_files o.new_files
      → WhereTold (PutsCutLine (refusal_line fault) last) o.old_bytes o.new_bytes → IsCutOff words last o
  at_made : (c : Synth) → IsSynth words c → WhereTold (IsMade c) o.old_files o.new_files → WhereTold (PutsCutLine (made_line c) last) o.old_bytes o.new_bytes → IsCutOff words last o
  uncompared : IsComparison words → WhereTold SameFiles o.old_files o.new_files → WhereTold (PutsPrefix last) o.old_bytes o.new_bytes → IsCutOff words last o
  at_comparison : (status : ℕ) (lines : List ℕ) → IsComparisonAnswer words o.old_files status lines → WhereTold SameFiles o.old_files o.new_files
      → WhereTold (PutsCutLine lines last) o.old_bytes o.new_bytes → IsCutOff words last o
  unfinished : (name : List ℕ) → IsOnModules words → IsStoppedWork (IsModuleOutcome words o.old_files name) name o.old_files o.new_files
      → WhereTold (PutsPrefix last) o.old_bytes o.new_bytes → IsCutOff words last o
  at_outcome : (name : List ℕ) (outcome : Outcome) → IsModuleOutcome words o.old_files name outcome → WhereTold (Leaves name outcome.written) o.old_files o.new_files
      → WhereTold (PutsCutLine outcome.line last) o.old_bytes o.new_bytes → IsCutOff words last o

-- ---- what each status says

-- 0: the module and the report were made, and the line says so
pub record RanToModule (words : List (List ℕ)) (o : Outside) : Type 0 where
  pub command : Synth
  pub is : IsSynth words command
  pub files : WhereTold (IsMade command) o.old_files o.new_files
  pub bytes : WhereTold (PutsAll (made_line command)) o.old_bytes o.new_bytes

-- 1: the source has this fault, and the line names it
pub record RanToRefusal (words : List (List ℕ)) (o : Outside) : Type 0 where
  pub command : Synth
  pub is : IsSynth words command
  pub fault : Refusal
  pub files : WhereTold (IsRefused command fault) o.old_files o.new_files
  pub bytes : WhereTold (PutsAll (refusal_line fault)) o.old_bytes o.new_bytes

-- what a comparison ends with, with this status: no file changed, and exactly the lines of its answer were put
pub record RanToVerdict (words : List (List ℕ)) (status : ℕ) (o : Outside) : Type 0 where
  pub lines : List ℕ
  pub answer : IsComparisonAnswer words o.old_files status lines
  pub files : WhereTold SameFiles o.old_files o.new_files
  pub bytes : WhereTold (PutsAll lines) o.old_bytes o.new_bytes

-- what a command on modules ends with, with this status: the file of its outcome was written if there is one, and exactly its line was put
pub record RanToOutcome (words : List (List ℕ)) (status : ℕ) (o : Outside) : Type 0 where
  pub name : List ℕ
  pub outcome : Outcome
  pub is : IsModuleOutcome words o.old_files name outcome
  pub status_is : status ≡ outcome.status
  pub files : WhereTold (Leaves name outcome.written) o.old_files o.new_files
  pub bytes : WhereTold (PutsAll outcome.line) o.old_bytes o.new_bytes

-- 2: the words are no command
pub record RanToUsage (words : List (List ℕ)) (o : Outside) : Type 0 where
  pub usage : IsUsage words
  pub files : WhereTold SameFiles o.old_files o.new_files
  pub bytes : WhereTold (PutsAll usage_line) o.old_bytes o.new_bytes

-- a file that the words name to be read is not there
pub data IsMissing (words : List (List ℕ)) (files : Option Files) : Type 0 where
  of_synth : (c : Synth) → IsSynth words c → IsAbsent files c.source → IsMissing words files
  of_cosim : (c : Cosim) → IsCosim words c → IsAbsent files c.source ⊎ (IsAbsent files c.module_file ⊎ (IsAbsent files c.report ⊎ IsAbsent files c.run)) → IsMissing words files
  of_modules : IsModuleMissing words files → IsMissing words files

-- 3: the shelf or the sink failed, or a file that is read is not there
abbrev pub HasFault : List (List ℕ) → Option Files → ℕ → ℕ → ℕ → ℕ → Type 0
HasFault words old_files shelf_old shelf_new sink_old sink_new =
    HasRisen shelf_old shelf_new ⊎ (HasRisen sink_old sink_new ⊎ IsMissing words old_files)
