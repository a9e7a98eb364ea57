-- What the work of a command gives, before any line is put.
use Rattle.std.specs.Prelude.{◌≡◌, ◌⊎◌, ◌≤◌, ℕ, List, Option}
use Rattle.hls_base.specs.declared.refusal.Refusal.{Refusal}
use Rattle.hls_base.specs.Outside.{Files, WhereTold, IsWritten, IsCutShort}
use Rattle.hls_cli.specs.declared.work.Answer.{Answer}
use Rattle.command_words.specs.Commands.{Synth}
use Rattle.hls_cli.specs.Lines.{made_line, refusal_line}
use Rattle.hls_cli.specs.SynthRun.{IsMade, IsRefused}

-- the report was written, and then the module
pub record AreWritten (c : Synth) (module_bytes report_bytes : List ℕ) (old new : Files) : Type 0 where
  pub between : Files
  pub report : IsWritten c.report report_bytes old between
  pub module_file : IsWritten c.module_file module_bytes between new

-- the report was cut short, or after the whole report the module was
pub data AreCutShort (c : Synth) (module_bytes report_bytes : List ℕ) (old new : Files) : Type 0 where
  at_report : IsCutShort c.report report_bytes old new → AreCutShort c module_bytes report_bytes old new
  at_module : (between : Files) → IsWritten c.report report_bytes old between → IsCutShort c.module_file module_bytes between new
      → AreCutShort c module_bytes report_bytes old new

-- The lines say what was done: the files were made, or the source was refused. Where there are none the work stopped.
pub data IsSynthWork (c : Synth) (old new : Option Files) (a : Answer) : Type 0 where
  made : a.status ≡ 0 → a.lines ≡ made_line c → WhereTold (IsMade c) old new → IsSynthWork c old new a
  refused : (fault : Refusal) → a.status ≡ 1 → a.lines ≡ refusal_line fault → WhereTold (IsRefused c fault) old new → IsSynthWork c old new a

-- the statuses with which a comparison ends
abbrev pub IsVerdictStatus : ℕ → Type 0
IsVerdictStatus n = (n ≡ 0) ⊎ ((n ≡ 1) ⊎ ((5 ≤ n) × (n ≤ 9)))
