-- Commands of which nothing is wrong.
use Rattle.std.specs.Prelude.{◌≡◌, ℕ, List, Option, Some}
use Rattle.hls_base.specs.Outside.{Files}
use Rattle.hls_flow.specs.declared.verdict.CosimInputs.{CosimInputs}
use Rattle.hls_flow.specs.FirstFault.{IsAccepted}
use Rattle.hls_flow.specs.Agreeing.{AgreesInTime}
use Rattle.command_words.specs.Commands.{Synth, Cosim, Blast, Link}
use Rattle.module_commands.specs.Work.{CanTime, CanBlast, CanLink}
use Rattle.hls_cli.specs.Comparisons.{IsGiven}
use Rattle.hls_cli.specs.SynthRun.{IsSourceOf}
use Rattle.hls_cli.specs.Words.{IsSynth, IsCosim, IsSoak, IsTimingOf, IsBlastOf, IsLinkOf}

-- the source is there and is accepted
pub record IsCompilable (c : Synth) (files : Files) : Type 0 where
  pub source : List ℕ
  pub source_is : IsSourceOf c files source
  pub accepted : IsAccepted source c.top

-- The four files are there. The source is accepted, module and report agree with it, and the run of the run file ends in time.
pub record IsComparable (c : Cosim) (files : Files) : Type 0 where
  pub given : CosimInputs
  pub given_is : IsGiven c (Some files) given
  pub accepted : IsAccepted given.source given.top
  pub agrees : AgreesInTime given accepted

-- a command that is done unless a fault of the outside or want of memory comes
pub data IsComplete (words : List (List ℕ)) (old_files : Option Files) : Type 0 where
  of_synth : (c : Synth) (files : Files) → IsSynth words c → old_files ≡ Some files → IsCompilable c files → IsComplete words old_files
  of_cosim : (c : Cosim) (files : Files) → IsCosim words c → old_files ≡ Some files → IsComparable c files → IsComplete words old_files
  of_soak : (n : ℕ) → IsSoak words n → IsComplete words old_files
  of_timing : (m : List ℕ) → IsTimingOf words m → CanTime old_files m → IsComplete words old_files
  of_blast : (c : Blast) → IsBlastOf words c → CanBlast old_files c.module_file → IsComplete words old_files
  of_link : (c : Link) → IsLinkOf words c → CanLink old_files c.stages → IsComplete words old_files
