-- What the work of `cosim` or `soak` gives: a status and the lines that are put.
use Rattle.std.specs.Prelude.{◌≡◌, ℕ, List, Option}
use Rattle.hls_base.specs.declared.refusal.Refusal.{Refusal}
use Rattle.hls_base.specs.Outside.{Files, AreFirstBytes}
use Rattle.cosim_levels.specs.Verdicts.{PlainVerdict}
use Rattle.hls_flow.specs.declared.soak.Summary.{Summary}
use Rattle.hls_flow.specs.declared.verdict.CosimInputs.{CosimInputs}
use Rattle.hls_flow.specs.FirstFault.{IsFirstFault}
use Rattle.hls_flow.specs.SoakRun.{IsSoakRun}
use Rattle.hls_flow.specs.Verdicts.{IsVerdict}
use Rattle.command_words.specs.Commands.{Cosim}
use Rattle.hls_cli.specs.Lines.{refusal_line, soak_line}
use Rattle.hls_cli.specs.VerdictLines.{verdict_lines, verdict_status}
use Rattle.hls_cli.specs.Words.{IsCosim, IsSoak}

-- What a comparison is given: the limits and the name of the words, and the first bytes of the four files. Of each file one byte more is read than the largest has.
pub record IsGiven (c : Cosim) (files : Option Files) (given : CosimInputs) : Type 0 where
  pub source : AreFirstBytes files c.source 65537 given.source
  pub circuit : AreFirstBytes files c.module_file 67108865 given.module
  pub report : AreFirstBytes files c.report 16777217 given.report
  pub run : AreFirstBytes files c.run 16777217 given.run
  pub top : given.top ≡ c.top
  pub points : given.points ≡ c.points
  pub cycles : given.cycles ≡ c.cycles

-- a verdict, or the first fault of the source, with its status and its lines
pub data IsCosimAnswer (given : CosimInputs) (status : ℕ) (lines : List ℕ) : Type 0 where
  verdict : (v : PlainVerdict) → IsVerdict given v → status ≡ verdict_status v → lines ≡ verdict_lines v → IsCosimAnswer given status lines
  refused : (fault : Refusal) → IsFirstFault given.source given.top fault → status ≡ 1 → lines ≡ refusal_line fault → IsCosimAnswer given status lines

pub data IsCosimWork (c : Cosim) (files : Option Files) (status : ℕ) (lines : List ℕ) : Type 0 where
  answers : (given : CosimInputs) → IsGiven c files given → IsCosimAnswer given status lines → IsCosimWork c files status lines

pub data IsSoakWork (number status : ℕ) (lines : List ℕ) : Type 0 where
  tells : (summary : Summary) → IsSoakRun number summary → status ≡ 0 → lines ≡ soak_line number summary → IsSoakWork number status lines

-- the words are one of the two commands, and this is its answer
pub data IsComparisonAnswer (words : List (List ℕ)) (files : Option Files) (status : ℕ) (lines : List ℕ) : Type 0 where
  of_cosim : (c : Cosim) → IsCosim words c → IsCosimWork c files status lines → IsComparisonAnswer words files status lines
  of_soak : (n : ℕ) → IsSoak words n → IsSoakWork n status lines → IsComparisonAnswer words files status lines
