-- Verdicts, without where their lists lie in memory.
use Rattle.std.specs.Prelude.{ℕ, ℤ, List, map, Option, Result, Ok, Err}
use Rattle.hls_base.specs.declared.place.Place.{Place}
use Rattle.hls_base.specs.declared.refusal.Refusal.{Refusal}
use Rattle.hls_base.specs.declared.refusal.UbRule.{UbRule}
use Rattle.cosim_levels.specs.declared.verdict.Shown.{Shown}
use Rattle.cosim_levels.specs.declared.verdict.Level.{Level}
use Rattle.cosim_levels.specs.declared.verdict.Difference.{Difference}
use Rattle.cosim_levels.specs.declared.verdict.Verdict.{Verdict}
use Rattle.cosim_levels.specs.declared.verdict.Verdict.TheVariants as v
use Rattle.cosim_levels.specs.declared.verdict.Stop.{Stop}
use Rattle.cosim_levels.specs.declared.verdict.Stop.TheVariants as stop

-- an array parameter and its elements, row by row
pub record ShownArray : Type 0 where
  pub name : List ℕ
  pub values : List ℤ

-- what a comparison comes to: the two levels agree, they differ in a number, a level did not end within its limit, a file is refused, or the run in C has no meaning
pub data PlainVerdict : Type 0 where
  agree : (result : Option ℤ) (arrays : List ShownArray) (cycles clock : ℕ) → PlainVerdict
  differ : (difference : Difference) → PlainVerdict
  waiting : (level : Level) (limit : ℕ) → PlainVerdict
  run_line : (line : ℕ) → PlainVerdict
  module_bad : (refusal : Refusal) → PlainVerdict
  report_bad : (refusal : Refusal) → PlainVerdict
  undefined : (rule : UbRule) (at : Place) → PlainVerdict

abbrev pub shown_of : Shown → ShownArray
shown_of s = record { name = s.name; values = s.values.items }

abbrev pub verdict_of : Verdict → PlainVerdict
verdict_of (v.Agree ret arrays cycles clock) = agree ret (map shown_of arrays.items) cycles clock
verdict_of (v.Differ item expected found) = differ (record { item = item; expected = expected; found = found })
verdict_of (v.Waiting level limit) = waiting level limit
verdict_of (v.RunLine line) = run_line line
verdict_of (v.ModuleBad refusal) = module_bad refusal
verdict_of (v.ReportBad refusal) = report_bad refusal
verdict_of (v.Undefined rule at) = undefined rule at

-- what holds of the verdict where the work has come to one already
abbrev pub IfStopped : {A : Type 0} → Result A Stop → (PlainVerdict → Type 0) → Type 0
IfStopped (Ok x) P = Unit {0}
IfStopped (Err (stop.Answer verdict)) P = P (verdict_of verdict)
IfStopped (Err stop.Memory) P = Unit {0}
