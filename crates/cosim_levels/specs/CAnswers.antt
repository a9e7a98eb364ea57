-- The answers to starts of a C function: what its run comes to, after the cycles that the report's formula gives.
use Rattle.std.specs.Prelude.{◌≡◌, ℕ, List, Option}
use Rattle.hls_base.specs.FileScope.{FileScope}
use Rattle.hls_base.specs.declared.place.Place.{Place}
use Rattle.hls_base.specs.declared.point.Point.{Point}
use Rattle.hls_base.specs.declared.refusal.UbRule.{UbRule}
use Rattle.c_tree.specs.Tree.{ProgramTree}
use Rattle.c_meaning.specs.Points.{tally_of}
use Rattle.c_meaning.specs.Run as c
use Rattle.c_meaning.specs.Run.{c_run}
use Rattle.rtl_core.specs.Box.{Answer, Answers, Ended, Undefined, Endless}
use Rattle.cycle_report.specs.PlainReport.{PlainReport}
use Rattle.cycle_report.specs.FormulaValue.{cycles}

-- The run of the program from the box's file-scope contents, arguments and arrays ends, and takes as many cycles as the report's formula gives for the points that it passes; or its behaviour is undefined; or it has no end.
pub data IsCAnswer (program : ProgramTree) (top : ℕ) (report : PlainReport) (kept : FileScope) (arguments : List ℕ) (arrays : List (List ℕ)) (answer : Answer) : Type 0 where
  ends : (points : ℕ) (result : Option ℕ) (elements : List (List ℕ)) (left : FileScope) (trace : List Point)
      → c_run program top kept arguments arrays points ≡ c.ended result elements left trace
      → answer ≡ Ended (cycles report.base report.rows (tally_of trace)) result elements left
      → IsCAnswer program top report kept arguments arrays answer
  is_undefined : (points : ℕ) (rule : UbRule) (at : Place) → c_run program top kept arguments arrays points ≡ c.undefined rule at → answer ≡ Undefined
      → IsCAnswer program top report kept arguments arrays answer
  is_endless : ((points : ℕ) → c_run program top kept arguments arrays points ≡ c.running) → answer ≡ Endless → IsCAnswer program top report kept arguments arrays answer

-- the answers to starts of the function that is the item of this number
abbrev pub c_answers : ProgramTree → ℕ → PlainReport → Answers
c_answers program top report kept arguments arrays answer = IsCAnswer program top report kept arguments arrays answer
