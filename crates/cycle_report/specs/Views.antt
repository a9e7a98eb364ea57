-- What the reader's own types stand for, and what it answers on the whole.
use Rattle.std.specs.Prelude.{ℕ, ◌≡◌, List, ◌++◌, Result, Ok, Err}
use Rattle.cycle_report.specs.declared.cursor.Stop.{Stop}
use Rattle.cycle_report.specs.declared.cursor.Stop.TheVariants.{Refused, Memory}
use Rattle.cycle_report.specs.declared.read.UnitCounts.{UnitCounts}
use Rattle.cycle_report.specs.declared.report.Report.{Report}
use Rattle.cycle_report.specs.PlainReport.{PlainUnits, PlainReport, plain_of}
use Rattle.cycle_report.specs.ReportForm.{IsReport, BeginsReport}
use Rattle.cycle_report.specs.Reading.{SameNext}

abbrev pub units_of_counts : UnitCounts → PlainUnits
units_of_counts u = record { mul32 = u.mul32; mul64 = u.mul64; div32 = u.div32; div64 = u.div64 }

-- The bytes before the new ones begin a report, and with the next byte, or where they end, they are and begin none.
pub record StopsReport (old new : List ℕ) : Type 0 where
  pub front : List ℕ
  pub cut : old ≡ front ++ new
  pub goes : BeginsReport front
  pub stops : (r : PlainReport) (w : List ℕ) → IsReport (front ++ w) r → SameNext w new → ⊥

abbrev pub ReadsWhole : Result Report Stop → List ℕ → List ℕ → Type 0
ReadsWhole (Ok r) old new = IsReport old (plain_of r)
ReadsWhole (Err Refused) old new = StopsReport old new
ReadsWhole (Err Memory) old new = Unit {0}
