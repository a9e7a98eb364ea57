-- Which reports have a text, and which bytes are a report's.
use Rattle.std.specs.Prelude.{ℕ, ◌+◌, ◌^◌, ◌<◌, ◌≤◌, ◌≡◌, Bool, false, ◌&&◌, ◌||◌, ◌==◌, nat_le, IsTrue, List, [], ◌∷◌, ◌++◌, length, take, ◌⊎◌}
use Rattle.std.specs.List.{All, list_all}
use Rattle.hls_base.specs.declared.place.Place.{Place}
use Rattle.hls_base.specs.declared.point.Point.{Point}
use Rattle.hls_base.specs.declared.point.PointKind.TheVariants.{Body}
use Rattle.hls_base.specs.declared.refusal.Refusal.{Refusal}
use Rattle.hls_base.specs.TextPlaces.{place_after, text_start}
use Rattle.hls_base.specs.declared.settings.Settings.{Settings}
use Rattle.cycle_report.specs.declared.report.Cost.{Cost}
use Rattle.cycle_report.specs.declared.report.Edge4.{Edge4}
use Rattle.cycle_report.specs.declared.report.MemoryRow.{MemoryRow}
use Rattle.cycle_report.specs.PlainReport.{PlainLoop, PlainUnits, PlainReport}
use Rattle.cycle_report.specs.ReportText.{report_text}

abbrev pub is_digit : ℕ → Bool
is_digit c = nat_le 48 c && nat_le c 57

-- a letter or `_`
abbrev pub is_letter : ℕ → Bool
is_letter c = (nat_le 65 c && nat_le c 90) || ((nat_le 97 c && nat_le c 122) || (c == 95))

abbrev pub is_word_byte : ℕ → Bool
is_word_byte c = is_letter c || is_digit c

-- an identifier or keyword of C (6.4.2.1) of at most 64 characters
abbrev pub is_name : List ℕ → Bool
is_name [] = false
is_name (c ∷ cs) = is_letter c && (list_all is_word_byte cs && nat_le (length cs) 63)

abbrev pub IsName : List ℕ → Type 0
IsName name = IsTrue (is_name name)

pub record IsSettings (s : Settings) : Type 0 where
  pub top : IsName s.top
  pub mul_low : 1 ≤ s.mul
  pub mul_high : s.mul ≤ 8
  pub div_low : 1 ≤ s.div
  pub div_high : s.div ≤ 4
  pub ports_low : 1 ≤ s.ports
  pub ports_high : s.ports ≤ 2
  pub period_high : s.period ≤ 1000

-- what a report's text can say, besides that each number is one of its field's type
pub record HasForm (r : PlainReport) : Type 0 where
  pub settings : IsSettings r.settings
  pub loops : All (λ l. l.point.kind ≡ Body) r.loops
  pub memories : All (λ m. IsName m.name) r.memories

pub record FitsPlace (p : Place) : Type 0 where
  pub line : p.line < 2 ^ 32
  pub column : p.column < 2 ^ 32
  pub part : p.part < 2 ^ 32

pub record FitsPoint (p : Point) : Type 0 where
  pub at : FitsPlace p.at
  pub path : All FitsPlace p.path

pub record FitsCost (c : Cost) : Type 0 where
  pub point : FitsPoint c.point
  pub cost : c.cost < 2 ^ 64

pub record FitsEdge (e : Edge4) : Type 0 where
  pub from : e.from < 2 ^ 32
  pub to : e.to < 2 ^ 32
  pub latency : e.latency < 2 ^ 32
  pub distance : e.distance < 2 ^ 32

pub record FitsLoop (l : PlainLoop) : Type 0 where
  pub point : FitsPoint l.point
  pub ii : l.ii < 2 ^ 32
  pub exit : l.exit < 2 ^ 32
  pub cycle : All FitsEdge l.cycle

pub record FitsUnits (u : PlainUnits) : Type 0 where
  pub mul32 : u.mul32 < 2 ^ 32
  pub mul64 : u.mul64 < 2 ^ 32
  pub div32 : u.div32 < 2 ^ 32
  pub div64 : u.div64 < 2 ^ 32

pub record FitsMemory (m : MemoryRow) : Type 0 where
  pub bits : m.bits < 2 ^ 8
  pub depth : m.depth < 2 ^ 32
  pub ports : m.ports < 2 ^ 8

-- each number is one of its field's type
pub record FitsTypes (r : PlainReport) : Type 0 where
  pub base : r.base < 2 ^ 64
  pub init : r.init < 2 ^ 32
  pub rows : All FitsCost r.rows
  pub loops : All FitsLoop r.loops
  pub units : FitsUnits r.units
  pub memories : All FitsMemory r.memories
  pub registers : r.registers < 2 ^ 64

-- the bytes are the text of this report
pub record IsReport (bytes : List ℕ) (r : PlainReport) : Type 0 where
  pub form : HasForm r
  pub fits : FitsTypes r
  pub text : bytes ≡ report_text r

-- some report goes on behind these bytes, or ends with them
pub record BeginsReport (front : List ℕ) : Type 0 where
  pub report : PlainReport
  pub rest : List ℕ
  pub is : IsReport (front ++ rest) report

-- the first byte, by its index, at which no report goes on; the length, where the bytes end too early
pub record IsFirstBadByte (bytes : List ℕ) (k : ℕ) : Type 0 where
  pub inside : k ≤ length bytes
  pub before : BeginsReport (take k bytes)
  pub at_byte : k < length bytes → BeginsReport (take (k + 1) bytes) → ⊥
  pub at_end : (r : PlainReport) → k ≡ length bytes → IsReport bytes r → ⊥

abbrev pub largest_report : ℕ
largest_report = 16777216

-- why bytes are refused, under rule 60: they are too many, or no report is so written
abbrev pub IsRefusedAs : List ℕ → Refusal → Type 0
IsRefusedAs bytes why = (why.rule ≡ 60) × (
    ((largest_report < length bytes) × (why.place ≡ text_start))
    ⊎ ((length bytes ≤ largest_report) × ((k : ℕ) × IsFirstBadByte bytes k × (why.place ≡ place_after text_start (take k bytes)))))
