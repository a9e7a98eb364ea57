-- The text of a report, line by line.
use Rattle.std.specs.Prelude.{ℕ, zero, suc, Bool, true, false, List, [], ◌∷◌, ◌++◌, codes}
use Rattle.std.specs.Fmt.{decimal}
use Rattle.hls_base.specs.declared.place.Place.{Place}
use Rattle.hls_base.specs.declared.point.PointKind.{PointKind}
use Rattle.hls_base.specs.declared.point.PointKind.TheVariants as kind
use Rattle.hls_base.specs.declared.settings.Settings.{Settings}
use Rattle.hls_base.specs.PlaceText.{place_text}
use Rattle.cycle_report.specs.declared.report.Cost.{Cost}
use Rattle.cycle_report.specs.declared.report.Edge4.{Edge4}
use Rattle.cycle_report.specs.declared.report.MemoryRow.{MemoryRow}
use Rattle.cycle_report.specs.PlainReport.{PlainLoop, PlainUnits, PlainReport}

-- words with one space between them, and the end of the line
abbrev pub line : List (List ℕ) → List ℕ
line [] = codes "\n"
line (word ∷ []) = word ++ codes "\n"
line (word ∷ words) = word ++ (codes " " ++ line words)

-- one text after another
abbrev pub lines_of : {A : Type 0} → (A → List ℕ) → List A → List ℕ
lines_of text [] = []
lines_of text (row ∷ rows) = text row ++ lines_of text rows

abbrev pub kind_text : PointKind → List ℕ
kind_text kind.Begin = codes "begin"
kind_text kind.Test = codes "test"
kind_text kind.Body = codes "body"
kind_text kind.Step = codes "step"
kind_text kind.End = codes "end"
kind_text kind.Arm = codes "arm"

-- the places with commas between them, and `-` for none
abbrev pub path_text : List Place → List ℕ
path_text [] = codes "-"
path_text (place ∷ places) = place_text place ++ lines_of (λ p. codes "," ++ place_text p) places

abbrev pub flag_text : Bool → List ℕ
flag_text false = codes "0"
flag_text true = codes "1"

-- the words and the number, and nothing for 0
abbrev pub some_number : List ℕ → ℕ → List ℕ
some_number words zero = []
some_number words (suc n) = words ++ decimal (suc n)

-- the words of the period, where there is one
abbrev pub period_words : ℕ → List (List ℕ)
period_words zero = []
period_words (suc p) = codes "period" ∷ decimal (suc p) ∷ []

abbrev pub settings_line : Settings → List ℕ
settings_line s = line (codes "settings"
    ∷ codes "mul" ∷ decimal s.mul ∷ codes "div" ∷ decimal s.div ∷ codes "ports" ∷ decimal s.ports
    ∷ codes "plain" ∷ flag_text s.plain ∷ period_words s.period)

-- no line where the initial sequence is empty
abbrev pub init_line : ℕ → List ℕ
init_line zero = []
init_line (suc i) = line (codes "init" ∷ decimal (suc i) ∷ [])

abbrev pub cost_line : Cost → List ℕ
cost_line c = line (codes "cost" ∷ decimal c.cost
    ∷ kind_text c.point.kind ∷ place_text c.point.at ∷ path_text c.point.path ∷ [])

abbrev pub edge_line : Edge4 → List ℕ
edge_line e = line (codes "edge" ∷ decimal e.from ∷ decimal e.to ∷ decimal e.latency ∷ decimal e.distance ∷ [])

-- the point of a loop is its body's, so its kind is not written
abbrev pub loop_lines : PlainLoop → List ℕ
loop_lines l =
    line (codes "loop" ∷ place_text l.point.at ∷ path_text l.point.path ∷ codes "ii" ∷ decimal l.ii ∷ codes "exit" ∷ decimal l.exit ∷ [])
    ++ lines_of edge_line l.cycle

abbrev pub units_line : PlainUnits → List ℕ
units_line u = line (codes "units"
    ∷ codes "mul32" ∷ decimal u.mul32 ∷ codes "mul64" ∷ decimal u.mul64
    ∷ codes "div32" ∷ decimal u.div32 ∷ codes "div64" ∷ decimal u.div64 ∷ [])

abbrev pub memory_line : MemoryRow → List ℕ
memory_line m = line (codes "memory" ∷ m.name
    ∷ codes "bits" ∷ decimal m.bits ∷ codes "depth" ∷ decimal m.depth ∷ codes "ports" ∷ decimal m.ports ∷ [])

-- the lines before the costs
abbrev pub head_lines : Settings → ℕ → List ℕ
head_lines s base =
    line (codes "hls-report" ∷ codes "1" ∷ [])
    ++ (line (codes "top" ∷ s.top ∷ []) ++ (settings_line s ++ line (codes "base" ∷ decimal base ∷ [])))

-- the lines after the memories
abbrev pub last_lines : ℕ → List ℕ
last_lines registers = line (codes "registers" ∷ decimal registers ∷ []) ++ line (codes "end" ∷ [])

abbrev pub report_text : PlainReport → List ℕ
report_text r =
    head_lines r.settings r.base
    ++ (init_line r.init
    ++ (lines_of cost_line r.rows
    ++ (lines_of loop_lines r.loops
    ++ (units_line r.units
    ++ (lines_of memory_line r.memories
    ++ last_lines r.registers)))))
