-- The sorts of texts of which a report is made.
use Rattle.std.specs.Prelude.{ℕ, ◌≡◌, ◌<◌, ◌≤◌, ◌^◌, Bool, false, ◌||◌, ◌==◌, List, ◌++◌, codes}
use Rattle.std.specs.List.{All}
use Rattle.hls_base.specs.declared.place.Place.{Place}
use Rattle.hls_base.specs.declared.point.PointKind.{PointKind}
use Rattle.hls_base.specs.declared.point.PointKind.TheVariants.{Body}
use Rattle.hls_base.specs.declared.settings.Settings.{Settings}
use Rattle.hls_base.specs.PlaceText.{place_text, part_text}
use Rattle.cycle_report.specs.declared.report.Cost.{Cost}
use Rattle.cycle_report.specs.declared.report.Edge4.{Edge4}
use Rattle.cycle_report.specs.declared.report.MemoryRow.{MemoryRow}
use Rattle.cycle_report.specs.PlainReport.{PlainLoop, PlainUnits, PlainReport}
use Rattle.cycle_report.specs.ReportText as text
use Rattle.cycle_report.specs.ReportForm.{is_digit, IsName, IsSettings, FitsPlace, FitsCost, FitsEdge, FitsLoop, FitsUnits, FitsMemory, HasForm, FitsTypes}
use Rattle.cycle_report.specs.Reading.{Texts, any_byte}

abbrev pub in_place : ℕ → Bool
in_place c = (c == 46) || is_digit c

abbrev pub in_path : ℕ → Bool
in_path c = (c == 44) || in_place c

abbrev pub kind : Texts PointKind
kind = record { Is = λ k. Unit {0}; text = text.kind_text; never = any_byte }

abbrev pub part : Texts ℕ
part = record { Is = λ n. n < 2 ^ 32; text = part_text; never = in_place }

abbrev pub place : Texts Place
place = record { Is = FitsPlace; text = place_text; never = in_place }

-- a place of a path behind the first one
abbrev pub further : Texts Place
further = record { Is = FitsPlace; text = λ p. codes "," ++ place_text p; never = in_place }

abbrev pub path : Texts (List Place)
path = record { Is = All FitsPlace; text = text.path_text; never = in_path }

-- a place and the calls that lead to it
abbrev pub site : Texts (Place × List Place)
site = record { Is = λ p. FitsPlace p.0 × All FitsPlace p.1; text = λ p. place_text p.0 ++ (codes " " ++ text.path_text p.1); never = in_path }

abbrev pub plain : Texts Bool
plain = record { Is = λ b. Unit {0}; text = λ b. codes " plain " ++ text.flag_text b; never = is_digit }

abbrev pub period : Texts ℕ
period = record { Is = λ n. n ≤ 1000; text = text.some_number (codes " period "); never = λ c. (c == 32) || is_digit c }

-- the lines before `init`: the settings, and the base
abbrev pub head : Texts (Settings × ℕ)
head = record { Is = λ h. IsSettings h.0 × (h.1 < 2 ^ 64); text = λ h. text.head_lines h.0 h.1; never = any_byte }

abbrev pub init : Texts ℕ
init = record { Is = λ n. n < 2 ^ 32; text = text.init_line; never = λ c. c == 105 }

abbrev pub cost : Texts Cost
cost = record { Is = FitsCost; text = text.cost_line; never = any_byte }

abbrev pub edge : Texts Edge4
edge = record { Is = FitsEdge; text = text.edge_line; never = any_byte }

-- a loop line and the edge lines behind it
abbrev pub loop : Texts PlainLoop
loop = record { Is = λ l. (l.point.kind ≡ Body) × FitsLoop l; text = text.loop_lines; never = λ c. (c == 101) || false }

abbrev pub units : Texts PlainUnits
units = record { Is = FitsUnits; text = text.units_line; never = any_byte }

abbrev pub memory : Texts MemoryRow
memory = record { Is = λ m. IsName m.name × FitsMemory m; text = text.memory_line; never = any_byte }

abbrev pub last : Texts ℕ
last = record { Is = λ n. n < 2 ^ 64; text = text.last_lines; never = any_byte }

abbrev pub report : Texts PlainReport
report = record { Is = λ r. HasForm r × FitsTypes r; text = text.report_text; never = any_byte }
