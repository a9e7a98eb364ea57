-- Two reports and their texts, and the cycles that a formula gives.
use Rattle.std.specs.Prelude.{ℕ, ◌≡◌, false, [], ◌∷◌, codes, refl}
use Rattle.std.specs.Fmt.{digits}
use Rattle.hls_base.specs.declared.point.Point.{Point}
use Rattle.hls_base.specs.declared.point.PointKind.{PointKind}
use Rattle.hls_base.specs.declared.point.PointKind.TheVariants as kind
use Rattle.hls_base.specs.declared.settings.Settings.{Settings}
use Rattle.cycle_report.specs.PlainReport.{PlainUnits, PlainReport}
use Rattle.cycle_report.specs.ReportText.{report_text}
use Rattle.cycle_report.specs.FormulaValue.{cycles}

abbrev defaults : Settings
defaults = record { top = codes "f"; mul = 1; div = 1; ports = 1; plain = false; period = 0 }

abbrev no_units : PlainUnits
no_units = record { mul32 = 0; mul64 = 0; div32 = 0; div64 = 0 }

abbrev point_at : ℕ → PointKind → Point
point_at column k = record { path = []; at = record { line = 1; column = column; part = 0 }; kind = k }

-- `unsigned f(unsigned a,unsigned b){return a+b;}`
abbrev sum_report : PlainReport
sum_report = record {
  settings = defaults;
  base = 1;
  init = 0;
  rows = record { point = point_at 10 kind.Begin; cost = 2 } ∷ [];
  loops = [];
  units = no_units;
  memories = [];
  registers = 7;
}

pub sum_text : report_text sum_report ≡ codes "hls-report 1\ntop f\nsettings mul 1 div 1 ports 1 plain 0\nbase 1\ncost 2 begin 1:10 -\nunits mul32 0 mul64 0 div32 0 div64 0\nregisters 7\nend\n"
unfolding digits
sum_text = refl

-- `int f(int n){int s=0; for(int i=0;i<n;i++) s=s+i; return s;}`
abbrev loop_report : PlainReport
loop_report = record {
  settings = defaults;
  base = 1;
  init = 0;
  rows = record { point = point_at 5 kind.Begin; cost = 1 }
      ∷ record { point = point_at 23 kind.Body; cost = 1 }
      ∷ record { point = point_at 23 kind.End; cost = 4 } ∷ [];
  loops = record { point = point_at 23 kind.Body; ii = 1; exit = 1; cycle = [] } ∷ [];
  units = no_units;
  memories = [];
  registers = 12;
}

pub loop_text : report_text loop_report ≡ codes "hls-report 1\ntop f\nsettings mul 1 div 1 ports 1 plain 0\nbase 1\ncost 1 begin 1:5 -\ncost 1 body 1:23 -\ncost 4 end 1:23 -\nloop 1:23 - ii 1 exit 1\nunits mul32 0 mul64 0 div32 0 div64 0\nregisters 12\nend\n"
unfolding digits
loop_text = refl

pub sum_cycles : cycles 1 sum_report.rows ((point_at 10 kind.Begin, 1) ∷ []) ≡ 3
sum_cycles = refl

-- ten iterations
pub loop_cycles : cycles 1 loop_report.rows ((point_at 5 kind.Begin, 1) ∷ (point_at 23 kind.Test, 11) ∷ (point_at 23 kind.Body, 10) ∷ (point_at 23 kind.End, 1) ∷ []) ≡ 16
loop_cycles = refl
