-- What the levels of a program come to.
use Rattle.std.specs.Prelude.{◌≡◌, ℕ, List, None}
use Rattle.hls_base.specs.FileScope.{FileScope}
use Rattle.hls_base.specs.declared.point.Point.{Point}
use Rattle.c_meaning.specs.declared.outcome.Final.{Final}
use Rattle.c_meaning.specs.Points.{tally_of}
use Rattle.c_meaning.specs.Run as run
use Rattle.c_meaning.specs.Run.{Answer}
use Rattle.rtl_core.specs.Netlist.{Netlist}
use Rattle.rtl_core.specs.Interface.{Interface}
use Rattle.cosim_levels.specs.Pins.ModuleRun.{module_run}
use Rattle.cosim_levels.specs.declared.verdict.Level.TheVariants.{C, Verilog}
use Rattle.cosim_levels.specs.Verdicts.{PlainVerdict, undefined, waiting}

-- the run ended with this result, these elements, and so many passings of each point
pub record EndsWith (answer : Answer) (final : Final) : Type 0 where
  pub kept : FileScope
  pub trace : List Point
  pub is : answer ≡ run.ended final.ret final.arrays kept trace
  pub tally : final.tally ≡ tally_of trace

-- the verdict on a run in C that does not end within so many points, or has no meaning
abbrev pub IsUnended : Answer → ℕ → PlainVerdict → Type 0
IsUnended (run.ended result arrays kept trace) points verdict = ⊥
IsUnended (run.undefined rule at) points verdict = verdict ≡ undefined rule at
IsUnended run.running points verdict = verdict ≡ waiting C points

-- the verdict on a module that does not end within so many cycles
pub record IsWaiting (d : Netlist) (i : Interface) (scalars : List ℕ) (arrays : List (List ℕ)) (cycles : ℕ) (verdict : PlainVerdict) : Type 0 where
  pub waits : module_run d i scalars arrays cycles ≡ None
  pub is : verdict ≡ waiting Verilog cycles
