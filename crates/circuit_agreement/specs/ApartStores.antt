-- In runs that have a meaning, the stores of one cycle change different words.
pub mod Apart
use Rattle.std.specs.Prelude.{◌≡◌, ℕ, slice_get}
use Rattle.ir_core.specs.declared.cfg.Cfg.{Cfg}
use Rattle.ir_core.specs.declared.stamp.Untimed.{Untimed}
use Rattle.ir_core.specs.declared.timed.Timed.{Timed}
use Rattle.ir_core.specs.Bodies.{Words}
use Rattle.clock_ir.specs.Flows.{Flow}
use Rattle.clock_ir.specs.ClockRuns.{inside, timed_program, clock_run}
use Rattle.clock_ir.specs.WellTimed.{IsWellTimed}
use Rattle.clock_runs.specs.Premises.{IsSoundProgram}
use Rattle.datapath.specs.Plans.{Plan, body_if}
use Rattle.circuit_agreement.specs.CircuitFlow.Flows.{StoresAreApart}
use Rattle.circuit_agreement.specs.CircuitFlow.Compiled.{IsCompiled}
use Rattle.circuit_agreement.specs.ApartStores.Apart.{HasMeaning, AreStoresApart}

-- so it is in each cycle of a block or loop of a well timed program
abbrev pub StoresStayApart : Type 0
StoresStayApart = (cfg : Cfg Untimed) (timed : Cfg Timed) → IsSoundProgram cfg → IsWellTimed cfg timed → (t : Words) → HasMeaning cfg t
    → (m i : ℕ) (f : Flow) → clock_run (timed_program timed) t m ≡ inside i f → AreStoresApart (timed_program timed).shapes (body_if (slice_get (timed_program timed).nodes i)) f

-- and so for the circuit of a compiled program
abbrev pub CompiledStoresStayApart : Type 0
CompiledStoresStayApart = (p : Plan) (c : IsCompiled p) (t : Words) → HasMeaning c.untimed t → (m i : ℕ) (f : Flow) → clock_run p.program t m ≡ inside i f → StoresAreApart p i f
