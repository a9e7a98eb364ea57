-- The stores of one cycle of a circuit are apart.
use Rattle.std.proofs.Common.{◌≡◌, ℕ, sym, subst}
use Rattle.std.specs.Prelude.{slice_get}
use Rattle.hls_base.specs.declared.number.ArrayId.{ArrayId}
use Rattle.ir_core.specs.declared.cfg.Cfg.{Cfg}
use Rattle.ir_core.specs.declared.stamp.Untimed.{Untimed}
use Rattle.ir_core.specs.declared.timed.Timed.{Timed}
use Rattle.ir_core.specs.Bodies.{Words}
use Rattle.clock_ir.specs.Flows.{TimedOp, Flow}
use Rattle.clock_ir.specs.ClockRuns.{TimedProgram, inside, timed_program, clock_run}
use Rattle.clock_ir.specs.WellTimed.{IsWellTimed}
use Rattle.clock_runs.specs.Premises.{IsSoundProgram}
use Rattle.datapath.specs.Plans.{Plan, body_at, body_if}
use Rattle.circuit_agreement.specs.CircuitFlow.Flows.{Stores, StoresAreApart}
use Rattle.circuit_agreement.proofs.Nodes.{program}
use Rattle.circuit_agreement.specs.ApartStores.Apart.{HasMeaning, StoresNow, AreStoresApart}
use Rattle.circuit_agreement.specs.ApartStores.{CompiledStoresStayApart}
use Rattle.circuit_agreement.proofs.ApartStores.Programs.{apart_at}

stores_now : (p : Plan) (i : ℕ) (f : Flow) (array : ArrayId) (it : TimedOp) → Stores p i f array it → StoresNow (body_at p i) f array it
stores_now p i f array it h = record { kind = h.kind; array_ = h.array_; starts_ = h.starts_; allowed = h.allowed }

apart_in_plan : (p : Plan) (i : ℕ) (f : Flow) → AreStoresApart p.program.shapes (body_at p i) f → StoresAreApart p i f
apart_in_plan p i f h k n one other array there_k there_n differ a b =
    h k n one other array there_k there_n differ (stores_now p i f array one a) (stores_now p i f array other b)

-- for any plan with the program
pub planned : (p : Plan) (cfg : Cfg Untimed) (timed : Cfg Timed) → p.program ≡ timed_program timed → IsSoundProgram cfg → IsWellTimed cfg timed → (t : Words) → HasMeaning cfg t
    → (m i : ℕ) (f : Flow) → clock_run p.program t m ≡ inside i f → StoresAreApart p i f
planned p cfg timed is sound well t means m i f at =
    apart_in_plan p i f (subst (λ (q : TimedProgram). clock_run q t m ≡ inside i f → AreStoresApart q.shapes (body_if (slice_get q.nodes i)) f) (sym is) (apart_at cfg timed sound well t means m i f) at)

pub compiled : CompiledStoresStayApart
compiled p c t means = planned p c.untimed c.timed (program p c) c.sound c.well_timed t means
