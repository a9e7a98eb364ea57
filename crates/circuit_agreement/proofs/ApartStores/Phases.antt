-- Stores that are apart, phase by phase.
use Rattle.std.proofs.Common.{◌≡◌, ℕ, ◌<◌, length, Option, Some, sym, subst}
use Rattle.std.specs.Prelude.{slice_get}
use Rattle.ir_core.specs.declared.cfg.Node.{Node}
use Rattle.ir_core.specs.declared.stamp.Untimed.{Untimed}
use Rattle.ir_core.specs.declared.timed.Timed.{Timed}
use Rattle.hls_base.specs.Steps.{went, waiting}
use Rattle.ir_core.specs.Bodies.{Words}
use Rattle.ir_core.specs.FlatRuns.{Going, node_run}
use Rattle.clock_ir.specs.Flows.{Flow}
use Rattle.clock_ir.specs.ClockRuns.{TimedNode, TimedProgram, Phase, starting, loading, inside, ended, enter}
use Rattle.clock_runs.specs.Laws.{node_cycles}
use Rattle.clock_runs.proofs.Paths.{run_from}
use Rattle.datapath.specs.Plans.{body_of, body_if}
use Rattle.circuit_agreement.specs.ApartStores.Apart.{AreStoresApart}

-- in a cycle of a node its stores are apart
abbrev pub ApartIn : TimedProgram → Phase → Type 0
ApartIn p (starting t) = Unit {0}
ApartIn p (loading i t) = Unit {0}
ApartIn p (inside i f) = AreStoresApart p.shapes (body_if (slice_get p.nodes i)) f
ApartIn p (ended word words) = Unit {0}

pub apart_inside : (p : TimedProgram) (i : ℕ) (it : TimedNode) (f : Flow) (c : Phase) → slice_get p.nodes i ≡ Some it → c ≡ inside i f → AreStoresApart p.shapes (body_of it) f → ApartIn p c
apart_inside p i it f c here at h =
    subst (ApartIn p) (sym at) (subst (λ (o : Option TimedNode). AreStoresApart p.shapes (body_if o) f) (sym here) h)

-- From the phase in which a node is entered: up to its end, where it ends, and for n cycles, where it goes on behind n points.
pub record NodeApart (p : TimedProgram) (i : ℕ) (it : Node Untimed) (timed : Node Timed) (t : Words) (n : ℕ) : Type 0 where
  pub ends : (g : Going) (t1 : Words) (n1 : ℕ) → (node_run p.shapes it t n).outcome ≡ went g t1 n1
      → (m : ℕ) → m < node_cycles (Some timed) (length (node_run p.shapes it t n).trace) → ApartIn p (run_from p (enter p.nodes i t) m)
  pub waits : (node_run p.shapes it t n).outcome ≡ waiting → (m : ℕ) → m < n → ApartIn p (run_from p (enter p.nodes i t) m)
