-- What follows from the definitions at once.
pub mod Reads
pub mod Flows
pub mod Compiled
pub mod LoopGates
pub mod NodeEnds
pub mod HeldResults
use Rattle.std.specs.Prelude.{◌≡◌, ℕ, ◌≤◌, slice_get, Some}
use Rattle.datapath.specs.Plans.{Plan, body_at, span}
use Rattle.circuit_agreement.specs.CircuitFlow.Compiled.{IsCompiled}
use Rattle.clock_ir.specs.ClockRuns.{TimedNode}

-- the iterations of a compiled program begin some cycles apart, and its blocks take some cycles
abbrev pub IntervalsArePositive : Type 0
IntervalsArePositive = (p : Plan) (i : ℕ) (n : TimedNode) → IsCompiled p → slice_get p.program.nodes i ≡ Some n → (1 ≤ (body_at p i).interval) × (span p i ≡ (body_at p i).interval)
