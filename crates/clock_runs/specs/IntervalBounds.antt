-- A feasible interval of a loop, and how great the least one may be.
pub mod Bounds
pub mod Forward
use Rattle.std.specs.Prelude.{◌≡◌, ℕ, ◌+◌, ◌<◌, ◌≤◌, max, List, length, slice_get, Some}
use Rattle.std.specs.List.{All}
use Rattle.hls_base.specs.declared.settings.Units.{Units}
use Rattle.ir_core.specs.declared.cfg.Cfg.{Cfg}
use Rattle.ir_core.specs.declared.cfg.Loop.{Loop}
use Rattle.ir_core.specs.declared.cfg.Memory.{Memory}
use Rattle.ir_core.specs.declared.cfg.Node.TheVariants as node
use Rattle.ir_core.specs.declared.stamp.Untimed.{Untimed}
use Rattle.ir_core.specs.declared.timed.Timed.{Timed}
use Rattle.dep_graph.specs.declared.edge.Edge.{Edge}
use Rattle.dep_graph.specs.Dependences.{edges_of}
use Rattle.diff_solve.specs.Times.{Solves}
use Rattle.unit_binding.specs.declared.binding.Binding.{Binding}
use Rattle.unit_binding.specs.Binding.{IsBoundBy}
use Rattle.modulo_loop.specs.declared.pipeline.Pipelined.{Pipelined}
use Rattle.modulo_loop.specs.Rules.{loop_rules, constraints_at}
use Rattle.modulo_loop.specs.Lowest.{IsTooTight, HasLeastInterval, total_latency, total_distance}
use Rattle.cycle_report.specs.PlainReport.{PlainLoop}
use Rattle.report_rows.specs.Timing.{request_order, AreTimedAs}
use Rattle.ir_core.specs.Bodies.{Shapes}
use Rattle.clock_runs.specs.Premises.{IsSoundLoop, IsSoundProgram}
use Rattle.clock_runs.specs.IntervalBounds.Forward.{LeadsForward, GoForward, NameNodesBelow}
use Rattle.clock_runs.specs.IntervalBounds.Bounds.{all_latencies}

-- ---- any rules

-- Rules that go forward are met at each interval that is at least the sum of their latencies, by times of which none is above this sum.
abbrev pub ForwardRulesHaveAnInterval : Type 0
ForwardRulesHaveAnInterval = (nodes : ℕ) (rules : List Edge) (ii : ℕ) → NameNodesBelow nodes rules → GoForward rules → total_latency rules ≤ ii
    → (times : List ℕ) × (Solves nodes (constraints_at ii rules) times × All (λ time. time ≤ total_latency rules) times)

-- Rules go forward that lead to a node of greater number within an iteration.
abbrev pub RulesToLaterNodesGoForward : Type 0
RulesToLaterNodesGoForward = (rules : List Edge) → All (LeadsForward (λ number. number)) rules → GoForward rules

-- Where a cycle of rules that go forward is too tight for an interval, this is below the sum of all their latencies.
abbrev pub TooTightIntervalsAreLow : Type 0
TooTightIntervalsAreLow = (rules : List Edge) (ii : ℕ) (cycle : List Edge) → GoForward rules → IsTooTight rules ii cycle → ii < total_latency rules

-- Such a cycle leads to a later iteration, so a great enough interval gives what it asks for.
abbrev pub TooTightCyclesLeadOn : Type 0
TooTightCyclesLeadOn = (rules : List Edge) (ii : ℕ) (cycle : List Edge) → GoForward rules → IsTooTight rules ii cycle → 0 < total_distance cycle

-- The least interval of a loop whose rules go forward is 1, or at most the sum of their latencies.
abbrev pub LeastIntervalsAreBounded : Type 0
LeastIntervalsAreBounded = (region : Loop Untimed) (edges : List Edge) (binding : Binding) (made : Pipelined) → HasLeastInterval region edges binding made
    → GoForward (loop_rules region.body edges binding.orders.items) → made.region.ii ≤ max 1 (total_latency (loop_rules region.body edges binding.orders.items))

-- ---- the rules of sound loops

-- The rules of a sound loop go forward, with its edges and the orders of its units.
abbrev pub SoundLoopsGoForward : Type 0
SoundLoopsGoForward = (shapes : Shapes) (memories : List Memory) (units : Units) (region : Loop Untimed) (binding : Binding) → IsSoundLoop shapes region
    → IsBoundBy request_order region.body memories (edges_of region.body) units binding → GoForward (loop_rules region.body (edges_of region.body) binding.orders.items)

-- Such a loop has times at each interval that is at least the sum of all latencies of its body.
abbrev pub SoundLoopsHaveAnInterval : Type 0
SoundLoopsHaveAnInterval = (shapes : Shapes) (memories : List Memory) (units : Units) (region : Loop Untimed) (binding : Binding) (ii : ℕ) → IsSoundLoop shapes region
    → IsBoundBy request_order region.body memories (edges_of region.body) units binding → all_latencies memories region.body ≤ ii
    → (times : List ℕ) × (Solves (length region.body.ops.items + 1) (constraints_at ii (loop_rules region.body (edges_of region.body) binding.orders.items)) times
    × All (λ time. time ≤ all_latencies memories region.body) times)

-- In a sound program with its times each loop has an interval of 1, or at most this sum.
abbrev pub SoundIntervalsAreBounded : Type 0
SoundIntervalsAreBounded = (units : Units) (cfg : Cfg Untimed) (timed : Cfg Timed) (rows : List PlainLoop) → AreTimedAs cfg.frame.memories.items units cfg.nodes.items timed.nodes.items rows → IsSoundProgram cfg
    → (i : ℕ) (region : Loop Untimed) (made : Loop Timed) → slice_get cfg.nodes.items i ≡ Some (node.Looped region) → slice_get timed.nodes.items i ≡ Some (node.Looped made)
    → made.ii ≤ max 1 (all_latencies cfg.frame.memories.items region.body)
