-- Cycle by cycle, a well timed program does what its blocks do one after another, in as many cycles as its report's formula counts.
use Rattle.std.specs.Prelude.{◌≡◌, ℕ, zero, suc, ◌+◌, ◌*◌, ◌<◌, List, length, slice_get, Option, Some, None}
use Rattle.ir_core.specs.declared.cfg.Cfg.{Cfg}
use Rattle.ir_core.specs.declared.cfg.Node.{Node}
use Rattle.ir_core.specs.declared.cfg.Node.TheVariants as node
use Rattle.ir_core.specs.declared.stamp.Untimed.{Untimed}
use Rattle.ir_core.specs.declared.timed.Timed.{Timed}
use Rattle.hls_base.specs.Steps.{Outcome, went, undefined, waiting, Ran}
use Rattle.ir_core.specs.Bodies.{Shapes, Words}
use Rattle.ir_core.specs.FlatRuns.{Going, to, ends, shapes_of, node_run, flat_run}
use Rattle.clock_ir.specs.ClockRuns.{Phase, starting, loading, inside, ended, timed_program, clock_run}
use Rattle.clock_ir.specs.WellTimed.{IsWellTimed}
use Rattle.clock_runs.specs.Premises.{IsSoundProgram}

-- ---- cycles

-- A block takes its length for its one point. A loop takes its interval for each iteration, each of which passes a point, and two cycles more than its exit in the end.
abbrev pub node_cycles : Option (Node Timed) → ℕ → ℕ
node_cycles None points = 0
node_cycles (Some (node.Plain block)) points = block.length * points
node_cycles (Some (node.Looped region)) points = region.ii * points + (region.exit + 2)

abbrev pub cycles_behind : (ℕ → Words → ℕ → ℕ) → Outcome Words Going → ℕ
cycles_behind rest (went (to i) t n) = rest i t n
cycles_behind rest (went (ends w) t n) = 0
cycles_behind rest (undefined rule at) = 0
cycles_behind rest waiting = 0

abbrev pub cycles_with : Option (Node Timed) → (ℕ → Words → ℕ → ℕ) → Ran Words Going → ℕ
cycles_with timed rest r = node_cycles timed (length r.trace) + cycles_behind rest r.outcome

abbrev pub cycles_at : Shapes → (ℕ → Words → ℕ → ℕ) → Option (Node Untimed) → Option (Node Timed) → Words → ℕ → ℕ
cycles_at shapes rest None timed t n = 0
cycles_at shapes rest (Some it) timed t n = cycles_with timed rest (node_run shapes it t n)

-- the cycles of the nodes that a run passes from this one on, visiting at most k
abbrev pub cycles_from : ℕ → Shapes → List (Node Untimed) → List (Node Timed) → ℕ → Words → ℕ → ℕ
cycles_from zero shapes nodes timed i t n = 0
cycles_from (suc k) shapes nodes timed i t n =
    cycles_at shapes (λ j t1 n1. cycles_from k shapes nodes timed j t1 n1) (slice_get nodes i) (slice_get timed i) t n

-- the cycles of a run that passes at most n points
abbrev pub run_cycles : Cfg Untimed → Cfg Timed → Words → ℕ → ℕ
run_cycles cfg timed t n = cycles_from (2 * n + 2) (shapes_of cfg.frame) cfg.nodes.items timed.nodes.items cfg.first.0 t n

-- ---- runs

abbrev pub IsEnded : Phase → Type 0
IsEnded (starting t) = ⊥
IsEnded (loading i t) = ⊥
IsEnded (inside i f) = ⊥
IsEnded (ended w t) = Unit {0}

-- Where the run ends, the clocked run ends with the same word and contents, after one cycle more than those of the nodes, and no sooner. Where it never ends, however many points it may pass, neither does the clocked run.
pub record KeepsRun (cfg : Cfg Untimed) (timed : Cfg Timed) (t : Words) : Type 0 where
  pub finite : (n : ℕ) (word : Option ℕ) (words : Words) (left : ℕ) → (flat_run cfg t n).outcome ≡ went word words left
      → (clock_run (timed_program timed) t (1 + run_cycles cfg timed t n) ≡ ended word words)
      × ((m : ℕ) → m < 1 + run_cycles cfg timed t n → IsEnded (clock_run (timed_program timed) t m) → ⊥)
  pub endless : ((n : ℕ) → (flat_run cfg t n).outcome ≡ waiting) → (m : ℕ) → IsEnded (clock_run (timed_program timed) t m) → ⊥

-- so it is from all contents
abbrev pub TimesKeepRuns : Type 0
TimesKeepRuns = (cfg : Cfg Untimed) (timed : Cfg Timed) → IsSoundProgram cfg → IsWellTimed cfg timed → (t : Words) → KeepsRun cfg timed t
