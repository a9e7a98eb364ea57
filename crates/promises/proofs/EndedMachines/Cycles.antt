-- A run that passes few points takes few cycles, where no node takes many.
use Rattle.std.proofs.Common.{ℕ, zero, suc, ◌+◌, ◌*◌, ◌^◌, ◌≤◌, List, length, Option, Some, None, IfSome, arith}
use Rattle.std.specs.Prelude.{slice_get}
use Rattle.std.proofs.lemmas.Nat.{mul-le}
use Rattle.hls_base.specs.declared.point.Point.{Point}
use Rattle.ir_core.specs.declared.cfg.Cfg.{Cfg}
use Rattle.ir_core.specs.declared.cfg.Node.{Node}
use Rattle.ir_core.specs.declared.cfg.Node.TheVariants as node
use Rattle.ir_core.specs.declared.stamp.Untimed.{Untimed}
use Rattle.ir_core.specs.declared.timed.Timed.{Timed}
use Rattle.hls_base.specs.Steps.{Outcome, went, undefined, waiting}
use Rattle.ir_core.specs.Bodies.{Shapes, Words}
use Rattle.ir_core.specs.FlatRuns.{Going, to, ends, shapes_of, node_run}
use Rattle.clock_runs.specs.Laws.{node_cycles, cycles_behind, cycles_at, cycles_from, run_cycles}
use Rattle.promises.proofs.EndedMachines.Spent.{Spends, node_spent}

-- more cycles than an operation starts in, and its latency
abbrev pub most : ℕ
most = 2 ^ 32 + 2 ^ 8

abbrev pub IsShort : Node Timed → Type 0
IsShort (node.Plain block) = block.length ≤ most
IsShort (node.Looped region) = (region.ii ≤ most) × (region.exit + 2 ≤ most)

node_low : (o : Option (Node Timed)) (points : ℕ) → IfSome o IsShort → node_cycles o points ≤ most * points + most
node_low None points h = omega arith
node_low (Some (node.Plain block)) points h = (let own : block.length * points ≤ most * points = mul-le block.length points most points h (omega arith) in omega (arith, own))
node_low (Some (node.Looped region)) points h =
    let own : region.ii * points ≤ most * points = mul-le region.ii points most points h.0 (omega arith) in
    let exit = h.1 in
    omega (arith, own, exit)

module _ (k : ℕ) (rest : ℕ → Words → ℕ → ℕ) (rest_low : (i : ℕ) (t : Words) (n : ℕ) → rest i t n ≤ most * (k + n)) where
  behind_low : (o : Option (Node Timed)) (n : ℕ) (trace : List Point) (x : Outcome Words Going) → IfSome o IsShort → Spends n trace x → node_cycles o (length trace) + cycles_behind rest x ≤ most * (suc k + n)
  behind_low o n trace (went (to i) t m) short spends =
      let own = node_low o (length trace) short in
      let later = rest_low i t m in
      omega (arith, own, later, spends)
  behind_low o n trace (went (ends w) t m) short spends = (let own = node_low o (length trace) short in omega (arith, own, spends))
  behind_low o n trace (undefined rule at) short spends = (let own = node_low o (length trace) short in omega (arith, own, spends))
  behind_low o n trace waiting short spends = (let own = node_low o (length trace) short in omega (arith, own, spends))

  at_low : (shapes : Shapes) (it : Option (Node Untimed)) (o : Option (Node Timed)) (t : Words) (n : ℕ) → IfSome o IsShort → cycles_at shapes rest it o t n ≤ most * (suc k + n)
  at_low shapes None o t n short = omega arith
  at_low shapes (Some it) o t n short = behind_low o n (node_run shapes it t n).trace (node_run shapes it t n).outcome short (node_spent shapes it t n)

from_low : (k : ℕ) (shapes : Shapes) (nodes : List (Node Untimed)) (timed : List (Node Timed)) → ((i : ℕ) → IfSome (slice_get timed i) IsShort) → (i : ℕ) (t : Words) (n : ℕ) → cycles_from k shapes nodes timed i t n ≤ most * (k + n)
from_low zero shapes nodes timed short i t n = omega arith
from_low (suc k) shapes nodes timed short i t n =
    at_low k (λ j t1 n1. cycles_from k shapes nodes timed j t1 n1) (from_low k shapes nodes timed short) shapes (slice_get nodes i) (slice_get timed i) t n (short i)

pub run_low : (cfg : Cfg Untimed) (timed : Cfg Timed) (t : Words) (n : ℕ) → ((i : ℕ) → IfSome (slice_get timed.nodes.items i) IsShort) → run_cycles cfg timed t n ≤ most * (2 * n + 2 + n)
run_low cfg timed t n short = from_low (2 * n + 2) (shapes_of cfg.frame) cfg.nodes.items timed.nodes.items short cfg.first.0 t n
