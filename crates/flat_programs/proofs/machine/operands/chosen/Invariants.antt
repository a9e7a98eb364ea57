use Rattle.std.proofs.Common.{◌≡◌, ℕ, drop}
use Rattle.ir_core.specs.FlatRuns.{chosen}
use Rattle.flat_programs.specs.Machine.Held.{holding}
use Rattle.flat_programs.proofs.machine.operands.chosen.Given as goal

abbrev pub invariant-loop-case : goal.invariant-loop-case
invariant-loop-case l = (memories : ℕ → ℕ → ℕ) → chosen (holding l.variables memories) l.results (drop l.case-index l.cases) l.other ≡ chosen (holding l.variables memories) l.results l.cases l.other
