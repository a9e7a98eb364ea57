use Rattle.std.proofs.Common.{◌≡◌, ℕ, map, take}
use Rattle.ir_core.specs.Bodies.{operand}
use Rattle.flat_programs.specs.Machine.Held.{holding}
use Rattle.flat_programs.proofs.machine.operands.read_all.Given as goal

abbrev pub invariant-loop-index : goal.invariant-loop-index
invariant-loop-index l = (memories : ℕ → ℕ → ℕ) → take l.index l.into ≡ map (operand (holding l.variables memories) l.results) (take l.index l.operands)
