use Rattle.std.proofs.Common.{◌≡◌, ℕ, map, take}
use Rattle.ir_core.specs.declared.body.Out.{Out}
use Rattle.ir_core.specs.Bodies.{operand}
use Rattle.flat_programs.specs.Machine.Held.{holding}
use Rattle.flat_programs.proofs.machine.operands.read_outs.Given as goal

abbrev pub invariant-loop-index : goal.invariant-loop-index
invariant-loop-index l = (memories : ℕ → ℕ → ℕ) → take l.index l.into ≡ map (λ (out : Out). operand (holding l.variables memories) l.results out.value) (take l.index l.outs)
