use Rattle.std.proofs.Common.{◌≡◌, drop, map, take, length}
use Rattle.ir_core.specs.declared.body.Out.{Out}
use Rattle.flat_programs.specs.Memory.Filling.{filled}
use Rattle.flat_programs.proofs.machine.operands.set_outs.Given as goal

abbrev pub invariant-loop-index : goal.invariant-loop-index
invariant-loop-index l =
    filled (map (λ (out : Out). out.variable.0) (drop l.index l.outs)) (drop l.index (take (length l.outs) l.values)) l.variables
    ≡ filled (map (λ (out : Out). out.variable.0) l.outs) (take (length l.outs) l.values) l.initial.variables
