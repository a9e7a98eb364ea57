use Rattle.std.proofs.Common.{◌≡◌, map, take}
use Rattle.rtl_core.specs.declared.design.Reg.{Reg}
use Rattle.aig_blast.proofs.given.register_widths.Given as goal

abbrev pub invariant-loop-k : goal.invariant-loop-k
invariant-loop-k l = l.widths.items ≡ map (λ (x : Reg). x.bits) (take l.k l.regs)
