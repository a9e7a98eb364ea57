use Rattle.std.proofs.Common.{◌≡◌, map, take}
use Rattle.rtl_core.specs.declared.design.Pin.{Pin}
use Rattle.aig_blast.proofs.given.input_widths.Given as goal

abbrev pub invariant-loop-k : goal.invariant-loop-k
invariant-loop-k l = l.widths.items ≡ map (λ (x : Pin). x.bits) (take l.k l.inputs)
