use Rattle.std.proofs.Common.{◌≡◌, map, take}
use Rattle.rtl_logic.specs.declared.select.Choice.{Choice}
use Rattle.circuit_control.proofs.asked.bits_of.Given as goal

abbrev pub invariant-loop-choice : goal.invariant-loop-choice
invariant-loop-choice l = l.bits.items ≡ map (λ (choice : Choice). choice.when) (take l.choice-index l.choices)
