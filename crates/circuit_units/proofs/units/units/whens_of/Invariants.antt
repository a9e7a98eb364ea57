use Rattle.std.proofs.Common.{◌≡◌, map, take}
use Rattle.rtl_logic.specs.declared.select.Choice.{Choice}
use Rattle.circuit_units.proofs.units.units.whens_of.Given as goal

abbrev pub invariant-loop-choice : goal.invariant-loop-choice
invariant-loop-choice l = l.whens.items ≡ map (λ (c : Choice). c.when) (take l.choice-index l.choices)
