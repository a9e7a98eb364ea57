use Rattle.std.proofs.Common.{◌≡◌, drop}
use Rattle.c_tree.specs.View.{inits_of}
use Rattle.c_meaning.specs.Checks.Faults.{lesser, least}
use Rattle.c_meaning.specs.Checks.Expressions.{inits_faults}
use Rattle.c_types.proofs.parts.+inits.Given as goal

abbrev pub invariant-inits_fault-loop-item : goal.invariant-inits_fault-loop-item
invariant-inits_fault-loop-item l = lesser l.worst (least (inits_faults l.bodies l.names (inits_of (drop l.item-index l.items)))) ≡ least (inits_faults l.bodies l.names (inits_of l.items))
