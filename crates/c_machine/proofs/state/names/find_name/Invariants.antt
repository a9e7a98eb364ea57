use Rattle.std.proofs.Common.{◌≡◌, drop, None}
use Rattle.c_meaning.specs.Store.{find_name}
use Rattle.c_machine.proofs.state.names.find_name.Given as goal

abbrev pub invariant-loop-i : goal.invariant-loop-i
invariant-loop-i l = find_name (drop l.i l.bindings) l.name ≡ None
