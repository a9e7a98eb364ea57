use Rattle.std.proofs.Common.{◌≡◌, take}
use Rattle.circuit_context.specs.declared.wanted.role.Target.{Target}
use Rattle.circuit_context.specs.Wanted.Roles.{given, choices_of, ArePaired}
use Rattle.circuit_context.proofs.wanted.log.Log.groups.Given as goal

abbrev pub invariant-loop-push : goal.invariant-loop-push
invariant-loop-push l = record {
  paired : ArePaired l.groups;
  given : (t : Target) → given l.groups t ≡ choices_of t (take l.push-index l.push-items);
}
