use Rattle.std.proofs.Common.{◌≡◌, ◌+◌, drop}
use Rattle.c_elaborate.specs.Names.{function_number, result_of}
use Rattle.c_elaborate.proofs.functions.function_named.Given as goal

abbrev pub invariant-loop-i : goal.invariant-loop-i
invariant-loop-i l = record {
  number : function_number l.functions l.name ≡ l.i + function_number (drop l.i l.functions) l.name;
  kind : result_of l.functions l.name ≡ result_of (drop l.i l.functions) l.name;
}
