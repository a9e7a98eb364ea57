use Rattle.std.proofs.Common.{◌≡◌, take}
use Rattle.c_machine.specs.State.PassedPaths.{path_of, IsNumber, IsPathTable, Extends}
use Rattle.c_machine.proofs.state.meter.path_number.Given as goal

abbrev pub invariant-loop-i : goal.invariant-loop-i
invariant-loop-i l = record {
  table : IsPathTable l.calls.entries;
  kept : Extends l.initial.calls.entries l.calls.entries;
  number : IsNumber l.calls.entries l.number;
  path : path_of l.calls.entries l.number ≡ take l.i l.path;
}
