use Rattle.std.proofs.Common.{◌≡◌, ◌++◌, map, drop}
use Rattle.verilog_syntax.specs.ModuleViews.{declared_view, assign_view}
use Rattle.verilog_read.specs.NameTable.{scope_in}
use Rattle.verilog_read.specs.Circuit.{outputs_from}
use Rattle.verilog_read.proofs.circuit.outputs_of.Given as goal

abbrev pub invariant-loop-i : goal.invariant-loop-i
invariant-loop-i l = l.pins.items ++ outputs_from (scope_in l.names) (map assign_view l.assigns) l.slots l.i (map declared_view (drop l.i l.outputs)) ≡ outputs_from (scope_in l.names) (map assign_view l.assigns) l.slots 0 (map declared_view l.outputs)
