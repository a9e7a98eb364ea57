use Rattle.std.proofs.Common.{◌≡◌, map, take}
use Rattle.rtl_core.specs.Netlist.{memory_of}
use Rattle.report_rows.specs.Resources.{shape_of, row_shape}
use Rattle.report_rows.proofs.resources.memory_rows.Given as goal

abbrev pub invariant-loop-number : goal.invariant-loop-number
invariant-loop-number l = record {
  shapes : map row_shape l.rows.items ≡ map shape_of (map memory_of (take l.number l.built));
  names : map (λ row. row.name) l.rows.items ≡ map (λ name. name.now) (take l.number l.names);
}
