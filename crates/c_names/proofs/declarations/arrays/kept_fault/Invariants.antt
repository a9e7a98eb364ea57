use Rattle.std.proofs.Common.{◌≡◌, ◌≤◌, drop, map}
use Rattle.c_tree.specs.View.{item_of}
use Rattle.c_meaning.specs.Checks.Faults.{least}
use Rattle.c_meaning.specs.Checks.Limits.{kept_faults, file_objects}
use Rattle.c_names.proofs.declarations.arrays.kept_fault.Given as goal

abbrev pub invariant-loop-item : goal.invariant-loop-item
invariant-loop-item l = record { bound : l.sum ≤ 65536; rest : least (kept_faults l.sum (file_objects (map item_of (drop l.item-index l.items)))) ≡ least (kept_faults 0 (file_objects (map item_of l.items))) }
