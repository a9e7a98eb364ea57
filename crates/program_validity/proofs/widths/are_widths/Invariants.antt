use Rattle.std.proofs.Common.{◌≡◌, drop}
use Rattle.std.specs.List.{list_all}
use Rattle.program_validity.specs.Widths.{is_width}
use Rattle.program_validity.proofs.widths.are_widths.Given as goal

abbrev pub invariant-loop-bits : goal.invariant-loop-bits
invariant-loop-bits l = list_all is_width (drop l.bits-index l.widths) ≡ list_all is_width l.widths
