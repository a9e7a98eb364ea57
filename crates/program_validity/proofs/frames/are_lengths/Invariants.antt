use Rattle.std.proofs.Common.{◌≡◌, ◌&&◌, drop}
use Rattle.std.specs.Prelude.{nat_le}
use Rattle.std.specs.List.{list_all}
use Rattle.program_validity.proofs.frames.are_lengths.Given as goal

abbrev pub invariant-loop-length : goal.invariant-loop-length
invariant-loop-length l = list_all (λ len. nat_le 1 len && nat_le len 65536) (drop l.length-index l.dims) ≡ list_all (λ len. nat_le 1 len && nat_le len 65536) l.dims
