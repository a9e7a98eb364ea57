use Rattle.expanded_pieces.proofs.AddressedArrays.Programs.{checked_addressed}
use Rattle.expanded_pieces.proofs.addressed_arrays.checked_arrays_are_addressed.Goals as goal

pub returns : goal.returns
returns c = checked_addressed
