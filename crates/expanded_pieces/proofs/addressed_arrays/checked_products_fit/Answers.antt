use Rattle.expanded_pieces.proofs.AddressedArrays.Programs.{products_fit}
use Rattle.expanded_pieces.proofs.addressed_arrays.checked_products_fit.Goals as goal

pub returns : goal.returns
returns c = products_fit
