use Rattle.expanded_pieces.proofs.AddressedArrays.Declarations.{elaborated_fit}
use Rattle.expanded_pieces.proofs.addressed_arrays.elaborated_products_fit.Goals as goal

pub returns : goal.returns
returns c = elaborated_fit
