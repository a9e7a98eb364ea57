use Rattle.typed_pieces.proofs.Elaborated.{elaborated_types}
use Rattle.typed_pieces.proofs.laws.elaborated_has_types.Goals as goal

pub returns : goal.returns
returns c = elaborated_types
