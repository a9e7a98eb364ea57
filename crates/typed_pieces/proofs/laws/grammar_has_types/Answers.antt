use Rattle.typed_pieces.proofs.Grammar.{grammar_types}
use Rattle.typed_pieces.proofs.laws.grammar_has_types.Goals as goal

pub returns : goal.returns
returns c = grammar_types
