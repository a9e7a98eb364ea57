use Rattle.expanded_pieces.proofs.Grammar.{grammar_begins}
use Rattle.expanded_pieces.proofs.laws.grammar_begins_loops.Goals as goal

pub returns : goal.returns
returns c = grammar_begins
