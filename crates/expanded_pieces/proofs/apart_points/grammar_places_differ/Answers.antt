use Rattle.expanded_pieces.proofs.ApartPoints.Grammar.{grammar_places}
use Rattle.expanded_pieces.proofs.apart_points.grammar_places_differ.Goals as goal

pub returns : goal.returns
returns c = grammar_places
