-- The points of a program that a source is.
use Rattle.c_elaborate.specs.Programs.{program_elaborated}
use Rattle.c_tree.specs.Terminals.{terminals}
use Rattle.expanded_pieces.specs.ApartPoints.{SourcePointsDiffer}
use Rattle.expanded_pieces.proofs.ApartPoints.Whole.{points_differ}
use Rattle.expanded_pieces.proofs.ApartPoints.Grammar.{grammar_places}
use Rattle.expanded_pieces.proofs.ApartPoints.Tokens.{source_places}

pub source_points : SourcePointsDiffer
source_points source tokens replaced end p top spells becomes derives =
    points_differ (program_elaborated p top) (grammar_places (terminals replaced) end p top derives (source_places source tokens replaced spells becomes))
