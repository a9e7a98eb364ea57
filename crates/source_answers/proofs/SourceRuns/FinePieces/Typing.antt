-- Pieces whose expressions have the types of what they name.
use Rattle.pieces.specs.Trees as tree
use Rattle.pieces.specs.Trees.{PureTree, PureTrees, PieceTree, PieceTrees}
use Rattle.c_expand.specs.Expansion.{expansion}
use Rattle.c_meaning.specs.PieceRuns.Pieces.{Frame}
use Rattle.c_meaning.specs.PieceRuns.Runs.{frame_of}
use Rattle.pass_runs.specs.LowerRuns.Suits.{Suits, EachSuits}
use Rattle.pass_runs.specs.LowerRuns.Holding.{IsThere, none_hidden}
use Rattle.typed_pieces.specs.Typed.{PieceTyped, PiecesTyped}
use Rattle.typed_pieces.proofs.Whole.{expanded_typed}
use Rattle.typed_pieces.proofs.Typing as typing
use Rattle.expanded_pieces.specs.BegunPieces.Typed.{EachFine, IsMade, AreMade}
use Rattle.source_answers.specs.SourceRuns.FinePieces.{SoundPiecesAreTyped}

module _ (f : Frame) where
  each_made : (xs : PureTrees) → EachSuits f none_hidden xs → EachFine (Suits f none_hidden) (IsThere f) xs
  each_made tree.none h = tt
  each_made (tree.more x xs) h = (h.0, each_made xs h.1)

  mutual
    piece_made : (x : PieceTree) → PieceTyped f x → IsMade (Suits f none_hidden) (IsThere f) x
    piece_made (tree.set name v) h = (h.0, h.1.0)
    piece_made (tree.put array subscripts v at) h = (each_made subscripts h.1.0, h.2.0)
    piece_made (tree.fork test first second end) h = (h.0.0, pieces_made first h.1, pieces_made second h.2)
    piece_made (tree.repeat_ id post before test body step end) h = (h.1.0, pieces_made before h.0, pieces_made body h.2, pieces_made step h.3)
    piece_made (tree.pick test labels body end) h = (h.0.0, pieces_made body h.1)
    piece_made x h = tt

    pieces_made : (xs : PieceTrees) → PiecesTyped f xs → AreMade (Suits f none_hidden) (IsThere f) xs
    pieces_made tree.no_pieces h = tt
    pieces_made (tree.then_ x rest) h = (piece_made x h.0, pieces_made rest h.1)

pub sound_typed : SoundPiecesAreTyped
sound_typed p sound types =
    let e = expansion p in
    let h = expanded_typed p sound types in
    record { expressions = pieces_made (frame_of e) e.pieces h; pieces = typing.pieces_suit (frame_of e) e.pieces h }
