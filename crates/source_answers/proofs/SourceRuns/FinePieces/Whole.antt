-- The pieces of a whole program are fine.
use Rattle.std.proofs.Common.{[]}
use Rattle.hls_base.specs.declared.point.Point.{Point}
use Rattle.hls_base.specs.declared.point.PointKind.TheVariants as point
use Rattle.c_expand.specs.Expansion.{expansion}
use Rattle.c_meaning.specs.PieceRuns.Runs.{frame_of}
use Rattle.pass_runs.specs.LowerRuns.Suits.{scope_of}
use Rattle.expanded_pieces.proofs.Calls.{expanded_fit, expanded_short}
use Rattle.expanded_pieces.proofs.ApartPoints.Whole as apart
use Rattle.expanded_pieces.proofs.BlockPoints.Points as blocks
use Rattle.expanded_pieces.specs.BegunPieces.Points.{begins_at}
use Rattle.expanded_pieces.proofs.BegunPieces.Suiting.{typed_pieces}
use Rattle.expanded_pieces.proofs.BegunPieces.Whole.{expanded_point, expanded_begin_there}
use Rattle.source_answers.specs.SourceRuns.FinePieces.{ExpandedPiecesAreFine, ExpandedPiecesKeepBegun}
use Rattle.source_answers.proofs.SourceRuns.FinePieces.Dealing.{marks_differ}

pub keep_begun : ExpandedPiecesKeepBegun
keep_begun p top jumps places = expanded_begin_there p top jumps (marks_differ (expansion p).pieces (apart.points_differ p places))

pub pieces_fine : ExpandedPiecesAreFine
pieces_fine p fn top jumps lengths places typed =
    let e = expansion p in
    let f = frame_of e in
    let kept = begins_at e.pieces in
    let start : Point = record { path = []; at = fn.at; kind = point.Begin } in
    let first = expanded_point p fn top in
    let begins = typed_pieces f kept e.pieces typed.expressions (keep_begun p (fn, top) jumps places) in
    record {
      short = expanded_short p jumps lengths;
      first = first;
      fit = expanded_fit p jumps;
      begins = begins;
      typed = typed.pieces;
      points = blocks.points_differ f kept (scope_of f) e.pieces start first begins (apart.points_differ p places);
    }
