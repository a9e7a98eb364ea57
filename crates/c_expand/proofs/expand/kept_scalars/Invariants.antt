use Rattle.std.proofs.Common.{[], map, drop}
use Rattle.pieces.specs.Resolved.CoreView.{file_object_of}
use Rattle.piece_making.specs.Stocks.{stock, state_of}
use Rattle.c_expand.specs.Expansion.{kept_scalars}
use Rattle.c_expand.proofs.Leading.{Leads}
use Rattle.c_expand.proofs.expand.kept_scalars.Given as goal

abbrev pub invariant-loop-one : goal.invariant-loop-one
invariant-loop-one l =
    Leads (stock l.initial.work) (stock l.work) (kept_scalars (map file_object_of (drop l.one-index l.file)) l.kept.items (state_of (stock l.work)))
    (kept_scalars (map file_object_of l.file) [] (state_of (stock l.initial.work)))
