use Rattle.std.proofs.Common.{[], map, drop}
use Rattle.pieces.specs.Resolved.CoreView.{file_object_of}
use Rattle.piece_making.specs.Stocks.{stock, state_of}
use Rattle.c_expand.specs.Expansion.{file_homes}
use Rattle.c_expand.proofs.Leading.{Leads}
use Rattle.c_expand.proofs.expand.file_homes.Given as goal

abbrev pub invariant-loop-object : goal.invariant-loop-object
invariant-loop-object l =
    Leads (stock l.initial.work) (stock l.work) (file_homes (map file_object_of (drop l.object-index l.file)) l.kept l.homes.items (state_of (stock l.work)))
    (file_homes (map file_object_of l.file) l.fn.kept [] (state_of (stock l.initial.work)))
