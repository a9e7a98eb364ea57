use Rattle.std.proofs.Common.{map, drop}
use Rattle.pieces.specs.Resolved.CoreView.{core_object_of}
use Rattle.piece_making.specs.Stocks.{stock, state_of}
use Rattle.c_expand.specs.Expansion.{locals}
use Rattle.c_expand.proofs.Leading.{Leads}
use Rattle.c_expand.proofs.calls.add_locals.Given as goal

abbrev pub invariant-loop-object : goal.invariant-loop-object
invariant-loop-object l =
    Leads (stock l.initial.work) (stock l.work) (locals (map core_object_of (drop l.object-index l.object-items)) l.homes.items (state_of (stock l.work)))
    (locals (map core_object_of l.object-items) l.initial.homes.items (state_of (stock l.initial.work)))
