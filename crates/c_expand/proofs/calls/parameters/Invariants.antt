use Rattle.std.proofs.Common.{◌≡◌, [], map, drop, length}
use Rattle.std.specs.Vec.Iter.{into_iter_items, into_iter_len}
use Rattle.pieces.specs.Resolved.CoreView.{core_object_of}
use Rattle.piece_making.specs.Stocks.{stock, state_of}
use Rattle.c_expand.specs.Callees.{given_of}
use Rattle.c_expand.specs.Expansion.{parameters}
use Rattle.c_expand.proofs.Leading.{Leads}
use Rattle.c_expand.proofs.calls.parameters.Given as goal

-- what is given to the parameters that are left
abbrev pub invariant-loop-one : goal.invariant-loop-one
invariant-loop-one l = record {
  leads : Leads (stock l.initial.work) (stock l.work) (parameters (drop (length l.homes.items) (map core_object_of l.objects)) (map given_of (into_iter_items l.one-iterator)) l.homes.items (state_of (stock l.work)))
      (parameters (map core_object_of l.objects) (map given_of l.fn.given.items) [] (state_of (stock l.initial.work)));
  left : into_iter_len l.one-iterator ≡ length (into_iter_items l.one-iterator);
}
