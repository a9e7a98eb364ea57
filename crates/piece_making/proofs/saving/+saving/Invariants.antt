use Rattle.std.proofs.Common.{◌≡◌, List, map, [], length}
use Rattle.std.specs.Vec.Iter.{into_iter_items, into_iter_len}
use Rattle.hls_base.specs.declared.refusal.Refusal.{Refusal}
use Rattle.pieces.specs.Trees.{PureTree}
use Rattle.pieces.specs.View.{pure_of, pures_of}
use Rattle.piece_making.specs.Saving.{all_saved}
use Rattle.piece_making.specs.Stocks.{Stock, stock, state_of, IsMade, IsTooHeavy}
use Rattle.piece_making.proofs.saving.+saving.Given as goal

-- what the expressions that are left give behind those that are saved, all of them give
abbrev pub invariant-all_saved-loop-pure : goal.invariant-all_saved-loop-pure
invariant-all_saved-loop-pure l = record {
  made : (new : Stock) (v : List PureTree)
      → IsMade (stock l.work) new v (all_saved l.saver.file_variables l.saver.calls (pures_of (into_iter_items l.pure-iterator)) (map pure_of l.all.items) (state_of (stock l.work)))
      → IsMade (stock l.fn.work) new v (all_saved l.saver.file_variables l.saver.calls (pures_of l.fn.pures.items) [] (state_of (stock l.fn.work)));
  refused : (r : Refusal)
      → IsTooHeavy (stock l.work) r (all_saved l.saver.file_variables l.saver.calls (pures_of (into_iter_items l.pure-iterator)) (map pure_of l.all.items) (state_of (stock l.work)))
      → IsTooHeavy (stock l.fn.work) r (all_saved l.saver.file_variables l.saver.calls (pures_of l.fn.pures.items) [] (state_of (stock l.fn.work)));
  left : into_iter_len l.pure-iterator ≡ length (into_iter_items l.pure-iterator);
}
