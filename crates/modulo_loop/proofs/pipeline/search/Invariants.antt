use Rattle.std.proofs.Common.{◌+◌, ◌<◌, ◌≤◌, ◌^◌}
use Rattle.modulo_loop.specs.Lowest.{IsLowest, edges_of}
use Rattle.modulo_loop.proofs.pipeline.search.Given as goal

abbrev pub invariant-loop-round : goal.invariant-loop-round
invariant-loop-round l = record {
  positive : l._round + 1 ≤ l.ii;
  small : l.ii < 2 ^ 32;
  lowest : IsLowest l.rules l.ii (edges_of l.lower);
}
