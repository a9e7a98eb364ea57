use Rattle.std.proofs.Common.{◌≡◌, ◌≤◌, ◌*◌, map, drop}
use Rattle.hls_base.specs.ArrayAddress.{element_count}
use Rattle.c_expand.specs.Statements.{at_least_one}
use Rattle.c_expand.proofs.declarations.element_count.Given as goal

abbrev pub invariant-loop-length : goal.invariant-loop-length
invariant-loop-length l = record {
  value : l.count * element_count (map at_least_one (drop l.length-index l.lengths)) ≡ element_count (map at_least_one l.lengths);
  positive : 1 ≤ l.count;
}
