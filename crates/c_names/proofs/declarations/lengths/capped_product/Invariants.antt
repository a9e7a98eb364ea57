use Rattle.std.proofs.Common.{◌≡◌, ◌≤◌, drop, min}
use Rattle.c_meaning.specs.Checks.Lengths.{all_usable, rounded_product}
use Rattle.c_names.proofs.DeclarationsLemmas.Lists.{scaled}
use Rattle.c_names.proofs.declarations.lengths.capped_product.Given as goal

abbrev pub invariant-loop-length : goal.invariant-loop-length
invariant-loop-length l = record {
  bound : l.bits ≤ 17;
  value : min (scaled l.bits (all_usable (drop l.length-index l.lengths))) 131072 ≡ min (rounded_product l.lengths) 131072;
}
