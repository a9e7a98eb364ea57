use Rattle.std.proofs.Common.{◌≤◌, length, take}
use Rattle.std.specs.List.{All, flat_map}
use Rattle.std.specs.List.Sorted.{IsPermutation}
use Rattle.rtl_logic.specs.Choosing.{choices_in, IsSome}
use Rattle.rtl_logic.proofs.select.by_value.Given as goal

abbrev pub invariant-loop-choice : goal.invariant-loop-choice
invariant-loop-choice l = record {
  same : IsPermutation (take l.choice-index l.choices) (flat_map choices_in l.groups.items);
  most : length l.groups.items ≤ l.choice-index;
  some : All IsSome l.groups.items;
}
