use Rattle.std.proofs.Common.{◌≡◌, drop, take}
use Rattle.c_tree.specs.Kinds.{without_one}
use Rattle.c_parser.proofs.CursorLemmas.WordLists.{prefixed}
use Rattle.c_parser.proofs.cursor.types.position_of.Given as goal

abbrev pub invariant-loop-i : goal.invariant-loop-i
invariant-loop-i l = without_one l.wanted l.words ≡ prefixed (take l.i l.words) (without_one l.wanted (drop l.i l.words))
