use Rattle.std.proofs.Common.{◌≡◌, ◌++◌, map, take}
use Rattle.c_meaning.specs.Run.{element_pattern}
use Rattle.c_meaning.proofs.contents.add_patterns.Given as goal

abbrev pub invariant-loop-element : goal.invariant-loop-element
invariant-loop-element l = l.words.items ≡ l.initial.words.items ++ map (element_pattern l.kind) (take l.element-index l.elements)
