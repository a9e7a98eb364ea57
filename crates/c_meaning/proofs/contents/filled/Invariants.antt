use Rattle.std.proofs.Common.{◌≡◌, map, take, Some}
use Rattle.c_value.specs.Values.{number_of}
use Rattle.c_meaning.proofs.contents.filled.Given as goal

abbrev pub invariant-loop-word : goal.invariant-loop-word
invariant-loop-word l =
    l.elements.items ≡ map (λ word. Some (number_of l.kind word)) (take l.word-index l.words)
