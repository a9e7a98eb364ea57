use Rattle.std.proofs.Common.{◌≡◌, map, take}
use Rattle.c_meaning.specs.Run.{patterns}
use Rattle.c_meaning.proofs.contents.all_patterns.Given as goal

abbrev pub invariant-loop-o : goal.invariant-loop-o
invariant-loop-o l =
    l.all.items ≡ map patterns (take l.o-index l.objects)
