use Rattle.std.proofs.Common.{length}
use Rattle.c_macro.specs.Views.{IsWithin}
use Rattle.c_macro.proofs.Taking.{Progress}
use Rattle.c_macro.proofs.replace.Given as goal

abbrev pub invariant-loop-left : goal.invariant-loop-left
invariant-loop-left l = record {
  progress : Progress l.tokens l.left l.reader;
  within : IsWithin l.reader.output;
}

abbrev pub decreases-loop-left : goal.decreases-loop-left
decreases-loop-left l = length l.left
