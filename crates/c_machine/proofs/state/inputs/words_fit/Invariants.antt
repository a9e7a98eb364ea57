use Rattle.std.proofs.Common.{◌≡◌, take, true}
use Rattle.std.specs.List.{list_all}
use Rattle.c_meaning.specs.FittingInputs.{word_fits}
use Rattle.c_machine.proofs.state.inputs.words_fit.Given as goal

abbrev pub invariant-loop-word : goal.invariant-loop-word
invariant-loop-word l =
    list_all (word_fits l.fn.kind) (take l.word-index l.words) ≡ true
