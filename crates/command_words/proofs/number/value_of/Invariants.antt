use Rattle.std.proofs.Common.{◌≡◌, drop}
use Rattle.command_words.specs.Words.{value_behind}
use Rattle.command_words.proofs.number.value_of.Given as goal

abbrev pub invariant-loop-byte : goal.invariant-loop-byte
invariant-loop-byte l =
    value_behind l.value (drop l.byte-index l.digits) ≡ value_behind 0 l.digits
