use Rattle.std.proofs.Common.{◌≡◌, drop, map}
use Rattle.std.specs.List.{list_all}
use Rattle.std.specs.String.{string_bytes}
use Rattle.command_words.specs.Words.{is_plain}
use Rattle.command_words.proofs.plain_form.are_all_plain.Given as goal

abbrev pub invariant-loop-word : goal.invariant-loop-word
invariant-loop-word l =
    list_all is_plain (map string_bytes (drop l.word-index l.words)) ≡ list_all is_plain (map string_bytes l.words)
