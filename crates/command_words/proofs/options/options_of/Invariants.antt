use Rattle.std.proofs.Common.{◌≡◌, drop, map, Some}
use Rattle.std.specs.String.{string_bytes}
use Rattle.command_words.specs.Options as spec
use Rattle.command_words.specs.OptionViews.{reading_behind}
use Rattle.command_words.proofs.options.options_of.Given as goal

abbrev pub invariant-loop-word : goal.invariant-loop-word
invariant-loop-word l =
    reading_behind (Some l.reading) (map string_bytes (drop l.word-index l.words)) ≡ spec.options_of (map string_bytes l.words)
