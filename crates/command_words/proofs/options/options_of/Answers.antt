use Rattle.std.proofs.Common.{rules, arith, ◌+◌, ◌<◌, Some, drop, map, length, sym, ap, ◌∙◌}
use Rattle.std.specs.String.{string_bytes}
use Rattle.command_words.specs.OptionViews.{reading_behind}
use Rattle.command_words.proofs.Items.{behind}
use Rattle.command_words.proofs.options.options_of.Goals as goal

pub returns-in-None : goal.returns-in-None
returns-in-None c =
    let inside : c.loop-word.word-index < length c.args.words.now = search rules in
    let here = behind string_bytes c.args.words.now c.loop-word.word-index (c.loop-word.word-index + 1) c.word-item.result c.as_str.result.now (omega arith) inside c.word-item.is c.as_str.ensures.value in
    c.in-None.ensures (map string_bytes (drop (c.loop-word.word-index + 1) c.args.words.now)) ∙ (ap (reading_behind (Some c.loop-word.reading)) (sym here) ∙ c.loop-word.invariant)

pub loop-word-preserved : goal.loop-word-preserved
loop-word-preserved c =
    let inside : c.loop-word.word-index < length c.args.words.now = search rules in
    let here = behind string_bytes c.args.words.now c.loop-word.word-index (c.loop-word.word-index + 1) c.word-item.result c.as_str.result.now (omega arith) inside c.word-item.is c.as_str.ensures.value in
    c.in-Some.ensures (map string_bytes (drop (c.loop-word.word-index + 1) c.args.words.now)) ∙ (ap (reading_behind (Some c.loop-word.reading)) (sym here) ∙ c.loop-word.invariant)
