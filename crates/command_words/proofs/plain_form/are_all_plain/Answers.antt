use Rattle.std.proofs.Common.{rules, arith, ◌+◌, ◌<◌, ◌&&◌, drop, map, length, sym, ap, ◌∙◌}
use Rattle.std.specs.List.{list_all}
use Rattle.std.specs.String.{string_bytes}
use Rattle.command_words.specs.Words.{is_plain}
use Rattle.command_words.proofs.Items.{behind}
use Rattle.command_words.proofs.plain_form.are_all_plain.Goals as goal

pub returns-then-not-is_plain : goal.returns-then-not-is_plain
returns-then-not-is_plain c =
    let inside : c.loop-word.word-index < length c.args.words.now = search rules in
    let here = behind string_bytes c.args.words.now c.loop-word.word-index (c.loop-word.word-index + 1) c.word-item.result c.as_str.result.now (omega arith) inside c.word-item.is c.as_str.ensures.value in
    ap (λ b. b && list_all is_plain (map string_bytes (drop (c.loop-word.word-index + 1) c.args.words.now))) c.if-not-is_plain.ensures ∙ ap (list_all is_plain) (sym here) ∙ c.loop-word.invariant

pub loop-word-preserved : goal.loop-word-preserved
loop-word-preserved c =
    let inside : c.loop-word.word-index < length c.args.words.now = search rules in
    let here = behind string_bytes c.args.words.now c.loop-word.word-index (c.loop-word.word-index + 1) c.word-item.result c.as_str.result.now (omega arith) inside c.word-item.is c.as_str.ensures.value in
    ap (λ b. b && list_all is_plain (map string_bytes (drop (c.loop-word.word-index + 1) c.args.words.now))) c.if-not-is_plain.ensures ∙ ap (list_all is_plain) (sym here) ∙ c.loop-word.invariant
