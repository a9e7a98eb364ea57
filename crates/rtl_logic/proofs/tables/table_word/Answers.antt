use Rattle.std.proofs.Common.{◌≡◌, ◌∙◌, length, get_or, sym, ap, subst, ◌<◌}
use Rattle.rtl_logic.specs.Making.{circuit}
use Rattle.rtl_logic.specs.Levels.{no_atom}
use Rattle.rtl_logic.proofs.Leveling.{some_left, word_is}
use Rattle.rtl_logic.proofs.tables.table_word.Goals as goal

pub returns : goal.returns
returns c = λ depth sound between fit many small.
    let d = circuit c.args.logic.now in
    let e = circuit c.chosen.new.logic in
    let words = c.args.words.now in
    let level = c.in_ok-level.level.items in
    let l = c.in_ok-level.ensures depth sound between fit many small in
    let some = some_left d e depth c.args.bits c.args.addr words level l in
    let same : c.deref.result.now ≡ level = c.deref.ensures.value in
    let first = c.first_word.ensures (subst (λ xs. 0 < length xs) (sym same) some) ∙ ap (λ xs. get_or xs 0 no_atom) same in
    word_is d e depth c.args.bits c.args.addr words level c.first_word.result fit l first
