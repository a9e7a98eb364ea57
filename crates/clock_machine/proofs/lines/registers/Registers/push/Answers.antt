use Rattle.std.proofs.Common.{◌≡◌, ◌+◌, length, take, drop, ◌++◌, get_or, set, ap, ap₂, ◌∙◌, arith}
use Rattle.std.proofs.lemmas.List.{get_or-set_other}
use Rattle.std.proofs.lemmas.Option.{slice_get_within, get_or_from_slice_get}
use Rattle.clock_machine.specs.declared.lines.program.Line.{Line}
use Rattle.clock_machine.specs.Lines.Registers.{value_back}
use Rattle.clock_machine.proofs.LinesLemmas.Rings.{shows_others, written_back}
use Rattle.clock_machine.proofs.lines.registers.Registers.push.Goals as goal

pub returns-then-number-lines-clause-others : goal.returns-then-number-lines-clause-others
returns-then-number-lines-clause-others c = λ line other k back is differ apart within.
    let r = c.args.self.now in
    let n = c.args.number in
    let w = c.args.word in
    let words = r.words.items in
    let heads = r.heads.items in
    let head = get_or heads n 0 in
    let none : Line = record { first = 0; length = 0 } in
    let same : get_or c.args.lines.now n none ≡ line = get_or_from_slice_get c.args.lines.now n line none is.there in
    let first = ap (λ (l : Line). l.first) same in
    let place : c.saturating_add.result ≡ line.first + head = omega (arith, c.saturating_add.ensures, first, c.head-head.ensures, is.in_words, is.head_in_line, r.words.ok.0, r.words.ok.1, r.words.small) in
    let words_count : length c.set_word.new.words ≡ r.words.len = omega (arith, c.set_word.auto.words, ap length c.deref_mut.ensures.value, r.words.ok.0) in
    let heads_count : length c.set_head.new.heads ≡ r.heads.len = omega (arith, c.set_head.auto.heads, ap length c.deref_mut-then-number-lines.ensures.value, r.heads.ok.0) in
    let words_are : take r.words.len (c.set_word.new.words ++ drop (length c.set_word.new.words) words) ≡ set words (line.first + head) w =
    written_back r.words.len c.set_word.new.words words words_count ∙ c.set_word.ensures ∙ ap₂ (λ xs i. set xs i w) c.deref_mut.ensures.value place in
    let heads_are : take r.heads.len (c.set_head.new.heads ++ drop (length c.set_head.new.heads) heads) ≡ set heads n c.head_behind.result =
    written_back r.heads.len c.set_head.new.heads heads heads_count ∙ c.set_head.ensures ∙ ap (λ xs. set xs n c.head_behind.result) c.deref_mut-then-number-lines.ensures.value in
    let its = ap (λ xs. get_or xs k 0) heads_are ∙ get_or-set_other heads n k c.head_behind.result 0 differ in
    ap₂ (λ xs h. value_back xs other h back) words_are its ∙ shows_others words line head w is.in_words is.head_in_line other (get_or heads k 0) back apart within.head_in_line within.deep_enough

pub returns-else-number-lines-clause-last : goal.returns-else-number-lines-clause-last
returns-else-number-lines-clause-last c = λ line is. (let h = slice_get_within c.args.lines.now c.args.number line is.there in absurd (omega (arith, h, c.if-number-lines.false)))

pub returns-else-number-lines-clause-earlier : goal.returns-else-number-lines-clause-earlier
returns-else-number-lines-clause-earlier c = λ line back is more. (let h = slice_get_within c.args.lines.now c.args.number line is.there in absurd (omega (arith, h, c.if-number-lines.false)))
