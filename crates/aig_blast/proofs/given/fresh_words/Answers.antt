use Rattle.std.proofs.Common.{◌<◌, ◌≤◌, ◌++◌, ◌∷◌, [], ◌+◌, length, ap, ◌∙◌, arith}
use Rattle.std.proofs.lemmas.List.Sums.{sum_by_more_le}
use Rattle.aig_blast.specs.Literals.{literals_from}
use Rattle.aig_blast.proofs.Fresh.{fresh_more, fresh_begins, lengths_whole, joined_whole}
use Rattle.aig_blast.proofs.given.fresh_words.Goals as goal

pub fresh_word-requires : goal.fresh_word-requires
fresh_word-requires c =
    let widths = c.args.widths.now in
    let h : c.loop-k.k < length widths = omega arith in
    let m = sum_by_more_le (λ z. z) widths c.loop-k.k 0 h in
    omega (arith, m, c.loop-k.invariant.at, c.from-bits.ensures, c.requires)

pub overflow_add-next : goal.overflow_add-next
overflow_add-next c =
    let widths = c.args.widths.now in
    let h : c.loop-k.k < length widths = omega arith in
    let m = sum_by_more_le (λ z. z) widths c.loop-k.k 0 h in
    omega (arith, m, c.loop-k.invariant.at, c.from-bits.ensures, c.requires)

pub loop-k-init : goal.loop-k-init
loop-k-init c = fresh_begins c.args.first c.args.widths.now _ c.in_ok-words.ensures.items

pub loop-k-preserved : goal.loop-k-preserved
loop-k-preserved c =
    fresh_more c.args.first c.args.widths.now c.loop-k.k c.loop-k.next _ _ _ _ c.loop-k.invariant (omega arith) (c.in_ok-word.ensures ∙ ap (literals_from c.loop-k.next) c.from-bits.ensures)
    (c.in_ok-push.ensures.items ∙ ap (λ z. c.loop-k.words.items ++ z ∷ []) c.new.ensures) (ap (λ z. c.loop-k.next + z) c.from-bits.ensures)

pub returns : goal.returns
returns c =
    let widths = c.args.widths.now in
    let end : length widths ≤ c.loop-k.k = omega arith in
    record { lengths = lengths_whole c.args.first widths c.loop-k.k _ _ end c.loop-k.invariant; joined = joined_whole c.args.first widths c.loop-k.k _ _ end c.loop-k.invariant }
