use Rattle.std.proofs.Common.{◌≡◌, ◌+◌, ◌<◌, ◌^◌, length, get_or, take, sym, ap, ◌∙◌, arith}
use Rattle.std.proofs.lemmas.List.Elements.{All-get_or}
use Rattle.aig_graph.specs.Graphs.{literal}
use Rattle.aig_graph.specs.Making.{gates_of, IsLiteral}
use Rattle.aig_graph.proofs.Growing.{fits_later}
use Rattle.aig_graph.specs.Words.{bits, number, worth, bitwise_number}
use Rattle.aig_graph.proofs.Numbers.{take_number, taken_below, number_push, bits_length}
use Rattle.aig_graph.proofs.Making.{word_more, no_word}
use Rattle.aig_graph.proofs.Operators.{bitwise_more, bitwise_none}
use Rattle.aig_graph.proofs.Totals.{bitwise_whole}
use Rattle.aig_graph.proofs.bitwise.bitwise.Goals as goal

pub loop-i-init : goal.loop-i-init
loop-i-init c = no_word _ _ _ c.in_ok-bits.ensures.items c.requires.sound (λ w. bitwise_none c.args.op)

pub loop-i-preserved : goal.loop-i-preserved
loop-i-preserved c =
    let d = gates_of c.args.graph.now in
    let i = c.loop-i.i in
    let op = c.args.op in
    let xs = c.args.xs.now in
    let ys = c.args.ys.now in
    let inv = c.loop-i.invariant in
    let same : length xs ≡ length ys = c.requires.same in
    let h : i < length xs = omega arith in
    let k : i < length ys = omega arith in
    let x = fits_later _ _ inv.extends _ (All-get_or (IsLiteral d) xs i 0 h c.requires.first) in
    let y = fits_later _ _ inv.extends _ (All-get_or (IsLiteral d) ys i 0 k c.requires.second) in
    let m = c.in_ok-bit.ensures inv.sound x y in
    word_more _ _ _ _ _ _ _ _ _ _ inv c.in_ok-push.ensures.items m.extends m.sound m.shows.fits m.shows.value
    (λ w p r.
    let bs = bits w c.loop-i.bits.items in
    let b = literal w c.in_ok-bit.bit in
    let X = number (bits w (take i xs)) in
    let Y = number (bits w (take i ys)) in
    let u = literal w (get_or xs i 0) in
    let v = literal w (get_or ys i 0) in
    let len : length bs ≡ i = bits_length w c.loop-i.bits.items ∙ inv.count in
    number_push bs b ∙ (ap (λ z. number bs + worth b (2 ^ z)) len ∙ (ap (λ z. z + worth b (2 ^ i)) p ∙ (ap (λ z. bitwise_number op X Y + worth z (2 ^ i)) r
    ∙ (bitwise_more op i X Y u v (taken_below w xs i (omega arith)) (taken_below w ys i (omega arith))
    ∙ (ap (λ z. bitwise_number op z (Y + worth v (2 ^ i))) (sym (take_number w xs i h)) ∙ ap (λ z. bitwise_number op (number (bits w (take (i + 1) xs))) z) (sym (take_number w ys i k))))))))

pub returns : goal.returns
returns c = bitwise_whole _ _ c.args.op c.args.xs.now c.args.ys.now _ c.loop-i.i c.requires.same (omega arith) c.loop-i.invariant
