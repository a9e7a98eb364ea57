use Rattle.std.proofs.Common.{◌≡◌, ◌+◌, ◌<◌, ◌^◌, length, get_or, take, sym, ap, ◌∙◌, arith}
use Rattle.std.proofs.lemmas.List.Elements.{All-get_or}
use Rattle.aig_graph.specs.Graphs.{literal}
use Rattle.aig_graph.specs.Making.{gates_of, IsLiteral}
use Rattle.aig_graph.proofs.Growing.{fits_later}
use Rattle.aig_graph.specs.Words.{bits, number, worth}
use Rattle.aig_graph.proofs.Numbers.{take_number, number_push, bits_length, carried, two_more}
use Rattle.aig_graph.proofs.Making.{word_more}
use Rattle.aig_graph.proofs.sum.sum.Goals as goal

pub loop-i-preserved : goal.loop-i-preserved
loop-i-preserved c =
    let d = gates_of c.args.graph.now in
    let i = c.loop-i.i in
    let xs = c.args.xs.now in
    let ys = c.args.ys.now in
    let inv = c.loop-i.invariant in
    let same : length xs ≡ length ys = c.requires.same in
    let h : i < length xs = omega arith in
    let k : i < length ys = omega arith in
    let x = fits_later _ _ inv.word.extends _ (All-get_or (IsLiteral d) xs i 0 h c.requires.first) in
    let y = fits_later _ _ inv.word.extends _ (All-get_or (IsLiteral d) ys i 0 k c.requires.second) in
    let a = c.in_ok-added.ensures inv.word.sound x y inv.carry in
    record {
      word = word_more _ _ _ _ _ _ _ _ _ _ inv.word c.in_ok-push.ensures.items a.extends a.sound a.bit a.value
          (λ w p r.
          let bs = bits w c.loop-i.bits.items in
          let b = literal w c.in_ok-added.added.bit in
          let n = literal w c.in_ok-added.added.carry in
          let X = number (bits w (take i xs)) in
          let Y = number (bits w (take i ys)) in
          let Z = worth (literal w c.args.carry) 1 in
          let u = literal w (get_or xs i 0) in
          let v = literal w (get_or ys i 0) in
          let P = 2 ^ i in
          let Q = 2 ^ (i + 1) in
          let len : length bs ≡ i = bits_length w c.loop-i.bits.items ∙ inv.word.count in
          ap (λ z. z + worth n Q) (number_push bs b ∙ ap (λ z. number bs + worth b (2 ^ z)) len)
          ∙ (carried b n u v (literal w c.loop-i.carried) (number bs) X Y Z P Q r (two_more i) p
          ∙ (ap (λ z. z + (Y + worth v P) + Z) (sym (take_number w xs i h)) ∙ ap (λ z. number (bits w (take (i + 1) xs)) + z + Z) (sym (take_number w ys i k)))));
      carry = a.carry;
    }
