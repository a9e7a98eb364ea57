use Rattle.std.proofs.Common.{◌≡◌, ◌<◌, length, get_or, bit_or, ap, arith}
use Rattle.std.proofs.lemmas.List.{get_or_read, get_or-set_same, length-set}
use Rattle.std.proofs.lemmas.Nat.{le_or_l}
use Rattle.reg_binding.proofs.FreeBits.{set_fewer}
use Rattle.reg_binding.proofs.bits.add_word.Goals as goal

pub returns-then-joined-index-clause-here : goal.returns-then-joined-index-clause-here
returns-then-joined-index-clause-here c =
    let old = c.args.words.now.items in let place = c.args.place in
    let inside : place < length old = c.requires in
    let first = get_or_read old place c.index.result.now inside c.index.ensures 0 in
    let second = get_or_read old place c.index-2.result.now inside c.index-2.ensures 0 in
    let same : bit_or c.index.result.now c.args.other ≡ bit_or (get_or old place 0) c.args.other = ap (λ x. bit_or x c.args.other) first in
    let least = le_or_l (get_or old place 0) c.args.other in
    let most = c.if-joined-index.true in
    omega (arith, first, second, same, least, most)

pub returns-clause-fewer : goal.returns-clause-fewer
returns-clause-fewer c = λ _.
    let old = c.args.words.now.items in let place = c.args.place in
    let inside : place < length old = c.requires in
    let joined = bit_or c.index.result.now c.args.other in
    let second = get_or_read old place c.index-2.result.now inside c.index-2.ensures 0 in
    let more = c.if-joined-index.false in
    let there = length-set old place joined in
    let written = get_or-set_same old place joined 0 inside in
    let small = c.type_inv.words place 0 (omega (arith, there, inside)) in
    set_fewer old place joined inside (omega (arith, second, more)) (omega (arith, written, small))
