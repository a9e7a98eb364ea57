use Rattle.std.proofs.Common.{◌≡◌, ◌+◌, ◌-◌, ◌^◌, ◌<◌, length, refl, ap, ◌∙◌, arith}
use Rattle.std.proofs.lemmas.List.Elements.{All-get_or, All-same}
use Rattle.aig_graph.specs.Making.{gates_of, IsLiteral}
use Rattle.aig_graph.proofs.Growing.{fits_later}
use Rattle.aig_graph.specs.Words.{HasLength}
use Rattle.aig_graph.proofs.Steps.{narrow_begins, halves_to, narrow_goes_on, narrow_ends}
use Rattle.aig_graph.proofs.select.select.Goals as goal

pub loop-i-init : goal.loop-i-init
loop-i-init c = λ width all.
    let address = c.args.address.now in
    let column = c.args.column.now in
    let h : 0 < length address = omega arith in
    let whole : length address ≡ length address - 0 = omega arith in
    narrow_goes_on _ _ _ column address width column column _ 0
    (narrow_begins (gates_of c.args.graph.now) column address width c.requires.sound (record { wide = all; fits = c.requires.column }) c.requires.count) h refl
    (c.in_ok-left.ensures (2 ^ (length address - 1)) width (c.requires.count ∙ (ap (λ z. 2 ^ z) whole ∙ halves_to address 0 h)) all)

pub halve-requires-in-loop-i-clause-test : goal.halve-requires-in-loop-i-clause-test
halve-requires-in-loop-i-clause-test c =
    let address = c.args.address.now in
    let h : c.loop-i.i < length address = omega arith in
    let inv = c.loop-i.invariant c.requires.wide.0 c.requires.wide.1 in
    fits_later _ _ inv.extends _ (All-get_or (IsLiteral (gates_of c.args.graph.now)) address c.loop-i.i 0 h c.requires.address)

pub loop-i-preserved : goal.loop-i-preserved
loop-i-preserved c = λ width all.
    let address = c.args.address.now in
    let h : c.loop-i.i < length address = omega arith in
    let inv = c.loop-i.invariant width all in
    narrow_goes_on _ _ _ c.args.column.now address width _ _ _ c.loop-i.i inv h c.as_slice.ensures.value
    (c.in_ok-left-2.ensures (2 ^ (length address - (c.loop-i.i + 1))) width (ap length c.as_slice.ensures.value ∙ (inv.count ∙ halves_to address c.loop-i.i h))
    (All-same (HasLength width) _ _ c.as_slice.ensures.value inv.words.wide))

pub returns : goal.returns
returns c = λ width all.
    narrow_ends _ _ c.args.column.now c.args.address.now width _ c.loop-i.i _ _ (c.loop-i.invariant width all) (omega arith) (omega arith) (c.in_ok-word.ensures.items ∙ (c.literals.ensures ∙ c.index.ensures))
