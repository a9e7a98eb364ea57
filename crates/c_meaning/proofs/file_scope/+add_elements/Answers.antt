use Rattle.std.proofs.Common.{◌≡◌, ◌∷◌, ◌<◌, ◌≤◌, ◌-◌, ◌*◌, ◌∙◌, length, ap, rules, arith}
use Rattle.hls_base.specs.ArrayAddress.{element_count}
use Rattle.c_meaning.proofs.Initialising.{inner_limits, rows_turn, rows_done}
use Rattle.c_meaning.proofs.file_scope.+add_elements.Goals as goal

pub add_elements-requires : goal.add_elements-requires
add_elements-requires t c =
    let is : c.args.lengths.now ≡ c.in-Some.len.now ∷ c.in-Some.inner.now = search rules in
    let shorter : length c.in-Some.inner.now < t = omega (arith, ap length is, c.decreases) in
    (shorter, inner_limits c.args.lengths.now c.in-Some.len.now c.in-Some.inner.now is c.requires)

pub loop-item-preserved : goal.loop-item-preserved
loop-item-preserved t c =
    rows_turn c.args.kind c.in-Some.len.now c.in-Some.inner.now c.in-List.items.items c.deref-item-items.result.now c.loop-item.item-index c.item-item.result c.loop-item.elements.items c.add_elements.new.elements.items _
    c.deref-item-items.ensures.value c.loop-item-test.true c.item-item.is c.in_ok-add_elements-in-List.ensures c.loop-item.invariant

pub returns-in_ok-add_zeros-in-List : goal.returns-in_ok-add_zeros-in-List
returns-in_ok-add_zeros-in-List t c =
    let slice = ap length c.deref-item-items.ensures.value in
    let past : length c.in-List.items.items ≤ c.loop-item.item-index = omega (arith, c.loop-item-test.false, slice) in
    let within : c.loop-item.item-index ≤ length c.in-List.items.items = omega (arith, c.loop-item.auto.item-index-end, slice) in
    let missing : c.saturating_sub-missing.result ≡ c.in-Some.len.now - length c.in-List.items.items = omega (arith, c.saturating_sub-missing.ensures, c.len.ensures, c.in-List.items.ok.0) in
    rows_done c.args.kind c.args.lengths.now c.in-Some.len.now c.in-Some.inner.now c.args.init.now c.in-List.items c.in-List.field-1 c.loop-item.item-index c.rows_count.result c.loop-item.elements.items
    c.add_zeros.new.elements.items c.args.elements.now.items (search rules) c.in-List.is past within c.loop-item.invariant (c.rows_count.ensures ∙ ap (λ n. n * element_count c.in-Some.inner.now) missing) c.in_ok-add_zeros-in-List.ensures
