use Rattle.std.proofs.Common.{◌≡◌, ◌∷◌, ◌<◌, ◌≤◌, ◌-◌, ◌*◌, ◌∙◌, length, ap, rules, arith}
use Rattle.hls_base.specs.ArrayAddress.{element_count}
use Rattle.c_meaning.proofs.Initialising.{inner_limits}
use Rattle.c_elaborate.specs.Items.{trees_in}
use Rattle.c_elaborate.proofs.Items.{rows_turn, rows_done}
use Rattle.c_elaborate.proofs.initialisers.+add_items.Goals as goal

pub add_items-requires : goal.add_items-requires
add_items-requires t c =
    let is : c.args.lengths.now ≡ c.in-Some.len.now ∷ c.in-Some.inner.now = search rules in
    let shorter : length c.in-Some.inner.now < t = omega (arith, ap length is, c.decreases) in
    (shorter, inner_limits c.args.lengths.now c.in-Some.len.now c.in-Some.inner.now is c.requires)

pub loop-row-preserved : goal.loop-row-preserved
loop-row-preserved t c =
    rows_turn c.in-Some.len.now c.in-Some.inner.now c.in-List.rows.items c.deref-row-items.result.now c.loop-row.row-index c.row-item.result (trees_in c.loop-row.items.items) (trees_in c.add_items.new.items.items) _
    c.deref-row-items.ensures.value c.loop-row-test.true c.row-item.is c.in_ok-add_items-in-List.ensures c.loop-row.invariant

pub returns-in_ok-add_missing-in-List : goal.returns-in_ok-add_missing-in-List
returns-in_ok-add_missing-in-List t c =
    let slice = ap length c.deref-row-items.ensures.value in
    let past : length c.in-List.rows.items ≤ c.loop-row.row-index = omega (arith, c.loop-row-test.false, slice) in
    let within : c.loop-row.row-index ≤ length c.in-List.rows.items = omega (arith, c.loop-row.auto.row-index-end, slice) in
    let missing : c.saturating_sub-missing.result ≡ c.in-Some.len.now - length c.in-List.rows.items = omega (arith, c.saturating_sub-missing.ensures, c.len.ensures, c.in-List.rows.ok.0) in
    rows_done c.args.lengths.now c.in-Some.len.now c.in-Some.inner.now c.args.init.now c.in-List.rows c.in-List.field-1 c.loop-row.row-index c.rows_count.result (trees_in c.loop-row.items.items)
    (trees_in c.add_missing.new.items.items) (trees_in c.args.items.now.items) (search rules) c.in-List.is past within c.loop-row.invariant (c.rows_count.ensures ∙ ap (λ n. n * element_count c.in-Some.inner.now) missing) c.in_ok-add_missing-in-List.ensures
