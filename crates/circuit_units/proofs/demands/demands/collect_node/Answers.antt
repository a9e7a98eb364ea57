use Rattle.std.proofs.Common.{◌≡◌, ◌<◌, ◌+◌, ◌++◌, [], ◌∷◌, length, take, slice_get, slice_index_or, Some, refl, sym, ap, ◌∙◌, subst, arith}
use Rattle.std.proofs.lemmas.List.{take_all, take_more, length-take-le}
use Rattle.std.proofs.lemmas.Option.{slice_get-get_or}
use Rattle.rtl_logic.specs.Making.{circuit}
use Rattle.circuit_units.specs.Demands.Collected.{CollectsOps}
use Rattle.circuit_units.proofs.DemandsLemmas.Collecting.{no_operations, started_at, one_operation}
use Rattle.circuit_units.proofs.demands.demands.collect_node.Goals as goal

pub returns : goal.returns
returns c = λ p names context begun are.
    subst (λ ops. CollectsOps p names (circuit c.args.logic.now) (circuit c.loop-number.logic) c.args.log.now.pushes.items c.loop-number.log.pushes.items c.args.node.0 ops c.loop-number.wires.items)
    (take_all c.loop-number.number c.args.ops.now c.loop-number-test.false) (c.loop-number.invariant p names context begun are)

pub loop-number-preserved : goal.loop-number-preserved
loop-number-preserved c = λ p names context begun are.
    let ops = c.args.ops.now in
    let k = c.loop-number.number in
    let op = c.index-ops-number.result in
    let inside : k < length ops = c.loop-number-test.true in
    let op_is : op ≡ slice_index_or ops k op = c.index-ops-number.is in
    let stands : slice_get ops k ≡ Some op = slice_get-get_or ops k op inside ∙ ap Some (sym op_is) in
    let took : take (k + 1) ops ≡ take k ops ++ op ∷ [] = take_more ops k op inside ∙ ap (λ x. take k ops ++ x ∷ []) (sym op_is) in
    let number : k ≡ length (take k ops) = omega (arith, length-take-le k ops (omega (arith, inside))) in
    let before = c.loop-number.invariant p names context begun are in
    let there = started_at p c.args.node.0 k ops _ are refl refl refl refl stands in
    let one = c.in_ok-collect_operation.ensures p names context before.logs.begun there in
    one_operation p names (circuit c.args.logic.now) (circuit c.loop-number.logic) (circuit c.collect_operation.new.logic) c.args.log.now.pushes.items c.loop-number.log.pushes.items
    c.collect_operation.new.log.pushes.items c.args.node.0 (take k ops) (take (k + 1) ops) _ c.loop-number.wires.items c.push.new.self.items c.in_ok-collect_operation.field-0 before there refl number took one
    c.in_ok-push.ensures.items

pub loop-number-init : goal.loop-number-init
loop-number-init c = λ p names context begun are.
    let d = circuit c.args.logic.now in
    let l = c.args.log.now.pushes.items in
    subst (CollectsOps p names d d l l c.args.node.0 []) (sym c.in_ok-wires.ensures.items) (no_operations p names d l c.args.node.0 begun)

pub collect_operation-requires : goal.collect_operation-requires
collect_operation-requires c =
    let ops = c.args.ops.now in
    let op = c.index-ops-number.result in
    record { all = c.requires; stands = slice_get-get_or ops c.loop-number.number op c.loop-number-test.true ∙ ap Some (sym c.index-ops-number.is) }
