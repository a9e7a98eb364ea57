use Rattle.std.proofs.Common.{◌∙◌, ◌∷◌, [], ap, sym, subst, map, arith}
use Rattle.std.specs.Vec.Iter.{into_iter_items, into_iter_steps}
use Rattle.std.proofs.lemmas.List.{map-append}
use Rattle.std.proofs.lemmas.Result.{IfOk-weaker}
use Rattle.ir_core.specs.Trees.{sequence_of, part_of, part_row, arm_row}
use Rattle.passes.specs.Numbering as n
use Rattle.value_number.specs.Settled.{all_true, is_part_settled, is_sequence_settled, is_shape_settled}
use Rattle.value_number.specs.Views.{scope_of}
use Rattle.value_number.proofs.Adding.{all_true_more}
use Rattle.value_number.proofs.Counting.{fewer_parts, fewer_arms}
use Rattle.value_number.proofs.Parts.{parts_turn, arms_turn}
use Rattle.value_number.proofs.Settling.{fork_settled, loop_settled, switch_settled, land_settled, overlapped_settled, part_settled}
use Rattle.value_number.proofs.Turning.{fork_turn, loop_turn, switch_turn, land_turn, overlapped_turn, sequence_turn, whole_settled, shape_turn, after_turn}
use Rattle.value_number.proofs.number.+sequence.Goals as goal

pub number_parts-loop-part-preserved : goal.number_parts-loop-part-preserved
number_parts-loop-part-preserved t c =
    let step = subst (λ r. into_iter_steps c.loop-part.part-iterator r c.next.new.self) c.in-Some.is c.next.ensures.steps in
    let scope = scope_of c.args.scope in
    let gone = c.loop-part.yielded in
    let part = c.in_ok-part.part.value in
    record {
      fewer = omega (arith, fewer_parts c.in-Some.part.value (map (λ b. b.value) (into_iter_items c.next.new.self)) (map (λ b. b.value) (into_iter_items c.loop-part.part-iterator)) _ (ap (map (λ b. b.value)) step.0) c.loop-part.invariant.fewer);
      settled = ap (λ l. all_true (map is_part_settled l)) c.in_ok-push_from.ensures ∙ all_true_more is_part_settled c.loop-part.done.items part c.loop-part.invariant.settled c.in_ok-part.ensures.settled;
      numbered =
          ap (λ l. part_row (map part_of l)) c.in_ok-push_from.ensures
          ∙ parts_turn scope c.loop-part.done.items part (map (λ b. b.value) gone) c.in-Some.part.value c.loop-part.invariant.numbered c.in_ok-part.ensures.shape c.in_ok-part.ensures.after
          ∙ sym (ap (λ l. n.numbered_parts scope (part_row (map part_of l))) (map-append (λ b. b.value) gone (c.in-Some.part ∷ [])));
    }

pub number_arms-loop-arm-preserved : goal.number_arms-loop-arm-preserved
number_arms-loop-arm-preserved t c =
    let step = subst (λ r. into_iter_steps c.loop-arm.arm-iterator r c.next.new.self) c.in-Some.is c.next.ensures.steps in
    let scope = scope_of c.args.scope in
    let gone = c.loop-arm.yielded in
    let arm = c.in_ok-arm.arm.value in
    record {
      fewer = omega (arith, fewer_arms c.in-Some.arm.value (map (λ b. b.value) (into_iter_items c.next.new.self)) (map (λ b. b.value) (into_iter_items c.loop-arm.arm-iterator)) _ (ap (map (λ b. b.value)) step.0) c.loop-arm.invariant.fewer);
      settled = ap (λ l. all_true (map is_sequence_settled l)) c.in_ok-push_from.ensures ∙ all_true_more is_sequence_settled c.loop-arm.done.items arm c.loop-arm.invariant.settled c.in_ok-arm.ensures.settled;
      numbered =
          ap (λ l. arm_row (map sequence_of l)) c.in_ok-push_from.ensures
          ∙ arms_turn scope c.loop-arm.done.items arm (map (λ b. b.value) gone) c.in-Some.arm.value c.loop-arm.invariant.numbered c.in_ok-arm.ensures.numbered
          ∙ sym (ap (λ l. n.numbered_arms scope (arm_row (map sequence_of l))) (map-append (λ b. b.value) gone (c.in-Some.arm ∷ [])));
    }

pub number_sequence-returns-clause-numbered : goal.number_sequence-returns-clause-numbered
number_sequence-returns-clause-numbered t c =
    IfOk-weaker c.whole_sequence.result _ _
    (λ r e. sequence_turn (scope_of c.args.scope) c.args.sequence.value r.value c.in_ok-first.field-0.first.value c.in_ok-first-2.first.value c.in_ok-first.field-0.rest c.in_ok-rest.rest
    c.in_ok-first.ensures.first c.in_ok-first.ensures.rest c.in_ok-first-2.ensures.block c.in_ok-rest.ensures.numbered e)
    c.whole_sequence.ensures

pub number_sequence-returns-clause-settled : goal.number_sequence-returns-clause-settled
number_sequence-returns-clause-settled t c =
    IfOk-weaker c.whole_sequence.result _ _ (λ r e. whole_settled r.value c.in_ok-first-2.first.value c.in_ok-rest.rest c.in_ok-first-2.ensures.settled c.in_ok-rest.ensures.settled e) c.whole_sequence.ensures

pub number_part-returns-clause-shape : goal.number_part-returns-clause-shape
number_part-returns-clause-shape t c =
    IfOk-weaker c.whole_part.result _ _
    (λ r e. shape_turn (scope_of c.args.scope) r.value c.args.part.value c.in_ok-shape.field-0.shape.value c.in_ok-shape-2.shape.value c.in_ok-after.after.value c.in_ok-shape.ensures.shape c.in_ok-shape-2.ensures.numbered e)
    c.whole_part.ensures

pub number_part-returns-clause-after : goal.number_part-returns-clause-after
number_part-returns-clause-after t c =
    IfOk-weaker c.whole_part.result _ _
    (λ r e. after_turn (scope_of c.args.scope) r.value c.args.part.value c.in_ok-shape.field-0.after.value c.in_ok-after.after.value c.in_ok-shape-2.shape.value c.in_ok-shape.ensures.after c.in_ok-after.ensures.block e)
    c.whole_part.ensures

pub number_part-returns-clause-settled : goal.number_part-returns-clause-settled
number_part-returns-clause-settled t c =
    IfOk-weaker c.whole_part.result _ _ (λ r e. ap is_part_settled e ∙ part_settled _ c.in_ok-shape-2.ensures.settled c.in_ok-after.ensures.settled) c.whole_part.ensures

pub number_shape-returns-in_ok-no-in-Fork-clause-numbered : goal.number_shape-returns-in_ok-no-in-Fork-clause-numbered
number_shape-returns-in_ok-no-in-Fork-clause-numbered t c =
    let p = c.in-Fork in
    IfOk-weaker c.whole_shape.result _ _
    (λ r e. fork_turn (scope_of c.args.scope) c.args.shape.value r.value c.in_ok-yes.field-0 p.yes p.no c.in_ok-yes-in-Fork.yes c.in_ok-no-in-Fork.no p.convertible c.in_ok-yes.ensures p.is c.in_ok-yes-in-Fork.ensures.numbered c.in_ok-no-in-Fork.ensures.numbered e)
    c.whole_shape.ensures

pub number_shape-returns-in_ok-no-in-Fork-clause-settled : goal.number_shape-returns-in_ok-no-in-Fork-clause-settled
number_shape-returns-in_ok-no-in-Fork-clause-settled t c =
    IfOk-weaker c.whole_shape.result _ _
    (λ r e. ap is_shape_settled e ∙ fork_settled c.in_ok-yes-in-Fork.yes c.in_ok-no-in-Fork.no c.in-Fork.convertible c.in_ok-yes-in-Fork.ensures.settled c.in_ok-no-in-Fork.ensures.settled) c.whole_shape.ensures

pub number_shape-returns-in_ok-step-in-Loop-clause-numbered : goal.number_shape-returns-in_ok-step-in-Loop-clause-numbered
number_shape-returns-in_ok-step-in-Loop-clause-numbered t c =
    let p = c.in-Loop in
    IfOk-weaker c.whole_shape-in-Loop.result _ _
    (λ r e. loop_turn (scope_of c.args.scope) c.args.shape.value r.value c.in_ok-yes.field-0 p.post p.test p.body c.in_ok-test-in-Loop.test c.in_ok-body-in-Loop.body p.step c.in_ok-step-in-Loop.step p.eligible c.is_apart.result
    c.in_ok-yes.ensures p.is c.is_apart.ensures c.in_ok-test-in-Loop.ensures.numbered c.in_ok-body-in-Loop.ensures.numbered c.in_ok-step-in-Loop.ensures.numbered e)
    c.whole_shape-in-Loop.ensures

pub number_shape-returns-in_ok-step-in-Loop-clause-settled : goal.number_shape-returns-in_ok-step-in-Loop-clause-settled
number_shape-returns-in_ok-step-in-Loop-clause-settled t c =
    let p = c.in-Loop in
    IfOk-weaker c.whole_shape-in-Loop.result _ _
    (λ r e. ap is_shape_settled e ∙ loop_settled p.post c.in_ok-test-in-Loop.test c.in_ok-body-in-Loop.body c.in_ok-step-in-Loop.step p.eligible
    c.in_ok-test-in-Loop.ensures.settled c.in_ok-body-in-Loop.ensures.settled c.in_ok-step-in-Loop.ensures.settled) c.whole_shape-in-Loop.ensures

pub number_shape-returns-in_ok-arms-in-Choose-clause-numbered : goal.number_shape-returns-in_ok-arms-in-Choose-clause-numbered
number_shape-returns-in_ok-arms-in-Choose-clause-numbered t c =
    let p = c.in-Choose in
    IfOk-weaker c.whole_shape-in-Choose.result _ _
    (λ r e. switch_turn (scope_of c.args.scope) c.args.shape.value r.value c.in_ok-yes.field-0 p.dead c.in_ok-dead-in-Choose.dead p.targets p.other p.arms c.in_ok-arms-in-Choose.arms
    c.in_ok-yes.ensures p.is c.in_ok-dead-in-Choose.ensures.numbered c.in_ok-arms-in-Choose.ensures.numbered e)
    c.whole_shape-in-Choose.ensures

pub number_shape-returns-in_ok-arms-in-Choose-clause-settled : goal.number_shape-returns-in_ok-arms-in-Choose-clause-settled
number_shape-returns-in_ok-arms-in-Choose-clause-settled t c =
    let p = c.in-Choose in
    IfOk-weaker c.whole_shape-in-Choose.result _ _
    (λ r e. ap is_shape_settled e ∙ switch_settled c.in_ok-dead-in-Choose.dead p.targets p.other c.in_ok-arms-in-Choose.arms c.in_ok-dead-in-Choose.ensures.settled c.in_ok-arms-in-Choose.ensures.settled)
    c.whole_shape-in-Choose.ensures

pub number_shape-returns-in-Land-clause-numbered : goal.number_shape-returns-in-Land-clause-numbered
number_shape-returns-in-Land-clause-numbered t c =
    IfOk-weaker c.whole_shape-in-Land.result _ _ (λ r e. land_turn (scope_of c.args.scope) c.args.shape.value r.value c.in_ok-yes.field-0 c.in-Land.number c.in_ok-yes.ensures c.in-Land.is e) c.whole_shape-in-Land.ensures

pub number_shape-returns-in-Land-clause-settled : goal.number_shape-returns-in-Land-clause-settled
number_shape-returns-in-Land-clause-settled t c = IfOk-weaker c.whole_shape-in-Land.result _ _ (λ r e. ap is_shape_settled e ∙ land_settled c.in-Land.number) c.whole_shape-in-Land.ensures

pub number_shape-returns-in-Overlapped-clause-numbered : goal.number_shape-returns-in-Overlapped-clause-numbered
number_shape-returns-in-Overlapped-clause-numbered t c =
    let p = c.in-Overlapped in
    IfOk-weaker c.whole_shape-in-Overlapped.result _ _ (λ r e. overlapped_turn (scope_of c.args.scope) c.args.shape.value r.value c.in_ok-yes.field-0 p.point p.body c.in_ok-yes.ensures p.is e) c.whole_shape-in-Overlapped.ensures

pub number_shape-returns-in-Overlapped-clause-settled : goal.number_shape-returns-in-Overlapped-clause-settled
number_shape-returns-in-Overlapped-clause-settled t c = IfOk-weaker c.whole_shape-in-Overlapped.result _ _ (λ r e. ap is_shape_settled e ∙ overlapped_settled c.in-Overlapped.point c.in-Overlapped.body) c.whole_shape-in-Overlapped.ensures
