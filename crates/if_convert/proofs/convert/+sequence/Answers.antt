use Rattle.std.proofs.Common.{◌≡◌, ◌∙◌, ◌∷◌, [], arith, ap, sym, refl, subst, map, length, Vec, Global}
use Rattle.std.specs.Vec.Iter.{into_iter_items, into_iter_steps}
use Rattle.std.proofs.lemmas.List.{length-map, map-append}
use Rattle.std.proofs.lemmas.Result.{IfOk-weaker}
use Rattle.ir_core.specs.declared.tree.Part.{Part}
use Rattle.ir_core.specs.Trees.{sequence_of, shape_of, part_of, part_row, arm_row}
use Rattle.passes.specs.Conversion.{converted_behind, converted_shape, converted_arms}
use Rattle.if_convert.specs.Blocks.{scope_of, last_of, before_last}
use Rattle.if_convert.proofs.Counting.{fewer_parts, fewer_arms}
use Rattle.if_convert.proofs.Rows.{arms_turn, behind_turn, behind_whole, no_items, rest_of, sequence_out, dead_parts}
use Rattle.if_convert.proofs.Turning.{fork_turn, loop_turn, switch_turn, land_turn, overlapped_turn, sequence_turn, part_turn}
use Rattle.if_convert.proofs.convert.+sequence.Goals as goal

pub convert_arms-loop-arm-preserved : goal.convert_arms-loop-arm-preserved
convert_arms-loop-arm-preserved t c =
    let step = subst (λ r. into_iter_steps c.loop-arm.arm-iterator r c.next.new.self) c.in-Some.is c.next.ensures.steps in
    let scope = scope_of c.args.scope in
    let gone = c.loop-arm.yielded in
    record {
      fewer = omega (arith, fewer_arms c.in-Some.arm.value (map (λ b. b.value) (into_iter_items c.next.new.self)) (map (λ b. b.value) (into_iter_items c.loop-arm.arm-iterator)) _ (ap (map (λ b. b.value)) step.0) c.loop-arm.invariant.fewer);
      done =
          ap (λ l. arm_row (map sequence_of l)) c.in_ok-push_from.ensures
          ∙ arms_turn scope c.loop-arm.done.items c.in_ok-arm.arm.value (map (λ b. b.value) gone) c.in-Some.arm.value c.loop-arm.invariant.done c.in_ok-arm.ensures
          ∙ sym (ap (λ l. converted_arms scope (arm_row (map sequence_of l))) (map-append (λ b. b.value) gone (c.in-Some.arm ∷ [])));
    }

pub convert_behind-loop-part-preserved : goal.convert_behind-loop-part-preserved
convert_behind-loop-part-preserved t c =
    let step = subst (λ r. into_iter_steps c.loop-part.part-iterator r c.next.new.self) c.in-Some.is c.next.ensures.steps in
    let scope = scope_of c.args.scope in
    let part = c.in-Some.part.value in
    let items = map (λ b. b.value) (into_iter_items c.loop-part.part-iterator) in
    let rest = map (λ b. b.value) (into_iter_items c.next.new.self) in
    record {
      fewer = omega (arith, fewer_parts part rest items _ (ap (map (λ b. b.value)) step.0) c.loop-part.invariant.fewer);
      left =
          behind_turn scope (before_last c.args.line.value (converted_behind scope (last_of c.args.line.value) (part_row (map part_of c.args.parts.items)))) c.loop-part.line.value c.in_ok-line.line.value part
          items rest (converted_shape scope (shape_of part.shape)) (ap (map (λ b. b.value)) step.0) refl c.in_ok-line.ensures c.loop-part.invariant.left;
    }

pub convert_behind-returns : goal.convert_behind-returns
convert_behind-returns t c =
    let step = subst (λ r. into_iter_steps c.loop-part.part-iterator r c.next.new.self) c.in-None.is c.next.ensures.steps in
    let scope = scope_of c.args.scope in
    let ok = c.loop-part.part-iterator.rest.ok in
    let len = step.0 in
    let left = into_iter_items c.loop-part.part-iterator in
    let none : length left ≡ 0 = omega (arith, ok, len) in
    IfOk-weaker c.close.result _ _
    (λ s e. behind_whole scope (before_last c.args.line.value (converted_behind scope (last_of c.args.line.value) (part_row (map part_of c.args.parts.items)))) c.loop-part.line.value (map (λ b. b.value) left) (sequence_of s.value)
    (no_items (map (λ b. b.value) left) (length-map left (λ b. b.value) ∙ none)) c.loop-part.invariant.left e)
    c.close.ensures

pub convert_sequence-returns : goal.convert_sequence-returns
convert_sequence-returns t c =
    IfOk-weaker c.convert_behind.result _ _
    (λ r e. sequence_turn (scope_of c.args.scope) c.args.sequence.value c.in_ok-first.field-0.first.value c.in_ok-first.field-0.rest c.in_ok-line.line.value (sequence_of r.value)
    c.in_ok-first.ensures.first c.in_ok-first.ensures.rest c.in_ok-line.ensures.last c.in_ok-line.ensures.before e)
    c.convert_behind.ensures

pub convert_dead-returns : goal.convert_dead-returns
convert_dead-returns t c =
    let scope = scope_of c.args.scope in
    let s = c.in_ok-sequence.sequence.value in
    let parts = part_row (map part_of c.args.dead.items) in
    ap (λ (r : Vec Part Global). part_row (map part_of r.items)) c.in_ok-rest.ensures.rest
    ∙ ap rest_of (sym (sequence_out s)) ∙ dead_parts scope (last_of c.in_ok-line.line.value) c.in_ok-line.ensures.last parts (sequence_of s) (c.in_ok-sequence.ensures ∙ c.in_ok-line.ensures.before _)

pub convert_part-returns : goal.convert_part-returns
convert_part-returns t c = λ more.
    let scope = scope_of c.args.scope in
    IfOk-weaker c.go_on.result _ _
    (λ gone e. part_turn scope c.args.line.value c.args.part.value c.in_ok-shape.field-0.shape.value c.in_ok-shape.field-0.after.value (shape_of c.in_ok-shape-2.shape.value) more
    (before_last gone.value (converted_behind scope (last_of gone.value) more)) c.in_ok-shape.ensures.shape c.in_ok-shape.ensures.after c.in_ok-shape-2.ensures e)
    (c.go_on.ensures more)

pub convert_shape-returns-in_ok-no-in-Fork : goal.convert_shape-returns-in_ok-no-in-Fork
convert_shape-returns-in_ok-no-in-Fork t c =
    let p = c.in-Fork in
    IfOk-weaker c.whole_shape.result _ _
    (λ r e. fork_turn (scope_of c.args.scope) c.args.shape.value r.value c.in_ok-yes.field-0 p.yes p.no c.in_ok-yes-in-Fork.yes c.in_ok-no-in-Fork.no p.convertible c.in_ok-yes.ensures p.is c.in_ok-yes-in-Fork.ensures c.in_ok-no-in-Fork.ensures e)
    c.whole_shape.ensures

pub convert_shape-returns-in_ok-step-in-Loop : goal.convert_shape-returns-in_ok-step-in-Loop
convert_shape-returns-in_ok-step-in-Loop t c =
    let p = c.in-Loop in
    IfOk-weaker c.converted_loop.result _ _
    (λ r e. loop_turn (scope_of c.args.scope) c.args.shape.value c.in_ok-yes.field-0 p.post p.test p.body c.in_ok-test-in-Loop.test c.in_ok-body-in-Loop.body p.step c.in_ok-step-in-Loop.step p.eligible c.overlaps.result (shape_of r.value)
    c.in_ok-yes.ensures p.is c.overlaps.ensures c.in_ok-test-in-Loop.ensures c.in_ok-body-in-Loop.ensures c.in_ok-step-in-Loop.ensures e)
    c.converted_loop.ensures

pub convert_shape-returns-in_ok-arms-in-Choose : goal.convert_shape-returns-in_ok-arms-in-Choose
convert_shape-returns-in_ok-arms-in-Choose t c =
    let p = c.in-Choose in
    IfOk-weaker c.whole_shape-in-Choose.result _ _
    (λ r e. switch_turn (scope_of c.args.scope) c.args.shape.value r.value c.in_ok-yes.field-0 p.dead c.in_ok-dead-in-Choose.dead p.targets p.other p.arms c.in_ok-arms-in-Choose.arms c.in_ok-yes.ensures p.is c.in_ok-dead-in-Choose.ensures c.in_ok-arms-in-Choose.ensures e)
    c.whole_shape-in-Choose.ensures

pub convert_shape-returns-in-Land : goal.convert_shape-returns-in-Land
convert_shape-returns-in-Land t c =
    IfOk-weaker c.whole_shape-in-Land.result _ _ (λ r e. land_turn (scope_of c.args.scope) c.args.shape.value r.value c.in_ok-yes.field-0 c.in-Land.number c.in_ok-yes.ensures c.in-Land.is e) c.whole_shape-in-Land.ensures

pub convert_shape-returns-in-Overlapped : goal.convert_shape-returns-in-Overlapped
convert_shape-returns-in-Overlapped t c =
    let p = c.in-Overlapped in
    IfOk-weaker c.whole_shape-in-Overlapped.result _ _ (λ r e. overlapped_turn (scope_of c.args.scope) c.args.shape.value r.value c.in_ok-yes.field-0 p.point p.body c.in_ok-yes.ensures p.is e) c.whole_shape-in-Overlapped.ensures
