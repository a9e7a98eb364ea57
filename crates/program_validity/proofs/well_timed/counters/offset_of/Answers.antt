use Rattle.std.proofs.Common.{◌<◌, map, length, sym, ap, ◌∙◌, arith}
use Rattle.std.proofs.lemmas.List.{length-map}
use Rattle.ir_core.specs.declared.body.Operand.{Operand}
use Rattle.dep_graph.specs.Offsets.{nth}
use Rattle.program_validity.specs.Untimed.{untimed_op, untimed_body}
use Rattle.program_validity.specs.Sums.{offset_among}
use Rattle.program_validity.proofs.WellTimed.Lists.{nth_read}
use Rattle.program_validity.proofs.WellTimed.Sums.{step_on, back_on, back_past, among_all, at_end}
use Rattle.program_validity.proofs.well_timed.counters.offset_of.Goals as goal

pub loop-sum-init : goal.loop-sum-init
loop-sum-init c =
    let b = c.args.body.now in
    let count = length-map b.ops.items untimed_op in
    record {
      value = among_all (untimed_body b) c.len-limit.result c.args.subscript c.args.guard (omega (arith, count, c.len-limit.ensures, b.ops.ok.0));
      small = omega arith;
      within = omega (arith, c.len-limit.ensures, b.ops.ok.0);
    }

pub returns-then-number-limit-clause-value : goal.returns-then-number-limit-clause-value
returns-then-number-limit-clause-value c =
    let b = untimed_body c.args.body.now in
    let l = c.loop-sum in
    let n = c.number_of_op-number in
    sym (back_past b l.limit c.in-Result.op c.args.guard l.sum.constant (omega (arith, n.ensures.value, c.if-number-limit.true)))
    ∙ ap (λ x. offset_among b l.limit x l.sum.constant c.args.guard) (sym c.in-Result.is) ∙ l.invariant.value

pub returns-in_err-inner-clause-value : goal.returns-in_err-inner-clause-value
returns-in_err-inner-clause-value c =
    let b = untimed_body c.args.body.now in
    let l = c.loop-sum in
    let j = c.in-Result.op in
    let n = c.number_of_op-number in
    let within : n.result < length c.args.body.now.ops.items = omega (arith, l.invariant.within, c.if-number-limit.false) in
    let at = ap (nth (map untimed_op c.args.body.now.ops.items)) (sym n.ensures.value) ∙ nth_read untimed_op c.args.body.now.ops.items n.result c.index.result.now within c.index.ensures in
    let before : j.0 < l.limit = omega (arith, n.ensures.value, c.if-number-limit.false) in
    let here = ap (λ x. offset_among b l.limit x l.sum.constant c.args.guard) c.in-Result.is ∙ back_on b l.limit j (untimed_op c.index.result.now) c.args.guard l.sum.constant before at in
    let none = sym c.addition_under.ensures.value ∙ c.in_err-inner.was in
    c.from_residual.ensures ∙ sym (ap (λ a. step_on b j.0 a l.sum.constant c.args.guard) none) ∙ sym here ∙ l.invariant.value

pub loop-sum-preserved : goal.loop-sum-preserved
loop-sum-preserved c =
    let b = untimed_body c.args.body.now in
    let l = c.loop-sum in
    let j = c.in-Result.op in
    let n = c.number_of_op-number in
    let inner = c.in_ok-inner.inner in
    let sum = c.both_added-sum in
    let within : n.result < length c.args.body.now.ops.items = omega (arith, l.invariant.within, c.if-number-limit.false) in
    let at = ap (nth (map untimed_op c.args.body.now.ops.items)) (sym n.ensures.value) ∙ nth_read untimed_op c.args.body.now.ops.items n.result c.index.result.now within c.index.ensures in
    let before : j.0 < l.limit = omega (arith, n.ensures.value, c.if-number-limit.false) in
    let here = ap (λ x. offset_among b l.limit x l.sum.constant c.args.guard) c.in-Result.is ∙ back_on b l.limit j (untimed_op c.index.result.now) c.args.guard l.sum.constant before at in
    let some = sym c.addition_under.ensures.value ∙ c.in_ok-inner.was in
    let next = ap (λ a. step_on b j.0 a l.sum.constant c.args.guard) some in
    let short = c.in_ok-inner.ensures.small in
    record {
      value =
          ap (λ m. offset_among b m sum.result.operand.value sum.result.constant c.args.guard) n.ensures.value
          ∙ ap (λ x. offset_among b j.0 x sum.result.constant c.args.guard) (ap (λ (o : Operand). o.value) sum.ensures.operand)
          ∙ ap (λ k. offset_among b j.0 inner.operand.value k c.args.guard) sum.ensures.constant ∙ sym next ∙ sym here ∙ l.invariant.value;
      small = omega (arith, short, sum.ensures.small, l.invariant.small, c.if-number-limit.false, n.ensures.within);
      within = omega (arith, within);
    }

pub returns : goal.returns
returns c = record {
  value = c.counted.ensures.value ∙ sym (at_end (untimed_body c.args.body.now) c.loop-sum.limit c.loop-sum.sum.operand.value c.loop-sum.sum.constant c.args.guard c.in_default.not-Result) ∙ c.loop-sum.invariant.value;
  small = c.counted.ensures.small;
}
