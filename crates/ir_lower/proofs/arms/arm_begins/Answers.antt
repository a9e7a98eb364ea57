use Rattle.std.proofs.Common.{◌∙◌, ap, sym, false, ◌&&◌, ◌||◌, get_or}
use Rattle.std.specs.Prelude.{nat_lt}
use Rattle.std.proofs.lemmas.List.{drop_all}
use Rattle.passes.specs.Lowering.{is_named}
use Rattle.ir_lower.specs.Arms.{begins_arm}
use Rattle.ir_lower.proofs.Arming.{marks_step, none_left}
use Rattle.ir_lower.proofs.arms.arm_begins.Goals as goal

pub loop-label-preserved : goal.loop-label-preserved
loop-label-preserved c =
    let labels = c.args.labels.now in
    let before = c.loop-label.invariant in record {
      count = c.mark.ensures.count ∙ before.count;
      marks = marks_step (begins_arm labels c.args.pieces) labels c.loop-label.label-index _ c.args.pieces c.loop-label.named.items c.mark.new.named.items c.loop-label-test.true before.count c.mark.ensures.marks before.marks;
    }

pub returns : goal.returns
returns c = λ i.
    let named = c.loop-label.named.items in
    let n = c.args.pieces in
    sym (none_left (get_or named i false) (nat_lt i n)) ∙ ap (λ l. get_or named i false || (nat_lt i n && is_named l i)) (sym (drop_all c.loop-label.label-index c.args.labels.now c.loop-label-test.false)) ∙ c.loop-label.invariant.marks i
