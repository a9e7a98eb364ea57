use Rattle.std.proofs.Common.{◌∙◌, ◌++◌, ap, sym}
use Rattle.std.proofs.lemmas.List.{drop_all, append-nil}
use Rattle.passes.specs.Lowering.{targets}
use Rattle.ir_lower.proofs.Arming.{targets_step}
use Rattle.ir_lower.proofs.arms.targets.Goals as goal

pub loop-label-preserved : goal.loop-label-preserved
loop-label-preserved c =
    let labels = c.args.labels.now in
    targets_step (targets labels c.args.pieces labels) labels c.loop-label.label-index _ c.args.pieces c.arm_number.result c.loop-label.targets.items c.add_target.new.targets.items c.loop-label-test.true
    c.in_ok-add_target.ensures (c.arm_number.ensures ∙ c.in_ok-counts.ensures _) c.loop-label.invariant

pub returns : goal.returns
returns c =
    let labels = c.args.labels.now in
    let done = c.loop-label.targets.items in
    sym (append-nil done) ∙ ap (λ l. done ++ targets labels c.args.pieces l) (sym (drop_all c.loop-label.label-index labels c.loop-label-test.false)) ∙ c.loop-label.invariant
