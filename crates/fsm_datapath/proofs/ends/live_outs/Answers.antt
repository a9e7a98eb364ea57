use Rattle.std.proofs.Common.{◌∙◌, sym, ap}
use Rattle.std.specs.Prelude.{filter}
use Rattle.std.proofs.lemmas.List.{take_all}
use Rattle.ir_core.specs.declared.body.Out.{Out}
use Rattle.reg_binding.specs.Sets.{has}
use Rattle.fsm_datapath.proofs.Listing.{kept_one, left_one}
use Rattle.fsm_datapath.proofs.ends.live_outs.Goals as goal
use Rattle.fsm_datapath.proofs.ends.live_outs.Goals.{then-contains+in_ok-push, else-contains}

pub loop-out-preserved : goal.loop-out-preserved
loop-out-preserved c =
    elim c.if-contains.branch [
      | then-contains+in_ok-push w ↦
          kept_one (λ (x : Out). has c.args.behind.now x.variable.0) c.args.outs.now c.loop-out.out-index _ c.loop-out.live.items c.if-contains.live.items c.loop-out-test.true c.loop-out.invariant
          (ap (λ v. v.items) w.live-is ∙ w.in_ok-push.ensures.items) (sym c.contains.ensures ∙ w.if-contains.true)
      | else-contains w ↦
          left_one (λ (x : Out). has c.args.behind.now x.variable.0) c.args.outs.now c.loop-out.out-index _ c.loop-out.live.items c.if-contains.live.items c.loop-out-test.true c.loop-out.invariant
          (ap (λ v. v.items) w.live-is) (sym c.contains.ensures ∙ w.if-contains.false)
    ]

pub returns : goal.returns
returns c = c.loop-out.invariant ∙ ap (filter (λ (x : Out). has c.args.behind.now x.variable.0)) (take_all c.loop-out.out-index c.args.outs.now c.loop-out-test.false)
