use Rattle.std.proofs.Common.{◌∙◌, map, ap}
use Rattle.std.proofs.lemmas.List.{take_all}
use Rattle.clock_ir.specs.ClockRuns.{timed_node}
use Rattle.rtl_logic.specs.Making.{circuit}
use Rattle.datapath.specs.Plans as plans
use Rattle.datapath.specs.Cycles.{Cycle}
use Rattle.datapath.specs.Control.{leaves_as}
use Rattle.datapath.specs.Values.{out_value}
use Rattle.circuit_context.specs.Wanted.Entries.{out_entry}
use Rattle.fsm_datapath.proofs.Listing.{logs_as, logs_mapped}
use Rattle.fsm_datapath.proofs.Standing.{same_node, outs_stand}
use Rattle.fsm_datapath.proofs.Outs.{out_among}
use Rattle.std.proofs.lemmas.Option.{slice_get-get_or}
use Rattle.fsm_datapath.proofs.ends.write_outs.Goals as goal

pub loop-out-preserved : goal.loop-out-preserved
loop-out-preserved c = λ p names n h begun computed answers stands leaving.
    let d = circuit c.args.logic.now in
    let i = c.args.leaving.node.0 in
    logs_mapped p names d d d _ _ _ (out_entry p (i, n)) c.deref-out-items.result.now c.loop-out.out-index _ c.loop-out-test.true (c.loop-out.invariant p names n h begun computed answers stands leaving)
    (c.in_ok-take.ensures p names (λ (x : Cycle). leaves_as p x i n) (λ (x : Cycle). out_value p x i n _) h begun leaving (c.in_ok-value.ensures p names n h begun computed answers stands))

pub returns : goal.returns
returns c = λ p names n h begun computed answers stands leaving.
    let d = circuit c.args.logic.now in
    let i = c.args.leaving.node.0 in
    let m = timed_node c.node_at-node.result.now in
    let same = same_node p i m n (c.node_at-node.ensures.timed p names h) stands in
    let all = outs_stand p i n (plans.body_of m).interval c.body_of.result.now c.deref-out-items.result.now c.deref.result.now c.in_ok-behind.behind (c.body_of.ensures ∙ ap plans.body_of same)
    c.deref.ensures.value (c.in_ok-behind.ensures p names h) (c.deref-out-items.ensures.value ∙ c.in_ok-live.ensures) in
    logs_as p names d d _ _ _ _ (ap (map (out_entry p (i, n))) (take_all c.loop-out.out-index c.deref-out-items.result.now c.loop-out-test.false) ∙ all)
    (c.loop-out.invariant p names n h begun computed answers stands leaving)

pub out_value-requires : goal.out_value-requires
out_value-requires c =
    let outs = c.deref-out-items.result.now in
    out_among c.args.of.now c.args.leaving.node.0 c.node_at-node.result.now c.body_of.result.now c.deref.result.now outs _ c.loop-out.out-index c.in_ok-behind.behind c.node_at-node.ensures.stands c.body_of.ensures c.deref.ensures.value
    (c.deref-out-items.ensures.value ∙ c.in_ok-live.ensures) (slice_get-get_or outs c.loop-out.out-index _ c.loop-out-test.true)
