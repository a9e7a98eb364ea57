use Rattle.std.proofs.Common.{◌<◌, ◌≤◌, length, subst, sym, arith, ap, take}
use Rattle.std.specs.Prelude.{flat_map}
use Rattle.rtl_logic.specs.Making.{circuit}
use Rattle.rtl_logic.proofs.Making.{appended}
use Rattle.datapath.specs.Plans.{numbered}
use Rattle.circuit_context.specs.Wanted.Entries.{moves_of, state_entries}
use Rattle.circuit_context.proofs.WantedLemmas.Joining.{pushes_later, logs_none, logs_then}
use Rattle.circuit_control.proofs.Numbered.{entries_more, all_taken, node_below, count_is}
use Rattle.circuit_control.proofs.Pieces.{logs_as}
use Rattle.circuit_control.proofs.control.write_states.Goals as goal

pub loop-number-init : goal.loop-number-init
loop-number-init c = λ p names pushes context begun are holds_. logs_none p names (circuit c.args.logic.now) c.args.log.now.pushes.items begun

pub loop-number-preserved : goal.loop-number-preserved
loop-number-preserved c = λ p names pushes context begun are holds_.
    let d = circuit c.args.logic.now in
    let e = circuit c.loop-number.logic in
    let f = circuit c.write_state.new.logic in
    let h = c.loop-number.invariant p names pushes context begun are holds_ in
    let i = c.loop-number.number in
    let less : i < length c.args.of.now.cfg.now.nodes.items = omega arith in
    let n = node_below p names c.args.of.now i context less in
    let one = c.in_ok-write_state.ensures p names pushes n.0 context h.begun (pushes_later p names d e pushes (moves_of p) (appended d e h.appends) are) holds_ n.1 in
    logs_as p names d f c.args.log.now.pushes.items c.write_state.new.log.pushes.items _ _ (sym (entries_more p (state_entries p) i n.0 n.1))
    (logs_then p names d e f c.args.log.now.pushes.items c.loop-number.log.pushes.items c.write_state.new.log.pushes.items (flat_map (state_entries p) (take i (numbered p))) (state_entries p (i, n.0)) h one)

pub returns : goal.returns
returns c = λ p names pushes context begun are holds_.
    let i = c.loop-number.number in
    let past : length c.args.of.now.cfg.now.nodes.items ≤ i = omega arith in
    logs_as p names (circuit c.args.logic.now) (circuit c.loop-number.logic) c.args.log.now.pushes.items c.loop-number.log.pushes.items _ _
    (ap (flat_map (state_entries p)) (all_taken p i (subst (λ m. m ≤ i) (sym (count_is p names c.args.of.now context)) past))) (c.loop-number.invariant p names pushes context begun are holds_)

pub write_state-requires : goal.write_state-requires
write_state-requires c = omega (arith, c.loop-number-test.true, c.len-number-end.ensures)
