use Rattle.std.proofs.Common.{◌<◌, ◌≤◌, length, subst, sym, arith, ap, take}
use Rattle.std.specs.Prelude.{flat_map}
use Rattle.rtl_logic.specs.Making.{circuit}
use Rattle.datapath.specs.Plans.{numbered}
use Rattle.circuit_context.specs.Wanted.Entries.{exit_entries}
use Rattle.circuit_context.proofs.WantedLemmas.Joining.{logs_none, logs_then}
use Rattle.circuit_control.proofs.Numbered.{entries_more, all_taken, node_below, count_is}
use Rattle.circuit_control.proofs.Pieces.{logs_as}
use Rattle.circuit_control.proofs.exits.write_exits.Goals as goal

pub loop-number-init : goal.loop-number-init
loop-number-init c = λ p names context begun. logs_none p names (circuit c.args.logic.now) c.args.log.now.pushes.items begun

pub loop-number-preserved : goal.loop-number-preserved
loop-number-preserved c = λ p names context begun.
    let h = c.loop-number.invariant p names context begun in
    let i = c.loop-number.number in
    let less : i < length c.args.of.now.cfg.now.nodes.items = omega arith in
    let n = node_below p names c.args.of.now i context less in
    logs_as p names (circuit c.args.logic.now) (circuit c.write_exit.new.logic) c.args.log.now.pushes.items c.write_exit.new.log.pushes.items _ _ (sym (entries_more p (exit_entries p) i n.0 n.1))
    (logs_then p names (circuit c.args.logic.now) (circuit c.loop-number.logic) (circuit c.write_exit.new.logic) c.args.log.now.pushes.items c.loop-number.log.pushes.items c.write_exit.new.log.pushes.items
    (flat_map (exit_entries p) (take i (numbered p))) (exit_entries p (i, n.0)) h (c.in_ok-write_exit.ensures p names n.0 context h.begun n.1))

pub returns : goal.returns
returns c = λ p names context begun.
    let i = c.loop-number.number in
    let past : length c.args.of.now.cfg.now.nodes.items ≤ i = omega arith in
    logs_as p names (circuit c.args.logic.now) (circuit c.loop-number.logic) c.args.log.now.pushes.items c.loop-number.log.pushes.items _ _
    (ap (flat_map (exit_entries p)) (all_taken p i (subst (λ m. m ≤ i) (sym (count_is p names c.args.of.now context)) past))) (c.loop-number.invariant p names context begun)

pub write_exit-requires : goal.write_exit-requires
write_exit-requires c = omega (arith, c.loop-number-test.true, c.len-number-end.ensures)
