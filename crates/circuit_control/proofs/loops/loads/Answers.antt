use Rattle.std.proofs.Common.{◌<◌, ◌≤◌, ℕ, Some, length, take, sym, ap, subst, arith}
use Rattle.std.specs.Prelude.{◌&&◌, ◌||◌, Bool, false}
use Rattle.std.specs.List.{list_any}
use Rattle.clock_ir.specs.ClockRuns.{TimedNode}
use Rattle.datapath.specs.Plans.{numbered}
use Rattle.datapath.specs.Cycles.{Load, Cycle, holds}
use Rattle.datapath.specs.Control.{is_loop, is_loading}
use Rattle.circuit_control.specs.Gathered.{TellTogether}
use Rattle.circuit_control.proofs.Numbered.{any_more, all_taken, node_below, count_is}
use Rattle.circuit_control.proofs.Wanted.{none_together, together_as}
use Rattle.circuit_control.proofs.loops.loads.Goals as goal

pub loop-number-init : goal.loop-number-init
loop-number-init c = λ p names d context begun. subst (λ l. TellTogether p names d l (λ (x : Cycle). false)) (sym c.new-all.ensures.items) (none_together p names d)

pub loop-number-preserved : goal.loop-number-preserved
loop-number-preserved c = λ p names d context begun.
    let i = c.loop-number.number in
    let less : i < length c.args.of.now.cfg.now.nodes.items = omega arith in
    let n = node_below p names c.args.of.now i context less in
    let before : Cycle → Bool = λ (x : Cycle). list_any (λ (m : ℕ × TimedNode). is_loop (Some m.1) && holds x (Load m.0)) (take i (numbered p)) in
    together_as p names d _ (λ (x : Cycle). before x || (is_loop (Some n.0) && holds x (Load i))) _ (λ (x : Cycle). sym (any_more p (λ (m : ℕ × TimedNode). is_loop (Some m.1) && holds x (Load m.0)) i n.0 n.1))
    (c.in_ok-add_load.ensures p names d n.0 before context begun n.1 (c.loop-number.invariant p names d context begun))

pub returns : goal.returns
returns c = λ p names d context begun.
    let i = c.loop-number.number in
    let past : length c.args.of.now.cfg.now.nodes.items ≤ i = omega arith in
    together_as p names d _ _ (is_loading p)
    (λ (x : Cycle). ap (list_any (λ (m : ℕ × TimedNode). is_loop (Some m.1) && holds x (Load m.0))) (all_taken p i (subst (λ m. m ≤ i) (sym (count_is p names c.args.of.now context)) past))) (c.loop-number.invariant p names d context begun)

pub add_load-requires : goal.add_load-requires
add_load-requires c = omega (arith, c.loop-number-test.true, c.len-number-end.ensures)
