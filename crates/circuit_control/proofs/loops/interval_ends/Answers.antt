use Rattle.std.proofs.Common.{◌<◌, ◌≤◌, ℕ, Some, length, take, sym, ap, subst, arith}
use Rattle.std.specs.Prelude.{◌&&◌, ◌||◌, ◌-◌, Bool, false}
use Rattle.std.specs.List.{list_any}
use Rattle.rtl_logic.specs.Making.{circuit}
use Rattle.clock_ir.specs.ClockRuns.{TimedNode}
use Rattle.datapath.specs.Plans.{numbered, body_at}
use Rattle.datapath.specs.Cycles.{Cycle}
use Rattle.datapath.specs.Reading.{at}
use Rattle.datapath.specs.Control.{is_loop, ends_interval}
use Rattle.circuit_control.specs.Gathered.{MakesTogether}
use Rattle.circuit_control.proofs.Numbered.{any_more, all_taken, node_below, count_is}
use Rattle.circuit_control.proofs.Wanted.{none_made, made_as}
use Rattle.circuit_control.proofs.loops.interval_ends.Goals as goal

pub loop-number-init : goal.loop-number-init
loop-number-init c = λ p names context begun.
    let d = circuit c.args.logic.now in
    subst (λ l. MakesTogether p names d d l (λ (x : Cycle). false)) (sym c.new-all.ensures.items) (none_made p names d begun)

pub loop-number-preserved : goal.loop-number-preserved
loop-number-preserved c = λ p names context begun.
    let d = circuit c.args.logic.now in
    let i = c.loop-number.number in
    let less : i < length c.args.of.now.cfg.now.nodes.items = omega arith in
    let n = node_below p names c.args.of.now i context less in
    let before : Cycle → Bool = λ (x : Cycle). list_any (λ (m : ℕ × TimedNode). is_loop (Some m.1) && at p x m.0 ((body_at p m.0).interval - 1)) (take i (numbered p)) in
    made_as p names d (circuit c.add_end.new.logic) c.add_end.new.all.items (λ (x : Cycle). before x || (is_loop (Some n.0) && at p x i ((body_at p i).interval - 1))) _
    (λ (x : Cycle). sym (any_more p (λ (m : ℕ × TimedNode). is_loop (Some m.1) && at p x m.0 ((body_at p m.0).interval - 1)) i n.0 n.1))
    (c.in_ok-add_end.ensures p names d n.0 before context n.1 (c.loop-number.invariant p names context begun))

pub returns : goal.returns
returns c = λ p names context begun.
    let i = c.loop-number.number in
    let past : length c.args.of.now.cfg.now.nodes.items ≤ i = omega arith in
    made_as p names (circuit c.args.logic.now) (circuit c.loop-number.logic) c.loop-number.all.items _ (ends_interval p)
    (λ (x : Cycle). ap (list_any (λ (m : ℕ × TimedNode). is_loop (Some m.1) && at p x m.0 ((body_at p m.0).interval - 1))) (all_taken p i (subst (λ m. m ≤ i) (sym (count_is p names c.args.of.now context)) past)))
    (c.loop-number.invariant p names context begun)

pub add_end-requires : goal.add_end-requires
add_end-requires c = omega (arith, c.loop-number-test.true, c.len-number-end.ensures)
