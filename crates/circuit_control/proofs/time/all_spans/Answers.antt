use Rattle.std.proofs.Common.{◌<◌, ◌≤◌, length, take, sym, ap, ◌∙◌, subst, arith}
use Rattle.std.specs.Prelude.{◌&&◌, ◌||◌, Bool}
use Rattle.std.specs.List.{list_any}
use Rattle.std.proofs.Math.Bool.{or-false}
use Rattle.rtl_logic.specs.Making.{circuit}
use Rattle.datapath.specs.Plans.{numbered, span}
use Rattle.datapath.specs.Cycles.{Cycle}
use Rattle.datapath.specs.Control.{stays_as, is_within, goes_on}
use Rattle.circuit_control.specs.Spans.{initial_goes, node_goes}
use Rattle.circuit_control.proofs.Numbered.{any_more, all_taken, node_below, count_is}
use Rattle.circuit_control.proofs.Pieces.{or_apart}
use Rattle.circuit_control.proofs.Within.{one_span, spans_as}
use Rattle.circuit_control.proofs.time.all_spans.Goals as goal

pub loop-number-init : goal.loop-number-init
loop-number-init c = λ p names context begun.
    let d = circuit c.args.logic.now in
    spans_as p names d d c.in_ok-all.all.items (initial_goes p) _ (λ (x : Cycle). sym (or-false (initial_goes p x))) (c.in_ok-all.ensures p names d context begun)

pub loop-number-preserved : goal.loop-number-preserved
loop-number-preserved c = λ p names context begun.
    let d = circuit c.args.logic.now in
    let e = circuit c.loop-number.logic in
    let f = circuit c.node_span.new.logic in
    let i = c.loop-number.number in
    let less : i < length c.args.of.now.cfg.now.nodes.items = omega arith in
    let n = node_below p names c.args.of.now i context less in
    let before : Cycle → Bool = λ (x : Cycle). initial_goes p x || list_any (node_goes p x) (take i (numbered p)) in
    let h = c.loop-number.invariant p names context begun in
    let one = c.in_ok-node_span.ensures p names n.0 context h.begun n.1 in
    spans_as p names d f c.push.new.self.items (λ (x : Cycle). before x || (stays_as p x i n.0 && is_within x (span p i))) _
    (λ (x : Cycle). or_apart (initial_goes p x) (list_any (node_goes p x) (take i (numbered p))) (stays_as p x i n.0 && is_within x (span p i)) ∙ ap (λ b. initial_goes p x || b) (sym (any_more p (node_goes p x) i n.0 n.1)))
    (one_span p names d e f c.loop-number.all.items c.push.new.self.items c.in_ok-node_span.field-0 before (λ (x : Cycle). stays_as p x i n.0) (span p i) h c.in_ok-push.ensures.items one.0 one.1)

pub returns : goal.returns
returns c = λ p names context begun.
    let i = c.loop-number.number in
    let past : length c.args.of.now.cfg.now.nodes.items ≤ i = omega arith in
    spans_as p names (circuit c.args.logic.now) (circuit c.loop-number.logic) c.loop-number.all.items _ (goes_on p)
    (λ (x : Cycle). ap (λ l. initial_goes p x || list_any (node_goes p x) l) (all_taken p i (subst (λ m. m ≤ i) (sym (count_is p names c.args.of.now context)) past))) (c.loop-number.invariant p names context begun)

pub node_span-requires : goal.node_span-requires
node_span-requires c = omega (arith, c.loop-number-test.true, c.len-number-end.ensures)
