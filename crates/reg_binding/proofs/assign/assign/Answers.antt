use Rattle.std.proofs.Common.{◌≡◌, ℕ, Bool, length, Some, arith, sym, ap, subst, ◌∙◌}
use Rattle.std.proofs.lemmas.Option.{slice_get-get_or}
use Rattle.reg_binding.specs.Sets.{has}
use Rattle.reg_binding.specs.Liveness.{summary_of, is_behind}
use Rattle.ir_core.specs.declared.timed.Timed.{Timed}
use Rattle.ir_core.specs.declared.cfg.Node.{Node}
use Rattle.reg_binding.specs.Lives.{node_lives, node_period}
use Rattle.reg_binding.specs.Assigned.{AddsRows, IsAssigned}
use Rattle.reg_binding.proofs.Rows.{IsAssigned-none, IsAssigned-more}
use Rattle.reg_binding.proofs.assign.assign.Goals as goal

pub loop-number-init : goal.loop-number-init
loop-number-init c = IsAssigned-none (λ node. is_behind c.args.live.now (summary_of node)) c.args.cfg.now.nodes.items _ c.new.ensures.items c.new-2.ensures.items

pub loop-number-preserved : goal.loop-number-preserved
loop-number-preserved c =
    let live = c.args.live.now in
    let n = c.loop-number.number in
    let node = c.index-node.result.now in
    let before = c.loop-number.registers in
    let after = c.assign_node.new.registers in
    let behind : Node Timed → ℕ → Bool = λ x. is_behind live (summary_of x) in
    let same : has c.in_ok-behind.behind ≡ behind node = λ i k. c.in_ok-behind.ensures.members c.requires.live.sized k i in
    let adds : AddsRows n (node_lives (behind node) node) (node_period node) before after =
    subst (λ (b : ℕ → Bool). AddsRows n (node_lives b node) (node_period node) before after) same c.in_ok-assign_node.ensures in
    IsAssigned-more behind c.args.cfg.now.nodes.items n node before after c.loop-number.invariant
    (slice_get-get_or c.args.cfg.now.nodes.items n node (omega (arith, c.loop-number-test.true, c.loop-number.auto.number-end, c.len-number-end.ensures)) ∙ ap Some (sym c.index-node.ensures)) adds

pub returns : goal.returns
returns c =
    let live = c.args.live.now in
    let nodes = c.args.cfg.now.nodes.items in
    let all : c.loop-number.number ≡ length nodes = omega (arith, c.loop-number-test.false, c.loop-number.auto.number-end, c.len-number-end.ensures) in
    record {
      liveness = c.requires.live;
      assigned = subst (λ (n : ℕ). IsAssigned (λ node. is_behind live (summary_of node)) nodes n c.loop-number.registers) all c.loop-number.invariant;
    }
