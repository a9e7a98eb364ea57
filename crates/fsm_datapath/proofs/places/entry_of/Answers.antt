use Rattle.std.proofs.Common.{◌∙◌, false, true, sym}
use Rattle.clock_ir.specs.ClockRuns.{timed_node}
use Rattle.fsm_datapath.proofs.Placing.{entry_stands, read_is}
use Rattle.fsm_datapath.proofs.Standing.{outs_at}
use Rattle.fsm_datapath.proofs.Outs.{made_variable}
use Rattle.fsm_datapath.proofs.places.entry_of.Goals as goal

pub returns-in_default : goal.returns-in_default
returns-in_default c = λ p names h loop.
    let outs = outs_at p c.args.held.node.0 (timed_node c.node_at-node.result.now) _ c.body_of.result.now c.deref.result.now (c.node_at-node.ensures.timed p names h) c.body_of.ensures c.deref.ensures.value in
    entry_stands p c.args.held c.deref.result.now _ loop outs (sym c.in_default.is ∙ c.variable_made.ensures)

pub returns-then-is_read : goal.returns-then-is_read
returns-then-is_read c = λ p names h loop.
    let outs = outs_at p c.args.held.node.0 (timed_node c.node_at-node.result.now) _ c.body_of.result.now c.deref.result.now (c.node_at-node.ensures.timed p names h) c.body_of.ensures c.deref.ensures.value in
    read_is p c.in-Some.variable true (sym c.if-is_read.true ∙ c.is_read.ensures p names h) ∙ entry_stands p c.args.held c.deref.result.now _ loop outs (sym c.in-Some.is ∙ c.variable_made.ensures)

pub returns-else-is_read : goal.returns-else-is_read
returns-else-is_read c = λ p names h loop.
    let outs = outs_at p c.args.held.node.0 (timed_node c.node_at-node.result.now) _ c.body_of.result.now c.deref.result.now (c.node_at-node.ensures.timed p names h) c.body_of.ensures c.deref.ensures.value in
    read_is p c.in-Some.variable false (sym c.if-is_read.false ∙ c.is_read.ensures p names h) ∙ entry_stands p c.args.held c.deref.result.now _ loop outs (sym c.in-Some.is ∙ c.variable_made.ensures)

pub is_read-requires : goal.is_read-requires
is_read-requires c =
    made_variable c.args.of.now c.args.held.node.0 c.args.held.op.0 c.node_at-node.result.now c.body_of.result.now c.deref.result.now c.in-Some.variable c.node_at-node.ensures.stands c.body_of.ensures c.deref.ensures.value
    (sym c.in-Some.is ∙ c.variable_made.ensures)
