use Rattle.std.proofs.lemmas.Result.{IfOk-weaker}
use Rattle.rtl_logic.specs.Making.{circuit}
use Rattle.circuit_units.proofs.DemandsLemmas.Reading.{argument_carries}
use Rattle.circuit_units.proofs.DemandsLemmas.Pushing.{shared_logged}
use Rattle.circuit_units.proofs.DemandsLemmas.Accessing.{node_inside}
use Rattle.circuit_units.proofs.demands.shared.give_operands.Goals as goal

pub returns : goal.returns
returns c = λ p names context begun there.
    let d = circuit c.args.logic.now in
    let e = circuit c.at.new.logic in
    let it = c.args.it.now in
    let bits = it.op.now.bits in
    let starts = c.in_ok-when.ensures p names context begun in
    let left = argument_carries p names e bits 0 it c.argument.result c.in_ok-left.left c.argument.ensures (c.in_ok-left.ensures p names context starts.begun) in
    let right = argument_carries p names e bits 1 it c.argument-2.result c.in_ok-right.right c.argument-2.ensures (c.in_ok-right.ensures p names context starts.begun) in
    IfOk-weaker c.push-3.result _ _
    (λ u is.
    shared_logged p names d e c.args.log.now.pushes.items c.push.new.self.pushes.items c.push-2.new.self.pushes.items c.push-3.new.self.pushes.items it c.args.kind c.in_ok-when.when c.in_ok-left.left
    c.in_ok-right.right c.constant-signed.result starts left right c.constant-signed.ensures there c.in_ok-push.ensures c.in_ok-push-2.ensures is)
    c.push-3.ensures

pub at-requires : goal.at-requires
at-requires c = node_inside c.args.of.now c.args.it.now c.requires

pub operand-requires : goal.operand-requires
operand-requires c = node_inside c.args.of.now c.args.it.now c.requires

pub operand-requires-2 : goal.operand-requires-2
operand-requires-2 c = node_inside c.args.of.now c.args.it.now c.requires
