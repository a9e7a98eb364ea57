use Rattle.std.proofs.Common.{arith}
use Rattle.fsm_datapath.proofs.Standing.{some_weaker, wire_stands}
use Rattle.fsm_datapath.proofs.sources.wire.Goals as goal

pub returns : goal.returns
returns c = λ p names d computed.
    some_weaker c.wire_in.result _ _
    (λ a at. computed c.args.node.0 c.args.op.0 a
    (wire_stands c.args.computed.now c.args.node.0 c.args.op.0 a c.index.result.now c.deref.result.now (omega (arith, c.if-number-len.false, c.len.ensures)) c.index.ensures c.deref.ensures.value at))
    c.wire_in.ensures
