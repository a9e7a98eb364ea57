use Rattle.std.proofs.Common.{inl, ap, arith}
use Rattle.std.proofs.lemmas.Result.{IfOk-weaker}
use Rattle.datapath.specs.Cycles.{Cycle, Word}
use Rattle.datapath.specs.Ports.{is_load}
use Rattle.datapath.specs.Values.{arriving}
use Rattle.fsm_datapath.proofs.Arriving.{load_arrives}
use Rattle.fsm_datapath.proofs.Pushing.{in_bank, register_carries, some_as}
use Rattle.fsm_datapath.proofs.sources.word.Goals as goal

pub port-port-requires : goal.port-port-requires
port-port-requires c = omega (arith, c.requires, c.args.of.now.numbered.rows c.args.node.0)

pub returns : goal.returns
returns c = λ p names d it h begun at load array.
    let port = c.port-port.ensures p it c.args.array h.ports_ at (inl (ap is_load load)) array in
    IfOk-weaker c.register.result _ _
    (λ a is. some_as p names d a (λ (x : Cycle). x.regs (Word c.args.array.0 c.port-port.result)) (λ (x : Cycle). arriving p x c.args.node.0 c.args.op.0)
    (load_arrives p c.args.node.0 c.args.op.0 it c.args.array c.port-port.result at load array port)
    (register_carries p names d a (Word c.args.array.0 c.port-port.result) begun (in_bank p names c.args.of.now a (Word c.args.array.0 c.port-port.result) h is))) c.register.ensures
