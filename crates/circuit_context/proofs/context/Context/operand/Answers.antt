use Rattle.rtl_logic.specs.Making.{circuit}
use Rattle.datapath.specs.Cycles.{Cycle}
use Rattle.datapath.specs.Reading as reading
use Rattle.circuit_context.proofs.Chains.{as_wide}
use Rattle.circuit_context.proofs.context.Context.operand.Goals as goal

pub returns : goal.returns
returns c = λ p names h begun.
    let some = c.in_ok-atom.ensures p names h begun in
    as_wide p names (circuit c.args.logic.now) some.bits c.args.bits c.in_ok-atom.atom c.with_width.result (λ (x : Cycle). reading.operand p x c.args.at.node.0 c.args.at.time c.args.operand) some.carries
    c.with_width.ensures.same (c.with_width.ensures.fits some.bits some.carries.fits)
