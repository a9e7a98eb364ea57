use Rattle.std.proofs.Common.{refl, arith}
use Rattle.rtl_logic.specs.Making.{circuit}
use Rattle.circuit_context.proofs.Addresses.{no_address, more_address, whole_address}
use Rattle.circuit_context.proofs.context.Context.side_by_side.Goals as goal

pub loop-k-init : goal.loop-k-init
loop-k-init c = (λ p names h begun. no_address p names (circuit c.args.logic.now) c.args.at.node.0 c.args.at.time c.args.dims.now c.args.subscripts.now begun, λ some. absurd (omega (arith, some)))

pub loop-k-preserved : goal.loop-k-preserved
loop-k-preserved c = (
  λ p names h begun.
      more_address p names (circuit c.args.logic.now) (circuit c.loop-k.logic) (circuit c.subscript.new.logic) (circuit c.joined.new.logic) c.args.at.node.0 c.args.at.time c.loop-k.k c.args.dims.now c.args.subscripts.now
      c.loop-k.address c.in_ok-low.low c.in_ok-joined.field-0 c.requires.count c.loop-k-test.true (c.loop-k.invariant.0 p names h begun) (λ here. c.in_ok-low.ensures p names h here)
      (λ m n H L here high low. c.in_ok-joined.ensures p names m n H L here high low),
  λ some. refl,
)

pub returns-clause-some : goal.returns-clause-some
returns-clause-some c = λ some. c.loop-k.invariant.1 (omega (arith, some, c.loop-k-test.false))

pub returns-clause-made : goal.returns-clause-made
returns-clause-made c = λ p names h begun.
    whole_address p names (circuit c.args.logic.now) (circuit c.loop-k.logic) c.args.at.node.0 c.args.at.time c.loop-k.k c.args.dims.now c.args.subscripts.now c.loop-k.address c.requires.count
    c.loop-k-test.false (c.loop-k.invariant.0 p names h begun)
