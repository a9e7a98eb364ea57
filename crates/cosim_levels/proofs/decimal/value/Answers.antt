use Rattle.std.proofs.Common.{arith}
use Rattle.cosim_levels.proofs.Digits.{digit_is, value_more, value_within}
use Rattle.cosim_levels.proofs.decimal.value.Goals as goal

pub loop-byte-preserved : goal.loop-byte-preserved
loop-byte-preserved c =
    let i = c.loop-byte.byte-index in
    let ds = c.args.digits.now in
    let v = c.loop-byte.value in
    rw c.from.ensures (
      value_more v i ds c.requires.digits c.loop-byte-test.true c.loop-byte.invariant.0,
      value_within v i ds c.requires.digits c.loop-byte-test.true c.loop-byte.invariant.1,
    )

pub overflow_sub-byte : goal.overflow_sub-byte
overflow_sub-byte c =
    let d = digit_is c.args.digits.now c.loop-byte.byte-index c.requires.digits c.loop-byte-test.true in
    omega arith
