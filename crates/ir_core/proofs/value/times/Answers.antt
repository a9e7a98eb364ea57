use Rattle.std.proofs.Common.{◌*ℤ◌, FitsSigned, lit<, arith}
use Rattle.std.proofs.lemmas.Int.{fits_signed_mul, to_z-of_z}
use Rattle.std.specs.Int.{w128}
use Rattle.ir_core.proofs.value.times.Goals as goal

pub returns : goal.returns
returns c =
    let fits : FitsSigned w128 (c.args.x *ℤ c.args.y) = fits_signed_mul w128 c.args.x c.args.y 18446744073709551615 9223372036854775808 (omega arith) c.requires.right (lit< tt) in
    grind (arith, to_z-of_z, fits)
