use Rattle.std.proofs.Common.{rules}
use Rattle.c_value.proofs.Operating.{in_common}
use Rattle.c_value.proofs.operate.binary_value.Goals as goal

pub returns-in_default : goal.returns-in_default
returns-in_default c =
    let e = in_common c.args.op c.args.left c.args.x c.args.right c.args.y c.in_default.not-Shl c.in_default.not-Shr c.in_default.not-LogAnd c.in_default.not-LogOr in
    rw e (search rules)
