use Rattle.std.proofs.Common.{◌∙◌, ap}
use Rattle.ir_core.specs.Trees.{shape_of}
use Rattle.ir_lower.proofs.Rows.{land_out}
use Rattle.ir_lower.proofs.shape.land.Goals as goal

pub returns : goal.returns
returns c = ap shape_of c.in_ok-new.ensures.ok ∙ land_out c.args.number
