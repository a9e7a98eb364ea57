use Rattle.std.proofs.Common.{◌∙◌, ap}
use Rattle.ir_core.specs.Trees.{shape_of}
use Rattle.ir_lower.proofs.Rows.{loop_out}
use Rattle.ir_lower.proofs.shape.repeat.Goals as goal

pub returns : goal.returns
returns c = ap shape_of c.in_ok-new.ensures.ok ∙ loop_out c.args.post c.args.round.test c.args.round.body c.args.round.step c.args.eligible
