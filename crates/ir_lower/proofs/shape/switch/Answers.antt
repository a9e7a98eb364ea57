use Rattle.std.proofs.Common.{◌∙◌, ap}
use Rattle.ir_core.specs.Trees.{shape_of}
use Rattle.ir_lower.proofs.Rows.{switch_out}
use Rattle.ir_lower.proofs.shape.switch.Goals as goal

pub returns : goal.returns
returns c = ap shape_of c.in_ok-new.ensures.ok ∙ switch_out c.args.blocks.dead c.args.targets.cases c.args.targets.other c.args.blocks.arms
