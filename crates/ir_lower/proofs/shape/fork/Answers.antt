use Rattle.std.proofs.Common.{◌∙◌, ap}
use Rattle.ir_core.specs.Trees.{shape_of, fork, side_of}
use Rattle.ir_lower.proofs.Rows.{fork_out}
use Rattle.ir_lower.proofs.shape.fork.Goals as goal

pub returns : goal.returns
returns c = ap shape_of c.in_ok-new.ensures.ok ∙ fork_out c.unboxed.result c.unboxed-2.result c.args.convertible ∙ (λ i. fork (side_of (c.unboxed.ensures i)) (side_of (c.unboxed-2.ensures i)) c.args.convertible)
