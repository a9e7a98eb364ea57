-- What the nodes of a program set as they are left.
use Rattle.std.specs.Prelude.{◌≡◌, ℕ, slice_get, Some}
use Rattle.ir_core.specs.declared.body.Out.{Out}
use Rattle.ir_core.specs.declared.cfg.Node.{Node}
use Rattle.ir_core.specs.declared.timed.Timed.{Timed}
use Rattle.program_validity.specs.Programs.{body_in}
use Rattle.circuit_context.specs.declared.context.Context.{Context}

-- the out is one of node i of the program
pub record HasOut (of : Context) (i : ℕ) (out : Out) : Type 0 where
  pub node : Node Timed
  pub number : ℕ
  pub stands : slice_get of.cfg.now.nodes.items i ≡ Some node
  pub there : slice_get (body_in node).outs.items number ≡ Some out
