-- How far back what bodies hand on goes: a constant is the same in each iteration, so a valid program may give its operand any distance.
use Rattle.std.specs.Prelude.{IfSome}
use Rattle.std.specs.List.{All}
use Rattle.ir_core.specs.declared.body.Body.{Body}
use Rattle.ir_core.specs.declared.cfg.Cfg.{Cfg}
use Rattle.ir_core.specs.declared.cfg.Node.{Node}
use Rattle.ir_core.specs.declared.stamp.Untimed.{Untimed}
use Rattle.program_validity.specs.Programs.{body_in}
use Rattle.reg_binding.specs.SmallTimes.{IsNear, IsNearOut}

-- The outs and the test of a body are of at most 65,536 iterations before.
pub record HasNearOuts (body : Body Untimed) : Type 0 where
  pub outs : All IsNearOut body.outs.items
  pub test : IfSome body.test IsNear

abbrev pub NodeHasNearOuts : Node Untimed → Type 0
NodeHasNearOuts n = HasNearOuts (body_in n)

abbrev pub OutsAreNear : Cfg Untimed → Type 0
OutsAreNear cfg = All NodeHasNearOuts cfg.nodes.items
