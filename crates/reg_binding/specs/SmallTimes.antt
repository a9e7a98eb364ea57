-- Programs with times in which each result is there and is read within numbers of 64 bits.
use Rattle.std.specs.Prelude.{ℕ, ◌-◌, ◌<◌, ◌≤◌, ◌^◌, length, IfSome}
use Rattle.std.specs.List.{All}
use Rattle.ir_core.specs.declared.timed.Timed.{Timed}
use Rattle.ir_core.specs.declared.body.Body.{Body}
use Rattle.ir_core.specs.declared.body.Op.{Op}
use Rattle.ir_core.specs.declared.body.Operand.{Operand}
use Rattle.ir_core.specs.declared.body.Out.{Out}
use Rattle.ir_core.specs.declared.cfg.Cfg.{Cfg}
use Rattle.ir_core.specs.declared.cfg.Loop.{Loop}
use Rattle.ir_core.specs.declared.cfg.Node.{Node}
use Rattle.ir_core.specs.declared.cfg.Node.TheVariants as node

-- the value of at most 65,536 iterations before
abbrev pub IsNear : Operand → Type 0
IsNear operand = operand.distance ≤ 2 ^ 16

abbrev pub IsNearOut : Out → Type 0
IsNearOut out = IsNear out.value

-- a cycle from which a latency and 65,536 more cycles are left up to cycle 2^32
abbrev pub IsEarly : ℕ → Type 0
IsEarly time = time ≤ 2 ^ 32 - 2 ^ 25

-- an operation of at most 64 bits that starts early and reads what is near
pub record IsEarlyOp (op : Op Timed) : Type 0 where
  pub start : IsEarly op.stamp.start
  pub narrow : op.bits ≤ 64
  pub guard : IfSome op.guard IsNear
  pub args : All IsNear op.args.items

-- few operations, all of them early ones
pub record IsEarlyBody (body : Body Timed) : Type 0 where
  pub few : length body.ops.items < 2 ^ 25
  pub ops : All IsEarlyOp body.ops.items
  pub outs : All IsNearOut body.outs.items
  pub test : IfSome body.test IsNear

pub record IsEarlyLoop (region : Loop Timed) : Type 0 where
  pub body : IsEarlyBody region.body
  pub exit : IsEarly region.exit

abbrev pub IsEarlyNode : Node Timed → Type 0
IsEarlyNode (node.Plain block) = IsEarlyBody block.body
IsEarlyNode (node.Looped region) = IsEarlyLoop region

pub record HasSmallTimes (cfg : Cfg Timed) : Type 0 where
  pub few : length cfg.nodes.items < 2 ^ 32
  pub nodes : All IsEarlyNode cfg.nodes.items
