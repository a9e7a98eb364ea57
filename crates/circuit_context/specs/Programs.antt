-- Programs with times of which a circuit is made.
use Rattle.std.specs.Prelude.{◌≡◌, true}
use Rattle.std.proofs.Props.{props}
use Rattle.ir_core.specs.declared.cfg.Cfg.{Cfg}
use Rattle.ir_core.specs.declared.cfg.Node.{Node}
use Rattle.ir_core.specs.declared.cfg.Node.TheVariants as node
use Rattle.ir_core.specs.declared.timed.Timed.{Timed}
use Rattle.program_validity.specs.Programs.{is_consistent}
use Rattle.reg_binding.specs.SmallTimes.{IsEarlyNode, HasSmallTimes}

-- What names something names what is there, widths agree, and times fit their types.
pub record IsBuildable (cfg : Cfg Timed) : Type 0 where
  pub valid : is_consistent cfg ≡ true
  pub times : HasSmallTimes cfg

early-prop : (n : Node Timed) → IsProp (IsEarlyNode n)
early-prop (node.Plain b) = hlevel props
early-prop (node.Looped r) = hlevel props

-- there is one proof of it
pub Buildable-prop : (cfg : Cfg Timed) → IsProp (IsBuildable cfg)
Buildable-prop cfg = hlevel (props, early-prop)
