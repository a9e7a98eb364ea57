-- Which netlist is the circuit of a program with times.
use Rattle.std.specs.Prelude.{◌≡◌}
use Rattle.ir_core.specs.declared.cfg.Cfg.{Cfg}
use Rattle.ir_core.specs.declared.timed.Timed.{Timed}
use Rattle.reg_binding.specs.declared.live.Live.{Live}
use Rattle.reg_binding.specs.declared.registers.Registers.{Registers}
use Rattle.reg_binding.specs.Assigned.{IsAssignment}
use Rattle.rtl_core.specs.Netlist.{Netlist}
use Rattle.rtl_core.specs.Valid.{IsValid}
use Rattle.rtl_core.specs.FramePins.{module_name}
use Rattle.ir_core.specs.Small.{HasSmallNumbers}
use Rattle.fsm_datapath.specs.Making.{IsBuilt}

-- The values of the program have registers for what is live in it, and the netlist is built for these.
pub record HasCircuit (timed : Cfg Timed) (d : Netlist) : Type 0 where
  pub live : Live
  pub registers : Registers
  pub small : HasSmallNumbers timed
  pub assigned : IsAssignment timed live registers
  pub named : d.name ≡ module_name timed.frame.name
  pub valid : IsValid d
  pub built : IsBuilt timed live registers d
