-- Which registers a bank has.
use Rattle.std.specs.Prelude.{◌≡◌, ◌<◌, ◌-◌, ◌^◌, ℕ, List, [], length, map}
use Rattle.std.specs.List.{range_with_len}
use Rattle.ir_core.specs.declared.cfg.Cfg.{Cfg}
use Rattle.ir_core.specs.declared.timed.Timed.{Timed}
use Rattle.reg_binding.specs.declared.registers.Registers.{Registers}
use Rattle.rtl_core.specs.Netlist.{Netlist}
use Rattle.datapath.specs.Plans.{Plan, plan_of, array_of, initial_cycles}
use Rattle.datapath.specs.Cycles.{Register}
use Rattle.datapath.specs.Ports.{port_count}
use Rattle.datapath.specs.CircuitWires.Carrying.{AppendsRegisters}
use Rattle.circuit_context.specs.Wanted.Roles.{named}
use Rattle.circuit_context.specs.Wanted.Entries.{all_roles}
use Rattle.circuit_context.specs.Wanted.Driving.{AreDistinct}
use Rattle.circuit_context.specs.declared.bank.bank.Bank.{Bank}

-- the registers, in order
abbrev pub names_of : Bank → List Register
names_of bank = map named bank.roles.keys

-- the plan of this program with these registers
abbrev pub IsPlanOf : Plan → Cfg Timed → Registers → Type 0
IsPlanOf p cfg registers = p ≡ plan_of cfg registers p.savings

-- the initial sequence has fewer than 2^64 - 1 cycles
abbrev pub HasShortStart : Cfg Timed → Type 0
HasShortStart cfg = (p : Plan) → map array_of cfg.frame.memories.items ≡ p.arrays → cfg.frame.kept.items ≡ p.kept → initial_cycles p < 2 ^ 64 - 1

-- how many ports each array has
abbrev pub ArePortCounts : Plan → List ℕ → Type 0
ArePortCounts p counts = counts ≡ map (port_count p) (range_with_len 0 (length p.arrays))

-- the registers of a plan with so many gates and stages are appended, no two for the same
pub record IsAllotted (p : Plan) (d e : Netlist) (bank : Bank) : Type 0 where
  pub names : names_of bank ≡ map named (all_roles p bank.gates bank.stages)
  pub distinct : AreDistinct (names_of bank)
  pub appends : AppendsRegisters p [] (names_of bank) d e
