-- Registers that are to be.
use Rattle.std.specs.Prelude.{◌≡◌, ◌++◌, List, map}
use Rattle.rtl_core.specs.Netlist.{Netlist}
use Rattle.datapath.specs.Plans.{Plan}
use Rattle.datapath.specs.Circuits.{width}
use Rattle.datapath.specs.CircuitWires.Carrying.{idle}
use Rattle.circuit_context.specs.declared.wanted.role.Role.{Role}
use Rattle.circuit_context.specs.Wanted.Roles.{named}
use Rattle.circuit_context.specs.Wanted.Driving.{AreDistinct}
use Rattle.circuit_context.specs.declared.bank.slots.Slot.{Slot}

-- the register of a plan for this
abbrev pub slot : Plan → Role → Slot
slot p r = record { role = r; bits = width p (named r) }

-- the registers for these are to be as well
abbrev pub Adds : Plan → List Slot → List Slot → List Role → Type 0
Adds p before after roles = after ≡ before ++ map (slot p) roles

-- such registers are appended, no two for the same
pub record AreRegistered (d e : Netlist) (slots : List Slot) (roles : List Role) : Type 0 where
  pub are : roles ≡ map (λ (s : Slot). s.role) slots
  pub distinct : AreDistinct (map named roles)
  pub is : e ≡ record d { regs = d.regs ++ map (λ (s : Slot). idle s.bits) slots }
