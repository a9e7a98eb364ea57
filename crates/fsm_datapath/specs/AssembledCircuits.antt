-- What follows where all parts are there.
pub mod Parts
use Rattle.rtl_core.specs.Netlist.{Netlist}
use Rattle.rtl_core.specs.Valid.{IsValid}
use Rattle.datapath.specs.Plans.{Plan}
use Rattle.circuit_context.specs.Wanted.Driving.{IsAssembled}
use Rattle.circuit_context.specs.declared.bank.bank.Bank.{Bank}
use Rattle.circuit_units.specs.declared.units.units.UnitTable.{UnitTable}
use Rattle.circuit_units.specs.declared.memories.memories.PortTable.{PortTable}
use Rattle.fsm_datapath.specs.AssembledCircuits.Parts.{AreParts, whole_names, whole_signals}

-- a valid netlist whose parts are all there is assembled
abbrev pub PartsAreAssembled : Type 0
PartsAreAssembled = (p : Plan) (bank : Bank) (table : UnitTable) (port_table : PortTable) (d : Netlist) → AreParts p bank table port_table d → IsValid d
    → IsAssembled p (whole_names p bank table) (whole_signals table port_table) d
