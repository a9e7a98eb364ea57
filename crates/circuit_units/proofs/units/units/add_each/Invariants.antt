use Rattle.std.proofs.Common.{◌≡◌, List, map, take}
use Rattle.rtl_logic.specs.Making.{circuit}
use Rattle.datapath.specs.Plans.{Plan}
use Rattle.datapath.specs.Cycles.{Register}
use Rattle.circuit_units.specs.declared.units.units.UnitWires.{UnitWires}
use Rattle.circuit_units.specs.Units.Adding.{AreDemands, AreSigns, Adds}
use Rattle.circuit_units.proofs.units.units.add_each.Given as goal

abbrev pub invariant-loop-each : goal.invariant-loop-each
invariant-loop-each l = record {
  adds : (p : Plan) (names : List Register) → AreDemands p names (circuit l.initial.logic) l.groups → AreSigns p l.uses → Adds p names (circuit l.initial.logic) (circuit l.logic) l.wires.items;
  units : map (λ (w : UnitWires). w.unit) l.wires.items ≡ take l.each-index l.units;
}
