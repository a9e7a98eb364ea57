-- A circuit whose parts are all there is assembled.
use Rattle.std.proofs.Common.{◌≡◌, ℕ, List, ◌++◌, Some, None, ap, ◌∙◌, subst}
use Rattle.std.specs.Prelude.{slice_get}
use Rattle.std.proofs.lemmas.Option.{get_or_from_slice_get}
use Rattle.rtl_core.specs.Netlist.{Netlist, Memory}
use Rattle.rtl_core.specs.ClockStep.{State}
use Rattle.datapath.specs.Plans.{Plan, Array, no_array}
use Rattle.datapath.specs.Cycles.{Register, Contents, Signal, in_cycle}
use Rattle.datapath.specs.Netlists.{memory_of}
use Rattle.datapath.specs.CircuitWires.Carrying.{IsMoment}
use Rattle.circuit_context.specs.Wanted.Logs.{IsThere}
use Rattle.circuit_context.specs.Wanted.Driving.{IsUnnamed, HaveElse, MayTake}
use Rattle.circuit_context.specs.declared.bank.bank.Bank.{Bank}
use Rattle.circuit_units.specs.declared.units.units.UnitTable.{UnitTable}
use Rattle.circuit_units.specs.Units as units
use Rattle.circuit_units.specs.Units.{registers_of}
use Rattle.circuit_units.specs.declared.memories.memories.PortTable.{PortTable}
use Rattle.circuit_units.specs.Memories as ports
use Rattle.fsm_datapath.specs.LoggedWrites.Roles.{names_with}
use Rattle.fsm_datapath.specs.LoggedWrites.Parts.{HasAllParts}
use Rattle.fsm_datapath.proofs.LoggedWrites.Members.{in_right}
use Rattle.fsm_datapath.proofs.LoggedWrites.MayTake.{unnamed_may_take}
use Rattle.fsm_datapath.specs.AssembledCircuits.Parts.{AreParts, whole_names, whole_signals}
use Rattle.fsm_datapath.specs.AssembledCircuits.{PartsAreAssembled}
use Rattle.fsm_datapath.proofs.AssembledCircuits.Distinct.{whole_distinct}
use Rattle.fsm_datapath.proofs.AssembledCircuits.Signals.{whole_seen_once, unseen_given}
use Rattle.fsm_datapath.proofs.AssembledCircuits.Driven.{all_driven, all_shown, memory_with}

module _ (p : Plan) (bank : Bank) (table : UnitTable) (port_table : PortTable) (d : Netlist) (h : AreParts p bank table port_table d) where
  names_same : whole_names p bank table ≡ names_with p bank.gates bank.stages (registers_of p table)
  names_same = ap (λ (l : List Register). l ++ registers_of p table) h.names

  has_memory : (a : ℕ) (array : Array) → slice_get p.arrays a ≡ Some array → array.table ≡ None → (m : Memory) × ((slice_get d.mems (memory_of p a) ≡ Some m) × (m.bits ≡ array.bits))
  has_memory a array at_ plain =
      let m = h.memories a array at_ plain in
      (m.0, (m.1.stands, m.1.bits ∙ ap (λ (b : Array). b.bits) (get_or_from_slice_get p.arrays a array no_array at_)))

  has_parts : HasAllParts p bank.gates bank.stages table port_table d
  has_parts = record {
    there = λ k it at_. subst (λ (l : List Register). IsThere l it.target) names_same (h.there k it at_);
    units_ = h.used;
    counts = h.counts;
    memories = has_memory;
    only = h.only;
    short = h.short;
  }

  may_take : (r : Register) → IsUnnamed (whole_names p bank table) r → (s : State) (pins : List ℕ) (x : Contents) (signals : Signal → ℕ) → IsMoment p (whole_names p bank table) d d s pins x
      → HaveElse p (whole_signals table port_table) signals → MayTake p r (in_cycle x signals pins)
  may_take r unnamed s pins x signals moment else_ =
      unnamed_may_take p bank.gates bank.stages table port_table d s pins x signals r has_parts (subst (λ (l : List Register). IsMoment p l d d s pins x) names_same moment) else_
      (subst (λ (l : List Register). IsUnnamed l r) names_same unnamed)

pub parts_are_assembled : PartsAreAssembled
parts_are_assembled p bank table port_table d h valid = record {
  valid = valid;
  pins = h.pins;
  begun = h.begun;
  distinct = whole_distinct p bank table h.names h.distinct h.used;
  driven = all_driven p (whole_names p bank table) (units.signals_of table) (ports.signals_of port_table) d bank.roles.keys (registers_of p table) h.driven h.words h.units_driven;
  signals = all_shown p (whole_names p bank table) (units.signals_of table) (ports.signals_of port_table) d h.unit_signals h.port_signals;
  once = whole_seen_once p table port_table h.used;
  unseen = λ signal inside hidden cycle. unseen_given p table port_table h.used h.counts signal inside hidden cycle;
  memories = λ a array at_ plain.
      let m = h.memories a array at_ plain in
      (m.0, memory_with p (whole_names p bank table) (ports.signals_of port_table) (whole_signals table port_table) d a m.0 (λ x has. in_right (units.signals_of table) (ports.signals_of port_table) x has) m.1);
  only = h.only;
  outputs = h.outputs;
  unnamed = λ r unnamed s pins x signals moment follow else_. may_take p bank table port_table d h r unnamed s pins x signals moment else_;
}
