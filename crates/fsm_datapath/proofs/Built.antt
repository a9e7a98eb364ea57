-- The circuit without what nothing depends on.
use Rattle.std.proofs.Common.{◌≡◌, ℕ, List, [], ◌∷◌, map, refl, sym, ap, ◌∙◌}
use Rattle.ir_core.specs.declared.cfg.Cfg.{Cfg}
use Rattle.ir_core.specs.declared.timed.Timed.{Timed}
use Rattle.reg_binding.specs.declared.live.Live.{Live}
use Rattle.reg_binding.specs.declared.registers.Registers.{Registers}
use Rattle.rtl_core.specs.Netlist.{Netlist, Memory}
use Rattle.rtl_core.specs.Valid.{IsValid}
use Rattle.rtl_logic.specs.Pruning.{IsPruned}
use Rattle.rtl_logic.specs.Reducing.{sized}
use Rattle.datapath.specs.Plans.{Plan}
use Rattle.datapath.specs.Netlists.{IsCircuitOf}
use Rattle.datapath.proofs.Reducing.{reduced}
use Rattle.circuit_context.specs.Wanted.Driving.{IsAssembled}
use Rattle.fsm_datapath.proofs.CircuitParts.Whole.{is_circuit}
use Rattle.fsm_datapath.proofs.CircuitParts.Memories.{has_memories}
use Rattle.fsm_datapath.specs.AssembledCircuits.Parts.{whole_names, whole_signals}
use Rattle.fsm_datapath.proofs.AssembledCircuits.Whole.{parts_are_assembled}
use Rattle.fsm_datapath.specs.Making.{plan_in, IsWhole, IsBuilt}

bits_sized : (mems : List Memory) → map (λ (m : Memory). m.bits) (map sized mems) ≡ map (λ (m : Memory). m.bits) mems
bits_sized [] = refl
bits_sized (m ∷ mems) = ap (λ l. m.bits ∷ l) (bits_sized mems)

pub pruned_is_built : (cfg : Cfg Timed) (live : Live) (registers : Registers) (d e : Netlist) → IsWhole cfg live registers d → IsValid d → IsPruned d e → IsBuilt cfg live registers e
pruned_is_built cfg live registers d e whole valid pruned =
    let p : Plan = plan_in cfg registers live in
    let assembled : IsAssembled p (whole_names p whole.bank whole.parts.units) (whole_signals whole.parts.units whole.parts.ports) d =
    parts_are_assembled p whole.bank whole.parts.units whole.parts.ports d whole.whole valid in
    record {
      circuit = λ sound.
          reduced p pruned.keep d e (is_circuit p (whole_names p whole.bank whole.parts.units) (whole_signals whole.parts.units whole.parts.ports) d sound assembled) pruned.reduced_by;
      memories = sym (bits_sized e.mems)
          ∙ (ap (map (λ (m : Memory). m.bits)) pruned.reduced_by.memories
          ∙ (bits_sized d.mems ∙ has_memories p (whole_names p whole.bank whole.parts.units) (whole_signals whole.parts.units whole.parts.ports) d assembled));
    }

-- the name of a circuit does not matter
renamed_is_circuit : (p : Plan) (d : Netlist) (name : List ℕ) → IsCircuitOf p d
    → IsCircuitOf p (record { name = name; inputs = d.inputs; outputs = d.outputs; regs = d.regs; mems = d.mems; wires = d.wires })
renamed_is_circuit p d name h = record {
  pins = record { inputs = h.pins.inputs; outputs = h.pins.outputs };
  arrays = h.arrays;
  names = h.names;
  widths = h.widths;
  begins = λ s state. h.begins s (record { regs = state.regs; mems = state.mems });
  shows = λ s pins x state are holds. h.shows s pins x (record { regs = state.regs; mems = state.mems }) are holds;
  goes_on = λ s pins x state are holds. let f = h.goes_on s pins x (record { regs = state.regs; mems = state.mems }) are holds in record { after = f.after; step = f.step; holds = f.holds };
}

pub renamed_is_built : (cfg : Cfg Timed) (live : Live) (registers : Registers) (d : Netlist) (name : List ℕ) → IsBuilt cfg live registers d
    → IsBuilt cfg live registers (record { name = name; inputs = d.inputs; outputs = d.outputs; regs = d.regs; mems = d.mems; wires = d.wires })
renamed_is_built cfg live registers d name h = record {
  circuit = λ sound. renamed_is_circuit (plan_in cfg registers live) d name (h.circuit sound);
  memories = h.memories;
}
