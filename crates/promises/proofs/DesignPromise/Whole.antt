-- From sources without faults to the circuits that are built for them.
use Rattle.std.proofs.Common.{◌∙◌, ap}
use Rattle.c_tree.specs.Terminals.{terminals}
use Rattle.ir_lower.specs.Frames.{FrameView}
use Rattle.rtl_core.specs.FramePins.{module_name}
use Rattle.datapath.specs.Plans.{Plan, plan_of}
use Rattle.datapath.specs.LeftOut.{savings_of}
use Rattle.circuit_agreement.specs.CircuitFlow.Compiled.{IsCompiled}
use Rattle.fsm_datapath.specs.CircuitParts.{HasSoundArrays}
use Rattle.source_validity.proofs.AddressedFrames.Frames.{frames_addressed}
use Rattle.promises.proofs.SourcePromise.Whole.{plans_compiled, sources_kept}
use Rattle.promises.specs.DesignPromise.{DesignsKeepPromise}
use Rattle.promises.proofs.DesignPromise.Names.{expanded_named}

-- hosts come first in the plan of a compiled program, and its stores name arrays
arrays_sound : (p : Plan) → IsCompiled p → HasSoundArrays p
arrays_sound p k = record {
  hosts_first = k.frame.hosts_first;
  hosts = λ a array at is. (k.frame.hosts a array at is).0;
  stores = λ i n it at is. let s = k.arrays.stores i n it at is in (s.0, (s.1.0, s.1.1.0));
}

pub promise_kept : DesignsKeepPromise
promise_kept source p top name s function is passes untimed flat valid_ units timed loops times frame report settings d of circuit =
    let plan : Plan = plan_of timed circuit.registers (savings_of timed circuit.live) in
    let compiled : IsCompiled plan = plans_compiled source p top name s passes untimed flat valid_ units timed loops times frame circuit.small circuit.live circuit.registers circuit.assigned in
    record {
      named = circuit.named ∙ ap module_name (ap (λ (f : FrameView). f.name) frame ∙ expanded_named source p top name s);
      agrees = sources_kept source p top name s function is passes untimed flat valid_ units timed loops times frame circuit.small report of.base of.rows
          (of.init (frames_addressed (terminals s.replaced) s.end p top name s.derives s.faultless timed.frame frame))
          circuit.live circuit.registers circuit.assigned d (circuit.built.circuit (arrays_sound plan compiled)) circuit.built.memories circuit.valid;
    }
