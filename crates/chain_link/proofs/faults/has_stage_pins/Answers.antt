use Rattle.std.proofs.Common.{subst, ◌↔◌, map}
use Rattle.std.specs.Prelude.{IsTrue}
use Rattle.rtl_core.specs.Netlist.{netlist_of}
use Rattle.rtl_core.specs.Interface.{outer}
use Rattle.chain_link.specs.Faults.{AreStageInputs, AreStageOutputs}
use Rattle.chain_link.proofs.StagePins.{pins_iff}
use Rattle.chain_link.proofs.faults.has_stage_pins.Goals as goal

pub returns-then-are_stage_inputs : goal.returns-then-are_stage_inputs
returns-then-are_stage_inputs c =
    pins_iff (netlist_of c.args.stage.now) c.are_stage_outputs.result (subst AreStageInputs c.deref.ensures.value (c.are_stage_inputs.ensures.0 c.if-are_stage_inputs.true))
    (subst (λ os. IsTrue c.are_stage_outputs.result ↔ AreStageOutputs (map outer os)) c.deref-then-are_stage_inputs.ensures.value c.are_stage_outputs.ensures)
