-- What the outputs of a circuit show.
use Rattle.std.proofs.Common.{◌≡◌, ◌<◌, ℕ, zero, suc, List, ◌∷◌, map, slice_get, Some, None, Option, refl, sym, ap, subst, ◌∙◌, arith}
use Rattle.std.proofs.lemmas.Option.{same_Some}
use Rattle.ir_core.specs.declared.cfg.Frame.{Frame}
use Rattle.rtl_core.specs.declared.design.Atom.{Atom}
use Rattle.rtl_core.specs.declared.design.OutPin.{OutPin}
use Rattle.rtl_core.specs.Netlist.{Netlist}
use Rattle.rtl_core.specs.ClockStep.{seen}
use Rattle.rtl_core.specs.Interface.{output_pins, result_pin, outer, pin}
use Rattle.rtl_core.proofs.Stability.{Extends}
use Rattle.std.specs.Prelude.{codes}
use Rattle.rtl_core.specs.declared.pins.Shown.{Shown}
use Rattle.rtl_core.specs.FramePins.{result_bits, interface_of}
use Rattle.rtl_logic.proofs.Making.{appended, stays}
use Rattle.datapath.specs.Plans.{Plan}
use Rattle.datapath.specs.Cycles.{Register, Ready, Done, Result}
use Rattle.datapath.specs.Circuits.{width}
use Rattle.datapath.specs.CircuitWires.Carrying.{IsRegister, IsBegun, Carries}
use Rattle.datapath.proofs.Carrying.{register}
use Rattle.datapath.proofs.Combining.{moment_same}
use Rattle.circuit_context.specs.Bank.Banks.{names_of}
use Rattle.circuit_context.specs.declared.context.Context.{Context}
use Rattle.circuit_context.specs.Contexts.{IsContext}
use Rattle.circuit_context.specs.Elements.{MakesElement}
use Rattle.fsm_datapath.specs.Outputs.{output_of, result_shown, shown_by}
use Rattle.fsm_datapath.specs.Making.{HasOutputs}
use Rattle.fsm_datapath.proofs.Growing.{first_names}

-- ---- pins

result_pins : (o : Option ℕ) (a : Atom) → map outer (result_shown o a) ≡ result_pin o
result_pins None a = refl
result_pins (Some bits) a = refl

pins_are : (frame : Frame) (s : Shown) → map outer (shown_by frame.ret s) ≡ output_pins (interface_of frame)
pins_are frame s = ap (λ l. pin (codes "ready") 1 ∷ pin (codes "done") 1 ∷ pin (codes "h_rdata") 64 ∷ l) (result_pins (result_bits frame.ret) s.result)

result_there : (bits : ℕ) (s : Shown) → 0 < bits → slice_get (shown_by bits s) 3 ≡ Some (output_of (codes "ret") bits s.result)
result_there zero s h = absurd (omega (arith, h))
result_there (suc bits) s h = refl

-- ---- registers

-- a register of the bank is one of the circuit
pub in_names : (p : Plan) (names : List Register) (of : Context) (a : Atom) (r : Register) → IsContext p names of → IsRegister (names_of of.bank) a r → IsRegister names a r
in_names p names of a r h is = record {
  number = is.number;
  is = is.is;
  named = ap (λ l. slice_get l is.number) h.names_ ∙ first_names (names_of of.bank) h.more is.number r is.named;
}

carried : (p : Plan) (names : List Register) (d : Netlist) (o : OutPin) (one : OutPin) (r : Register) → IsBegun p names d → Some one ≡ Some o → IsRegister names one.from r → Carries p names d (width p r) o.from (λ c. c.regs r)
carried p names d o one r begun at is = register p names d o.from r begun.named (subst (λ (x : OutPin). IsRegister names x.from r) (same_Some one o at) is)

-- ---- the outputs are set

abbrev pub with_outputs : Netlist → List OutPin → Netlist
with_outputs d outs = record { name = d.name; inputs = d.inputs; outputs = outs; regs = d.regs; mems = d.mems; wires = d.wires }

longer : (d e : Netlist) (outs : List OutPin) → Extends d e → Extends d (with_outputs e outs)
longer d e outs h = record { inputs = h.inputs; more_regs = h.more_regs; regs = h.regs; more_wires = h.more_wires; wires = h.wires }

pub outputs_are : (p : Plan) (names : List Register) (frame : Frame) (d e : Netlist) (outs : List OutPin) (s : Shown) → MakesElement p names d e s.element → outs ≡ shown_by frame.ret s → p.result ≡ frame.ret
    → IsRegister names s.ready Ready → IsRegister names s.done Done → (0 < frame.ret → IsRegister names s.result Result) → HasOutputs p names frame d (with_outputs e outs)
outputs_are p names frame d e outs s el is result ready done last =
    let f : Netlist = with_outputs e outs in
    let begun : IsBegun p names f = record { named = el.begun.named; pins = el.begun.pins; sound = el.begun.sound } in
    let stays_same : Extends e f = longer e e outs (stays e) in
    record {
      extends = longer d e outs (appended d e el.appends);
      begun = begun;
      registers = ap (λ (n : Netlist). n.regs) el.appends.is;
      memories = ap (λ (n : Netlist). n.mems) el.appends.is;
      inputs = ap (λ (n : Netlist). n.inputs) el.appends.is;
      pins = ap (map outer) is ∙ pins_are frame s;
      shows = record {
        ready = λ o at. carried p names f o (output_of (codes "ready") 1 s.ready) Ready begun (sym (ap (λ l. slice_get l 0) is) ∙ at) ready;
        done = λ o at. carried p names f o (output_of (codes "done") 1 s.done) Done begun (sym (ap (λ l. slice_get l 1) is) ∙ at) done;
        element = λ o at g t pins x m less.
            let from : s.element ≡ o.from = ap (λ (y : OutPin). y.from) (same_Some (output_of (codes "h_rdata") 64 s.element) o (sym (ap (λ l. slice_get l 2) is) ∙ at)) in
            ap (seen g t pins) (sym from) ∙ el.shows g t pins x (moment_same p names e f g t pins x stays_same m) less;
        result = λ o at some.
            let some_ret : 0 < frame.ret = subst (λ n. 0 < n) result some in
            carried p names f o (output_of (codes "ret") frame.ret s.result) Result begun (sym (ap (λ l. slice_get l 3) is ∙ result_there frame.ret s some_ret) ∙ at) (last some_ret);
      };
    }
