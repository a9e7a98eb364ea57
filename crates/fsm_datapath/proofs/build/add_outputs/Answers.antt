use Rattle.std.proofs.Common.{sym, ap, subst, arith}
use Rattle.rtl_core.specs.declared.pins.Shown.{Shown}
use Rattle.rtl_logic.specs.Making.{circuit}
use Rattle.datapath.specs.Plans.{Plan}
use Rattle.datapath.specs.Cycles.{Ready, Done, Result}
use Rattle.datapath.specs.CircuitWires.Carrying.{IsRegister}
use Rattle.circuit_context.specs.Bank.Banks.{names_of}
use Rattle.fsm_datapath.proofs.Showing.{in_names, outputs_are}
use Rattle.fsm_datapath.proofs.build.add_outputs.Goals.{in-0, in_default+in_ok-result-in_default}
use Rattle.fsm_datapath.proofs.build.add_outputs.Goals as goal

pub returns : goal.returns
returns c = λ p names context begun.
    let of = c.args.of.now in
    let shown : Shown = record { ready = c.in_ok-register.field-0; done = c.in_ok-register-2.field-0; element = c.in_ok-element.field-0; result = c.match-of.result } in
    outputs_are p names of.cfg.now.frame (circuit c.args.logic.now) (circuit c.element.new.logic) c.in_ok-logic.field-0.items shown (c.in_ok-element.ensures p names context begun) c.in_ok-logic.ensures
    (ap (λ (q : Plan). q.result) context.plan) (in_names p names of c.in_ok-register.field-0 Ready context c.in_ok-register.ensures)
    (in_names p names of c.in_ok-register-2.field-0 Done context c.in_ok-register-2.ensures)
    (λ some. elim c.match-of.branch [
      | in-0 w ↦ absurd (omega (arith, some, w.in-0.is))
      | in_default+in_ok-result-in_default w ↦
          in_names p names of c.match-of.result Result context (subst (λ a. IsRegister (names_of of.bank) a Result) (sym w.result-is) w.in_ok-result-in_default.ensures)
    ])
