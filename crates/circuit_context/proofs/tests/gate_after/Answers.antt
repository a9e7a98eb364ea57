use Rattle.std.proofs.Common.{◌-◌, refl, ap}
use Rattle.std.proofs.lemmas.Result.{IfOk-weaker}
use Rattle.rtl_logic.specs.Making.{circuit}
use Rattle.datapath.specs.Cycles.{Cycle, Gate, bit}
use Rattle.datapath.specs.Control as control
use Rattle.datapath.proofs.Combining.{carries_as}
use Rattle.circuit_context.proofs.Gates.{register_tells, after_cycles, after_tests, after_none}
use Rattle.circuit_context.proofs.tests.gate_after.Goals as goal

pub returns-then-rest-gt0 : goal.returns-then-rest-gt0
returns-then-rest-gt0 c = λ p names h begun.
    let i = c.args.node.0 in
    let tests = c.args.tests in
    let rest = c.args.rest in
    IfOk-weaker c.register.result _ _
    (λ a is. register_tells p names (circuit c.args.logic.now) a (Gate tests) (λ (x : Cycle). control.gate_after p x i tests rest) begun refl (λ x. after_cycles p x i tests rest c.if-rest-gt0.true) is)
    (c.register.ensures p names h)

pub returns-then-tests-gt0 : goal.returns-then-tests-gt0
returns-then-tests-gt0 c = λ p names h begun.
    let i = c.args.node.0 in
    let tests = c.args.tests in
    let rest = c.args.rest in
    IfOk-weaker c.register-then-tests-gt0.result _ _
    (λ a is. register_tells p names (circuit c.args.logic.now) a (Gate (tests - 1)) (λ (x : Cycle). control.gate_after p x i tests rest) begun refl
    (λ x. after_tests p x i tests rest c.if-rest-gt0.false c.if-tests-gt0.true) is) (c.register-then-tests-gt0.ensures p names h)

pub returns : goal.returns
returns c = λ p names h begun.
    let i = c.args.node.0 in
    let tests = c.args.tests in
    let rest = c.args.rest in
    IfOk-weaker c.runs_on.result _ _
    (λ a made. carries_as p names (circuit c.args.logic.now) (circuit c.runs_on.new.logic) 1 a (λ (x : Cycle). bit (control.gate_after p x i 0 0)) (λ (x : Cycle). bit (control.gate_after p x i tests rest))
    (λ x. ap bit (after_none p x i tests rest c.if-rest-gt0.false c.if-tests-gt0.false)) made) (c.runs_on.ensures p names h begun)
