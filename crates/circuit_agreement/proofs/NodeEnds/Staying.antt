-- Variables stay where no node is left.
use Rattle.std.proofs.Common.{◌≡◌, false, refl, ap, ◌∙◌, mod-eq_of_lt, arith}
use Rattle.std.specs.Prelude.{◌==◌}
use Rattle.std.proofs.lemmas.Bool.{and_left, and_right}
use Rattle.datapath.specs.Plans.{Plan, body_at, span}
use Rattle.datapath.specs.Cycles.{Ready, Initial, Time, Variable, Result, Contents, Cycle, in_cycle, holds, starts}
use Rattle.datapath.specs.Control.{is_taken, leaves_as}
use Rattle.datapath.specs.Circuits.{IsAfter}
use Rattle.datapath.proofs.Controller.{off, off_leaves, NoneLeft, none_left, none_left_inside}
use Rattle.datapath.proofs.BlockSteps.{max_of}
use Rattle.datapath.proofs.LeavingBlocks.{by_node}
use Rattle.circuit_agreement.specs.CircuitFlow.NodeEnds.Ends.{KeepsVariables}
use Rattle.circuit_agreement.specs.CircuitFlow.NodeEnds.{VariablesStay, VariablesStayInBlocks, VariablesStayLoading, VariablesStayWaiting}
use Rattle.circuit_agreement.proofs.NodeEnds.Variables.{unleft_outs, unleft_returned, result_stays, variable_stays}

stay : (p : Plan) (x y : Contents) (c : Cycle) → c.regs ≡ x.regs → IsAfter p c y → is_taken c ≡ false → holds c Initial ≡ false → NoneLeft p c → KeepsVariables x y
stay p x y c same after untaken uninitial none = record {
  variables = λ v. variable_stays p c y after untaken uninitial v (λ j node e. unleft_outs p c v j node (none j node e)) ∙ ap (λ r. r (Variable v)) same;
  result = result_stays p c y after (λ j node e. unleft_returned p c j node (none j node e)) ∙ ap (λ r. r Result) same;
}

pub variables_stay : VariablesStay
variables_stay p i time it x y pins at_ inside step unleft =
    let c : Cycle = in_cycle x step.signals pins in
    let none : NoneLeft p c = by_node p i it (λ j node. leaves_as p c j node ≡ false) at_ unleft (λ j node other. off_leaves p c j node (inside.others j other)) in
    stay p x y c refl step.is_after (and_left _ (starts c) (off c Ready inside.busy.ready)) (off c Initial inside.busy.initial) none

pub variables_stay_in_blocks : VariablesStayInBlocks
variables_stay_in_blocks p i body end_ f x y pins at_ more stands step =
    let c : Cycle = in_cycle x step.signals pins in
    let wide : span p i ≡ (body_at p i).interval = max_of (body_at p i).interval (omega (arith, more)) in
    let now : c.regs Time ≡ f.time = stands.time ∙ mod-eq_of_lt (omega (arith, more, wide)) in
    let none : NoneLeft p c = none_left_inside p c i f.time body end_ at_ (omega (arith, more, wide)) now stands.others in
    stay p x y c refl step.is_after (and_left _ (starts c) (off c Ready stands.busy.ready)) (off c Initial stands.busy.initial) none

pub variables_stay_loading : VariablesStayLoading
variables_stay_loading p i x y pins loading step =
    let c : Cycle = in_cycle x step.signals pins in
    stay p x y c refl step.is_after (and_left _ (starts c) (off c Ready loading.busy.ready)) (off c Initial loading.busy.initial) (none_left p c loading.active)

pub variables_stay_waiting : VariablesStayWaiting
variables_stay_waiting p done x y pins unstarted waiting step =
    let c : Cycle = in_cycle x step.signals pins in
    stay p x y c refl step.is_after (and_right (holds c Ready) _ (ap (λ n. n == 1) unstarted)) (off c Initial waiting.initial) (none_left p c waiting.still.active)
