-- Compiled stages that are linked.
use Rattle.std.proofs.Common.{◌≡◌, ◌≢◌, ℕ, List, [], ◌∷◌, Option, None, Some, refl, sym, ◌∙◌, subst, ap}
use Rattle.hls_base.specs.FileScope.{FileScope}
use Rattle.c_tree.specs.Tree.{ProgramTree}
use Rattle.c_meaning.specs.Run as c
use Rattle.c_meaning.specs.Run.{c_run, first_contents}
use Rattle.cycle_report.specs.PlainReport.{PlainReport}
use Rattle.rtl_core.specs.Netlist.{Netlist}
use Rattle.rtl_core.specs.ClockStep.{State, stepped}
use Rattle.rtl_core.specs.Interface.{Interface, start_of, arguments_of}
use Rattle.rtl_core.specs.Box.{Answer, Ended, Undefined, Endless, Answers, Phase, Init, Idle, Busy, Done, Forever, Broken, Box, Waits, StepIn, BoxStep, entered}
use Rattle.rtl_core.specs.Agreement.{Follows, Agrees}
use Rattle.cosim_levels.specs.Pins.FunctionPins as function
use Rattle.cosim_levels.specs.CAnswers as answer
use Rattle.cosim_levels.specs.CAnswers.{IsCAnswer, c_answers}
use Rattle.chain_box.specs.StageBoxes.{StageBox, stage_interface, answers_of, interface_of, HasResult, HasResults}
use Rattle.chain_box.specs.Agreement.{AreStagesOf}
use Rattle.chain_link.specs.Laws.{IsLinked}
use Rattle.linked_stages.specs.LinkedStages.{run_answer, run_answers, IsCompiledStage, AreCompiledStages, CompiledStagesCompose}

-- ---- agreement with a box that has fewer answers

abbrev AreFewer : Answers → Answers → Type 0
AreFewer few many = (kept : FileScope) (arguments : List ℕ) (arrays : List (List ℕ)) (a : Answer) → few kept arguments arrays a → many kept arguments arrays a

fewer_waits : (i : Interface) (few many : Answers) (old : Box) (pins : List ℕ) (new : Box) → AreFewer few many → Waits i few old pins new → Waits i many old pins new
fewer_waits i few many old pins new sub w = record {
  taken = λ e. let found = w.taken e in (found.0, sub old.file_scope (arguments_of pins) old.arrays found.0 found.1, found.2);
  kept = λ e. w.kept e;
}

fewer_in : (phase : Phase) (i : Interface) (few many : Answers) (old : Box) (pins : List ℕ) (new : Box) → AreFewer few many → StepIn phase i few old pins new → StepIn phase i many old pins new
fewer_in (Init n) i few many old pins new sub step = step
fewer_in Idle i few many old pins new sub step = fewer_waits i few many old pins new sub step
fewer_in (Busy n result arrays kept) i few many old pins new sub step = step
fewer_in (Done result) i few many old pins new sub step = fewer_waits i few many old pins new sub step
fewer_in Forever i few many old pins new sub step = step
fewer_in Broken i few many old pins new sub step = step

fewer_follow : (d : Netlist) (i : Interface) (few many : Answers) (s : State) (b : Box) (rest : List (List ℕ)) → AreFewer few many → Follows d i many s b rest → Follows d i few s b rest
fewer_follow d i few many s b [] sub follows = tt
fewer_follow d i few many s b (pins ∷ rest) sub follows = λ sound.
    let now = follows sound in
    (now.0, λ next step. fewer_follow d i few many (stepped d s pins) next rest sub (now.1 next (fewer_in b.phase i few many b pins next sub step)))

fewer_agree : (d : Netlist) (i : Interface) (init : ℕ) (first : FileScope) (few many : Answers) → AreFewer few many → Agrees d i init first many → Agrees d i init first few
fewer_agree d i init first few many sub a = record {
  pins = a.pins;
  arrays = a.arrays;
  follows = λ power_up start rest is fits reset low. fewer_follow d i few many _ _ rest sub (a.follows power_up start rest is fits reset low);
}

-- ---- the answers of a run in C

answer_of_run : (p : ProgramTree) (top : ℕ) (r : PlainReport) (kept : FileScope) (arguments : List ℕ) (arrays : List (List ℕ)) (n : ℕ) (ran : c.Answer) (a : Answer)
    → c_run p top kept arguments arrays n ≡ ran → run_answer r ran ≡ Some a → IsCAnswer p top r kept arguments arrays a
answer_of_run p top r kept arguments arrays n (c.ended None elements left trace) a runs is = let clash : None ≡ Some a = is in absurd cc
answer_of_run p top r kept arguments arrays n (c.ended (Some x) elements left trace) a runs is = answer.ends n (Some x) elements left trace runs (cc)
answer_of_run p top r kept arguments arrays n (c.undefined rule at) a runs is = answer.is_undefined n rule at runs (cc)
answer_of_run p top r kept arguments arrays n c.running a runs is = let clash : None ≡ Some a = is in absurd cc

run_answers_are : (p : ProgramTree) (top : ℕ) (r : PlainReport) → AreFewer (answers_of (run_answers p top r)) (c_answers p top r)
run_answers_are p top r kept arguments arrays a (n, is) = answer_of_run p top r kept arguments arrays n (c_run p top kept arguments arrays n) a refl is

result_of_run : (r : PlainReport) (ran : c.Answer) (a : Answer) → run_answer r ran ≡ Some a → HasResult a
result_of_run r ran Undefined is = tt
result_of_run r ran Endless is = tt
result_of_run r (c.ended None elements left trace) (Ended n result arrays kept) is = let clash : None ≡ Some (Ended n result arrays kept) = is in absurd cc
result_of_run r (c.ended (Some x) elements left trace) (Ended n result arrays kept) is = (x, cc)
result_of_run r (c.undefined rule at) (Ended n result arrays kept) is = let clash : Some Undefined ≡ Some (Ended n result arrays kept) = is in absurd cc
result_of_run r c.running (Ended n result arrays kept) is = let clash : None ≡ Some (Ended n result arrays kept) = is in absurd cc

-- ---- stages

stage_results : (p : ProgramTree) (top : ℕ) (r : PlainReport) (b : StageBox) → b.answers ≡ run_answers p top r → HasResults b
stage_results p top r b e kept arguments arrays a (n, is) =
    result_of_run r (c_run p top kept arguments arrays n) a (subst (λ numbered. numbered kept arguments arrays n ≡ Some a) e is)

stage_agrees : (d : Netlist) (b : StageBox) → IsCompiledStage d b → Agrees d (interface_of b) b.init b.file_scope (answers_of b.answers)
stage_agrees d b s =
    let p = s.made.accepted.program in
    let top = s.made.accepted.index in
    let r = s.made.texts.report in
    let kept = first_contents p in
    let few = fewer_agree s.made.texts.design (function.interface_of s.made.accepted.function) r.init kept (answers_of (run_answers p top r)) (c_answers p top r) (run_answers_are p top r) s.made.agrees in
    let by_pins = subst (λ i. Agrees s.made.texts.design i r.init kept (answers_of (run_answers p top r))) s.pins few in
    let by_init = subst (λ n. Agrees s.made.texts.design (interface_of b) n kept (answers_of (run_answers p top r))) (sym s.init) by_pins in
    let by_scope = subst (λ k. Agrees s.made.texts.design (interface_of b) b.init k (answers_of (run_answers p top r))) (sym s.file_scope) by_init in
    let by_answers = subst (λ a. Agrees s.made.texts.design (interface_of b) b.init b.file_scope (answers_of a)) (sym s.answers) by_scope in
    subst (λ e. Agrees e (interface_of b) b.init b.file_scope (answers_of b.answers)) (sym s.circuit) by_answers

pub compiled_stages : (ds : List Netlist) (boxes : List StageBox) → AreCompiledStages ds boxes → AreStagesOf ds boxes
compiled_stages [] [] are = tt
compiled_stages [] (b ∷ boxes) are = are
compiled_stages (d ∷ ds) [] are = are
compiled_stages (d ∷ ds) (b ∷ boxes) are =
    let s = are.0 in
    (stage_agrees d b s, stage_results s.made.accepted.program s.made.accepted.index s.made.texts.report b s.answers, compiled_stages ds boxes are.1)

pub compiled_stages_compose : CompiledStagesCompose
compiled_stages_compose ds boxes depth chain are linked =
    let stages = compiled_stages ds boxes are in
    (linked.agrees boxes stages, λ results come. linked.composes boxes results stages come)
