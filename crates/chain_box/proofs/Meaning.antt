-- Where each start has an answer with a meaning, a chain can always go on so that no box is broken.
use Rattle.std.proofs.Common.{◌≡◌, ℕ, suc, zero, ◌-◌, Bool, true, false, ◌&&◌, List, [], ◌∷◌, map, Option, refl, sym, ap, ◌∙◌, subst}
use Rattle.std.specs.List.{AllByRecursion}
use Rattle.hls_base.specs.FileScope.{FileScope}
use Rattle.rtl_core.specs.Box.{Answer, Ended, Undefined, Endless, Phase, Init, Idle, Busy, Done, Forever, Broken, Box, StepIn, Waits, initial, entered, waited, in_phase}
use Rattle.rtl_core.specs.Agreement.{IsBroken}
use Rattle.rtl_core.specs.Netlist.{Netlist}
use Rattle.chain_box.specs.StageBoxes.{StageBox, answers_of, interface_of, stage_pins, given_result, IsMeaningful, AlwaysAnswers}
use Rattle.chain_box.specs.Chains.{Link, Chain, Pins, first, has_room, gives, starts, taken, popped, pushed, fresh_after, LinkStep, LinksStep, ChainStep, begun_link, begun, AreSound, ComeTo}
use Rattle.chain_box.specs.Agreement.{pins_of, AgreesWithChain, RunsSoundly, AllAnswer, AlwaysComposes}
use Rattle.chain_box.proofs.Composing.{agreeing_composes}

whole_initial : (k : ℕ) → ¬ IsBroken (initial k)
whole_initial zero = λ x. x
whole_initial (suc k) = λ x. x

whole_entered : (b : Box) (a : Answer) → IsMeaningful a → ¬ IsBroken (entered b a).phase
whole_entered b (Ended cycles result arrays file_scope) m = λ x. x
whole_entered b Undefined m = absurd m
whole_entered b Endless m = λ x. x

whole_waited : (b : Box) (k : ℕ) (r : Option ℕ) (arrays : List (List ℕ)) (file_scope : FileScope) → ¬ IsBroken (waited b k r arrays file_scope).phase
whole_waited b zero r arrays file_scope = λ x. x
whole_waited b (suc zero) r arrays file_scope = λ x. x
whole_waited b (suc (suc k)) r arrays file_scope = λ x. x

abbrev GoesOn : Phase → StageBox → Box → Bool → ℕ → Type 0
GoesOn p s b start x = (c : Box) × StepIn p (interface_of s) (answers_of s.answers) b (stage_pins start x) c × (¬ IsBroken c.phase)

waits_on : (s : StageBox) (b : Box) (start : Bool) (x : ℕ) → AlwaysAnswers s → ¬ IsBroken b.phase
    → (c : Box) × Waits (interface_of s) (answers_of s.answers) b (stage_pins start x) c × (¬ IsBroken c.phase)
waits_on s b true x answers whole =
    let a = answers b.file_scope (x ∷ []) b.arrays in (entered b a.0, record { taken = λ e. (a.0, a.1, refl); kept = λ e. absurd (e refl) }, whole_entered b a.0 a.2)
waits_on s b false x answers whole = (in_phase b b.phase, record { taken = λ e. absurd (cc); kept = λ e. refl }, whole)

goes_on : (p : Phase) (s : StageBox) (b : Box) (start : Bool) (x : ℕ) → AlwaysAnswers s → ¬ IsBroken b.phase → ¬ IsBroken p → GoesOn p s b start x
goes_on (Init cycles) s b start x answers whole here = (in_phase b (initial (cycles - 1)), refl, whole_initial (cycles - 1))
goes_on Idle s b start x answers whole here = waits_on s b start x answers whole
goes_on (Busy cycles result arrays file_scope) s b start x answers whole here = (waited b cycles result arrays file_scope, refl, whole_waited b cycles result arrays file_scope)
goes_on (Done result) s b start x answers whole here = waits_on s b start x answers whole
goes_on Forever s b start x answers whole here = (in_phase b Forever, refl, λ z. z)
goes_on Broken s b start x answers whole here = absurd (here tt)

abbrev LinksAnswer : List Link → Type 0
LinksAnswer ls = AllByRecursion (λ (l : Link). AlwaysAnswers l.stage) ls

links_go_on : (depth : ℕ) (take : Bool) (front : List ℕ) (ls : List Link) → LinksAnswer ls → AreSound ls → (ms : List Link) × LinksStep depth take front ls ms × LinksAnswer ms × AreSound ms
links_go_on depth take front [] answers sound = ([], tt, tt, tt)
links_go_on depth take front (l ∷ ls) answers sound =
    let b = goes_on l.box.phase l.stage l.box (starts depth front l) (first front) answers.0 sound.0 sound.0 in
    let m : Link =
    record {
      stage = l.stage;
      box = b.0;
      fresh = fresh_after (starts depth front l) (gives depth l) l.fresh;
      queue = pushed (gives depth l) (given_result l.box.phase) (popped (taken depth take l.queue ls) l.queue);
    } in
    let rest = links_go_on depth take l.queue ls answers.1 sound.1 in
    (m ∷ rest.0, (record { stage = refl; box = b.1; fresh = refl; queue = refl }, rest.1), (answers.0, rest.2), (b.2, rest.3))

runs_soundly : (depth : ℕ) (rest : List (List ℕ)) (c : Chain) → LinksAnswer c.links → AreSound c.links → RunsSoundly depth c rest
runs_soundly depth [] c answers sound = tt
runs_soundly depth (pins ∷ rest) c answers sound =
    let p = pins_of pins in
    let on = links_go_on depth p.out_take c.entry c.links answers sound in
    let next : Chain =
    record { entry = pushed (p.in_valid && has_room depth c.entry) p.in_data (popped (taken depth p.out_take c.entry c.links) c.entry); links = on.0 } in
    (sound, (next, record { entry = refl; links = on.1 }, runs_soundly depth rest next on.2 on.3))

begun_answer : (boxes : List StageBox) → AllAnswer boxes → LinksAnswer (map begun_link boxes)
begun_answer [] h = tt
begun_answer (b ∷ boxes) h = (h.0, begun_answer boxes h.1)

begun_sound : (boxes : List StageBox) → AreSound (map begun_link boxes)
begun_sound [] = tt
begun_sound (b ∷ boxes) = (whole_initial b.init, begun_sound boxes)

pub agreeing_always_composes : (d : Netlist) (depth : ℕ) (boxes : List StageBox) (results : List (ℕ → Option ℕ)) → AgreesWithChain d depth boxes → ComeTo boxes results → AllAnswer boxes → AlwaysComposes d results
agreeing_always_composes d depth boxes results agrees come answers power_up start rest stream =
    agreeing_composes d depth boxes results agrees come power_up start rest stream (runs_soundly depth rest (begun boxes) (begun_answer boxes answers) (begun_sound boxes))
