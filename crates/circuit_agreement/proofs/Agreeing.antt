-- The circuit agrees with the box that asks the clocked run.
use Rattle.std.proofs.Common.{◌≡◌, ◌≢◌, ℕ, zero, suc, ◌^◌, ◌<◌, List, Option, Some, None, map, refl, sym, ap, ◌∙◌, subst, arith}
use Rattle.std.specs.Prelude.{slice_get}
use Rattle.rtl_core.specs.declared.design.Pin.{Pin}
use Rattle.rtl_core.specs.Netlist.{Netlist}
use Rattle.rtl_core.specs.ClockStep.{State, IsState, ArePins, input_widths, stepped, outputs}
use Rattle.rtl_core.specs.Valid.{IsValid}
use Rattle.rtl_core.specs.Interface.{reset_of, start_of, ready_of, done_of, read_data_of, ret_of}
use Rattle.rtl_core.specs.Box.{Phase, Init, Idle, Busy, Done, Forever, Broken, Box, BoxStep, initial}
use Rattle.rtl_core.specs.Agreement as agreement
use Rattle.rtl_core.specs.Agreement.{ShowsPhase, ShowsValue, ShowsResult, IsBroken, held_arrays, after_reset}
use Rattle.rtl_core.proofs.Fits.{fit_get, step_is_state}
use Rattle.circuit_agreement.specs.Relating.{Relates}
use Rattle.circuit_agreement.proofs.Relating.{related}
use Rattle.clock_ir.specs.ClockRuns.{clock_run}
use Rattle.datapath.specs.Plans.{Plan, interface, initial_cycles}
use Rattle.datapath.specs.Cycles.{Result, Contents}
use Rattle.datapath.specs.Circuits.{ShowsReturn, Shows}
use Rattle.datapath.specs.Netlists.{Holds, Follows, IsCircuitOf}
use Rattle.datapath.specs.Standing.{IsBusy}
use Rattle.datapath.specs.Laws.{Resets}
use Rattle.datapath.specs.Answers.{first_file_scope}
use Rattle.datapath.proofs.Controller.{resets_always}
use Rattle.circuit_agreement.specs.CircuitFlow.Compiled.{IsCompiled}
use Rattle.circuit_agreement.specs.CircuitStores.{HoldsHosts, IsFilled}
use Rattle.circuit_agreement.proofs.CircuitStores.Found.{found_contents}
use Rattle.circuit_agreement.proofs.CircuitStores.Starting.{filling_begins, filling_ends}
use Rattle.circuit_agreement.specs.Answers.{machine_answers}
use Rattle.circuit_agreement.specs.Standing.{FitsFrame}
use Rattle.circuit_agreement.specs.Boxes.{HasMemories, BoxStandsAs, BoxStands}
use Rattle.circuit_agreement.specs.Laws.{CircuitsAgree}
use Rattle.circuit_agreement.proofs.Widths.{words_fit}
use Rattle.circuit_agreement.proofs.Running.{under_way_busy, box_goes}

-- ---- what is shown

returned : (bits x ret : ℕ) → bits ≢ 0 → ShowsReturn bits x ret → ret ≡ x
returned zero x ret some h = absurd (some refl)
returned (suc bits) x ret some h = h

module _ (p : Plan) (c : IsCompiled p) (b : Box) (x : Contents) (outs : List ℕ) (shows : Shows p x outs) where
  nothing_shown : b.shown ≡ None → ShowsValue b.shown (read_data_of outs)
  nothing_shown none = subst (λ (s : Option ℕ). ShowsValue s (read_data_of outs)) (sym none) tt

  busy_shown : IsBusy x → (ready_of outs ≡ 0) × (done_of outs ≡ 0)
  busy_shown busy = (shows.ready ∙ busy.ready, shows.done ∙ busy.done_)

  result_shown : (result : Option ℕ) → ((w : ℕ) → result ≡ Some w → (x.regs Result ≡ w) × (p.result ≢ 0)) → ShowsValue result (ret_of outs)
  result_shown None h = tt
  result_shown (Some w) h = let r = h w refl in returned p.result (x.regs Result) (ret_of outs) r.1 shows.result ∙ r.0

  phase_shown : (phase : Phase) → BoxStandsAs p c phase b x → ¬ IsBroken phase → ShowsPhase phase (ready_of outs) (done_of outs)
  phase_shown (Init cycles) h whole = (shows.ready ∙ h.sequence.ready, shows.done ∙ h.sequence.done_)
  phase_shown Idle h whole = (shows.ready ∙ h.0.ready, shows.done ∙ h.0.done_)
  phase_shown (Busy cycles result arrays file_scope) h whole =
      let r = h.0 in
      let some = r.some in
      busy_shown (under_way_busy p c (clock_run p.program r.words r.edges) x r.stands (r.ends_.not_sooner r.edges (omega (arith, some))))
  phase_shown (Done result) h whole = (shows.ready ∙ h.0.ready, shows.done ∙ h.0.done_)
  phase_shown Forever h whole = let r = h.0 in busy_shown (under_way_busy p c (clock_run p.program r.words r.edges) x r.stands (r.runs.never r.edges))
  phase_shown Broken h whole = tt

  word_shown : (phase : Phase) → BoxStandsAs p c phase b x → ShowsResult phase (ret_of outs)
  word_shown (Init cycles) h = tt
  word_shown Idle h = tt
  word_shown (Busy cycles result arrays file_scope) h = tt
  word_shown (Done result) h = result_shown result h.1.1
  word_shown Forever h = tt
  word_shown Broken h = tt

  element_shown : (phase : Phase) → BoxStandsAs p c phase b x → ¬ IsBroken phase → ShowsValue b.shown (read_data_of outs)
  element_shown (Init cycles) h whole = nothing_shown h.shown
  element_shown Idle h whole = h.1.element outs shows
  element_shown (Busy cycles result arrays file_scope) h whole = nothing_shown h.1
  element_shown (Done result) h whole = h.1.0.element outs shows
  element_shown Forever h whole = nothing_shown h.1
  element_shown Broken h whole = absurd (whole tt)

  box_shown : BoxStands p c b x → ¬ IsBroken b.phase → agreement.Shows b outs
  box_shown h whole = record { phase = phase_shown b.phase h whole; result = word_shown b.phase h; element = element_shown b.phase h whole }

-- ---- the relation

module _ (p : Plan) (d : Netlist) (c : IsCompiled p) (fits : FitsFrame p) (circuit : IsCircuitOf p d) (memories : HasMemories p d) (valid : IsValid d) where
  abbrev Related : State → Box → Type 0
  Related s b = (x : Contents) × (Holds p circuit.names s x × BoxStands p c b x)

  start_fits : (pins : List ℕ) → ArePins d pins → start_of pins < 2
  start_fits pins are =
      let one : slice_get (input_widths d) 1 ≡ Some 1 = ap (λ (l : List Pin). slice_get (map (λ (q : Pin). q.bits) l) 1) circuit.pins.inputs in
      let low : start_of pins < 2 ^ 1 = fit_get (input_widths d) pins are 1 1 one in
      omega (arith, low)

  begin_as : (power_up : State) (x y : Contents) (n : ℕ) → initial_cycles p ≡ n → Resets p x y → IsFilled p (held_arrays (interface p).arrays power_up.mems) 0 y
      → BoxStandsAs p c (initial n) (after_reset (interface p) (initial_cycles p) (first_file_scope p) power_up) y
  begin_as power_up x y zero none resets filled = (
    resets.waits none,
    record {
      holds = filling_ends p (held_arrays (interface p).arrays power_up.mems) y c (subst (λ n. IsFilled p (held_arrays (interface p).arrays power_up.mems) n y) (sym none) filled);
      element = λ outs shows. tt;
    },
  )
  begin_as power_up x y (suc k) some resets filled = record {
    time = 0;
    left_ = omega (arith, some);
    some = omega arith;
    sequence = resets.begins (λ e. omega (arith, e, some));
    filled = filled;
    scope = refl;
    shown = refl;
  }

  begin : (power_up : State) (first : List ℕ) → IsState d power_up → ArePins d first → reset_of first ≡ 1 → Related (stepped d power_up first) (after_reset (interface p) (initial_cycles p) (first_file_scope p) power_up)
  begin power_up first is are high =
      let x = circuit.begins power_up is in
      let follows : Follows p circuit.names d power_up first x.0 = circuit.goes_on power_up first x.0 is are x.1 in
      let resets : Resets p x.0 follows.after = resets_always p x.0 follows.after first high follows.step in
      let hosts : HoldsHosts p (held_arrays (interface p).arrays power_up.mems) x.0 = found_contents p d circuit.names power_up x.0 c circuit.arrays is x.1 in
      let filled = filling_begins p (held_arrays (interface p).arrays power_up.mems) x.0 follows.after first high hosts follows.step in
      (follows.after, (follows.holds, begin_as power_up x.0 follows.after (initial_cycles p) refl resets filled))

  go_on : (s : State) (b next : Box) (pins : List ℕ) → IsState d s → Related s b → ¬ IsBroken b.phase → ArePins d pins → reset_of pins ≡ 0 → BoxStep (interface p) (machine_answers p) b pins next
      → Related (stepped d s pins) next
  go_on s b next pins is related_ whole are unset goes =
      let x = related_.0 in
      let holds = related_.1.0 in
      let follows : Follows p circuit.names d s pins x = circuit.goes_on s pins x is are holds in
      let y : Contents = follows.after in
      let words = words_fit p d circuit.names (stepped d s pins) y memories (step_is_state d s pins valid is are) follows.holds in
      (y, (follows.holds, box_goes p c fits b x y pins holds.fit follows.holds.fit words unset follows.step (start_fits pins are) b.phase next refl related_.1.1 whole goes))

  relates : Relates d (interface p) (initial_cycles p) (first_file_scope p) (machine_answers p) Related
  relates = record {
    begins = begin;
    shows = λ s b pins is related_ whole are unset. box_shown p c b related_.0 (outputs d s pins) (circuit.shows s pins related_.0 is are related_.1.0) related_.1.1 whole;
    goes_on = go_on;
  }

pub circuits_agree : CircuitsAgree
circuits_agree p d c fits circuit memories valid =
    related d (interface p) (initial_cycles p) (first_file_scope p) (machine_answers p) (Related p d c fits circuit memories valid) valid circuit.pins circuit.arrays
    (relates p d c fits circuit memories valid)
