-- The box from cycle to cycle.
use Rattle.std.proofs.Common.{◌≡◌, ◌≢◌, ℕ, zero, suc, ◌+◌, ◌-◌, ◌<◌, ◌≤◌, Bool, true, false, List, Option, Some, None, inl, inr, refl, sym, ap, ◌∙◌, subst, arith}
use Rattle.std.specs.Prelude.{◌==◌, slice_get, if◌then◌else◌}
use Rattle.std.proofs.lemmas.Bool.{cases_eq}
use Rattle.hls_base.specs.FileScope.{FileScope}
use Rattle.hls_base.specs.declared.number.Kept.{Kept}
use Rattle.rtl_core.specs.Interface.{reset_of, start_of, write_of, enable_of, arguments_of}
use Rattle.rtl_core.specs.Box.{Answer, Ended, Undefined, Endless, Phase, Init, Idle, Busy, Done, Forever, Broken, Box, Element, initial, in_phase, entered, waited, named, accessed, served, Waits, StepIn}
use Rattle.rtl_core.specs.Agreement.{IsBroken}
use Rattle.ir_core.specs.Bodies.{Words}
use Rattle.clock_ir.specs.ClockRuns as clock
use Rattle.clock_ir.specs.ClockRuns.{TimedNode, block, overlapped, TimedProgram, starting, loading, inside, ended, at_node, enter, clock_step, clock_run}
use Rattle.datapath.specs.Plans.{Plan, interface, initial_cycles}
use Rattle.datapath.specs.Cycles.{Contents}
use Rattle.datapath.specs.Circuits.{Step}
use Rattle.datapath.specs.Standing.{IsWaiting, IsBusy}
use Rattle.datapath.specs.Answers.{HoldsArrays, Begins, HasEnded}
use Rattle.datapath.proofs.Controller.{waits, starts_first}
use Rattle.datapath.proofs.Sequence.{sequences}
use Rattle.circuit_agreement.specs.CircuitFlow.Compiled.{IsCompiled}
use Rattle.circuit_agreement.specs.UnitResults.{HasWidths}
use Rattle.circuit_agreement.proofs.NodeEnds.Staying.{variables_stay_waiting}
use Rattle.circuit_agreement.specs.CircuitStores.HeldWords.{words_in}
use Rattle.circuit_agreement.specs.CircuitStores.{IsFilled}
use Rattle.circuit_agreement.proofs.CircuitStores.Shown.{contents_are_shown}
use Rattle.circuit_agreement.proofs.CircuitStores.Starting.{runs_begin, filling_goes_on, filling_ends}
use Rattle.circuit_agreement.proofs.CircuitStores.Serving.{hosts_are_served}
use Rattle.circuit_agreement.specs.Answers.{IsClear, EndsAfter, machine_answers}
use Rattle.circuit_agreement.specs.Standing.{FitsFrame, StandsLoadingAs, StandsAtEnd, StandsIn}
use Rattle.circuit_agreement.specs.Boxes.{IsFilling, IsServing, IsRunning, IsRunningOn, BoxStandsAs, BoxStands}
use Rattle.circuit_agreement.proofs.Widths.{WordsFit}
use Rattle.circuit_agreement.proofs.Beginning.{found, found_held, begins}
use Rattle.circuit_agreement.proofs.Entering.{nodes_are_entered}
use Rattle.circuit_agreement.proofs.Stepping.{runs_step}

-- ---- runs, edge by edge

run_none : (g : TimedProgram) (t : Words) → clock_run g t 0 ≡ starting t
unfolding clock_run
run_none g t = refl

run_first : (g : TimedProgram) (t : Words) → clock_run g t 1 ≡ enter g.nodes g.first t
unfolding clock_run
run_first g t = refl

run_next : (g : TimedProgram) (t : Words) (n : ℕ) → clock_run g t (suc n) ≡ clock_step g (clock_run g t n)
unfolding clock_run
run_next g t n = refl

-- no run ends with the cycle of its start
begun_not_ended : (i : ℕ) (t : Words) (node : Option TimedNode) (word : Option ℕ) (words : Words) → at_node i t node ≡ ended word words → ⊥
begun_not_ended i t None word words e = (let clash : loading i t ≡ ended word words = e in cc)
begun_not_ended i t (Some (block body end_)) word words e = (let clash : at_node i t (Some (block body end_)) ≡ ended word words = e in cc)
begun_not_ended i t (Some (overlapped body exit next)) word words e = (let clash : loading i t ≡ ended word words = e in cc)

ends_late : (p : Plan) (t : Words) (cycles : ℕ) (result : Option ℕ) (words : Words) → clock_run p.program t cycles ≡ ended result words → 2 ≤ cycles
ends_late p t zero result words e = absurd (let clash : starting t ≡ ended result words = sym (run_none p.program t) ∙ e in cc)
ends_late p t (suc zero) result words e =
    absurd (begun_not_ended p.program.first t (slice_get p.program.nodes p.program.first) result words (sym (run_first p.program t) ∙ e))
ends_late p t (suc (suc k)) result words e = omega arith

loading_busy : (p : Plan) (i : ℕ) (t : Words) (x : Contents) (node : Option TimedNode) → StandsLoadingAs p i t x node → IsBusy x
loading_busy p i t x None h = h.0
loading_busy p i t x (Some (block body end_)) h = absurd h
loading_busy p i t x (Some (overlapped body exit next)) h = h.0.busy

pub under_way_busy : (p : Plan) (c : IsCompiled p) (phase : clock.Phase) (x : Contents) → StandsIn p c phase x → (HasEnded phase → ⊥) → IsBusy x
under_way_busy p c (starting t) x h unended = absurd h
under_way_busy p c (loading i t) x h unended = loading_busy p i t x (slice_get p.program.nodes i) h
under_way_busy p c (inside i f) x h unended = h.inside_.busy
under_way_busy p c (ended word t) x h unended = absurd (unended tt)

-- ---- the host changes no phase

choose_phase : (test : Bool) (u v : Box) (phase : Phase) → u.phase ≡ phase → v.phase ≡ phase → (if test then u else v).phase ≡ phase
choose_phase true u v phase yes_ no_ = yes_
choose_phase false u v phase yes_ no_ = no_

accessed_phase : (b : Box) (pins : List ℕ) (e : Option Element) → (accessed b pins e).phase ≡ b.phase
accessed_phase b pins None = refl
accessed_phase b pins (Some e) = choose_phase (write_of pins == 1) _ _ b.phase refl refl

served_phase : (p : Plan) (b : Box) (pins : List ℕ) → (served (interface p) b pins).phase ≡ b.phase
served_phase p b pins = choose_phase (enable_of pins == 1) _ _ b.phase (accessed_phase b pins (named (interface p) pins)) refl

-- ---- a cycle without a reset

module _ (p : Plan) (c : IsCompiled p) (fits : FitsFrame p) (b : Box) (x y : Contents) (pins : List ℕ) (widths : HasWidths p x) (widths_behind : HasWidths p y) (words_behind : WordsFit p y)
    (unset : reset_of pins ≡ 0) (step : Step p x pins y) where
  -- the initial sequence
  filling_goes : (cycles rest : ℕ) → cycles ≡ suc rest → IsFilling p cycles b x → BoxStands p c (in_phase b (initial rest)) y
  filling_goes cycles zero e h =
      let left_ = h.left_ in
      let full : h.time + 1 ≡ initial_cycles p = omega (arith, left_, e) in
      let filled : IsFilled p b.arrays (initial_cycles p) y = subst (λ n. IsFilled p b.arrays n y) full (filling_goes_on p b.arrays h.time x y pins c unset h.sequence h.filled step) in (
        (sequences p h.time x y pins c.counts unset h.sequence step).ends_ full,
        record {
          holds = subst (λ (scope : FileScope). HoldsArrays p scope b.arrays (words_in p y)) (sym h.scope) (filling_ends p b.arrays y c filled);
          element = λ outs shows. tt;
        },
      )
  filling_goes cycles (suc k) e h =
      let left_ = h.left_ in
      record {
        time = h.time + 1;
        left_ = omega (arith, left_, e);
        some = omega arith;
        sequence = (sequences p h.time x y pins c.counts unset h.sequence step).goes_on (omega (arith, left_, e));
        filled = filling_goes_on p b.arrays h.time x y pins c unset h.sequence h.filled step;
        scope = h.scope;
        shown = refl;
      }

  -- a run
  run_goes : (t : Words) (n : ℕ) → StandsIn p c (clock_run p.program t n) x → (HasEnded (clock_run p.program t n) → ⊥) → IsClear p (clock_run p.program t n) → StandsIn p c (clock_run p.program t (suc n)) y
  run_goes t n stands unended clear =
      subst (λ (phase : clock.Phase). StandsIn p c phase y) (sym (run_next p.program t n)) (runs_step p c (clock_run p.program t n) x y pins fits stands unended clear widths unset step)

  running_goes : (cycles : ℕ) (result : Option ℕ) (arrays : List (List ℕ)) (file_scope : FileScope) → IsRunning p c cycles result arrays file_scope x
      → BoxStands p c (waited b cycles result arrays file_scope) y
  running_goes zero result arrays file_scope h = absurd (let s = h.some in omega (arith, s))
  running_goes (suc zero) result arrays file_scope h =
      let now : h.edges < h.edges + 1 = omega arith in
      let next_ : suc h.edges ≡ h.edges + 1 = omega arith in
      let stands : StandsIn p c (clock_run p.program h.words (suc h.edges)) y = run_goes h.words h.edges h.stands (h.ends_.not_sooner h.edges now) (h.ends_.clear h.edges now) in
      let last : StandsAtEnd p result h.ends_.words y = subst (λ (phase : clock.Phase). StandsIn p c phase y) (ap (clock_run p.program h.words) next_ ∙ h.ends_.ends_) stands in (
        last.waits,
        (
          record {
            holds = contents_are_shown p file_scope arrays h.ends_.words y c last.memories
                (λ (k : ℕ) (s : Kept) at_. last.kept s.variable.0 (record { number = k; kept = s; stands = at_; variable = refl })) h.ends_.holds;
            element = λ outs shows. tt;
          },
          last.result,
        ),
      )
  running_goes (suc (suc k)) result arrays file_scope h =
      let now : h.edges < h.edges + suc (suc k) = omega arith in
      let sum : h.edges + suc (suc k) ≡ suc h.edges + suc k = omega arith in (
        record {
          words = h.words;
          edges = suc h.edges;
          some = omega arith;
          stands = run_goes h.words h.edges h.stands (h.ends_.not_sooner h.edges now) (h.ends_.clear h.edges now);
          ends_ = subst (λ n. EndsAfter p h.words n result arrays file_scope) sum h.ends_;
        },
        refl,
      )

  running_on : IsRunningOn p c x → IsRunningOn p c y
  running_on h = record {
    words = h.words;
    edges = suc h.edges;
    stands = run_goes h.words h.edges h.stands (h.runs.never h.edges) (h.runs.clear h.edges);
    runs = h.runs;
  }

  -- a start
  module _ (done : Bool) (waiting : IsWaiting done x) (serving : IsServing p b x) where
    start_goes : start_of pins ≡ 1 → (answer : Answer) → machine_answers p b.file_scope (arguments_of pins) b.arrays answer → BoxStands p c (entered b answer) y
    start_goes start answer given = by_answer answer given
      where
        begun : Begins p b.file_scope (arguments_of pins) b.arrays (found p y)
        begun = begins p c b.file_scope (arguments_of pins) b.arrays y fits words_behind widths_behind (runs_begin p done b.file_scope b.arrays x y pins c unset start waiting serving.holds step)

        stands : StandsIn p c (clock_run p.program (found p y) 1) y
        stands =
            subst (λ (phase : clock.Phase). StandsIn p c phase y) (sym (run_first p.program (found p y)))
            (nodes_are_entered p c p.program.first (found p y) y (starts_first p done x y pins unset start waiting step) (λ v live. refl) (found_held p y))

        by_answer : (answer : Answer) → machine_answers p b.file_scope (arguments_of pins) b.arrays answer → BoxStands p c (entered b answer) y
        by_answer (Ended cycles result arrays after) given =
            let e : EndsAfter p (found p y) cycles result arrays after = given (found p y) begun in
            let late : 2 ≤ cycles = ends_late p (found p y) cycles result e.words e.ends_ in
            let sum : cycles ≡ 1 + (cycles - 1) = omega (arith, late) in (
              record {
                words = found p y;
                edges = 1;
                some = omega (arith, late);
                stands = stands;
                ends_ = subst (λ n. EndsAfter p (found p y) n result arrays after) sum e;
              },
              refl,
            )
        by_answer Undefined given = tt
        by_answer Endless given = (record { words = found p y; edges = 1; stands = stands; runs = given (found p y) begun }, refl)

    serving_goes : start_of pins ≢ 1 → IsServing p (served (interface p) b pins) y
    serving_goes unstarted =
        let s = hosts_are_served p done b x y pins c unset unstarted waiting serving.holds step in
        record { holds = s.holds; element = s.element }

  -- each phase
  waits_go : (done : Bool) (phase : Phase) (next : Box) → b.phase ≡ phase → IsWaiting done x → IsServing p b x → Waits (interface p) (machine_answers p) b pins next
      → (start_of pins ≢ 1 → IsServing p (served (interface p) b pins) y → BoxStandsAs p c phase (served (interface p) b pins) y) → BoxStands p c next y
  waits_go done phase next at_ waiting serving w on = elim (cases_eq (start_of pins) 1) [
    | inl start ↦ (let t = w.taken start in subst (λ (z : Box). BoxStands p c z y) (sym t.2) (start_goes done waiting serving start t.0 t.1))
    | inr unstarted ↦
        subst (λ (z : Box). BoxStands p c z y) (sym (w.kept unstarted))
        (subst (λ (q : Phase). BoxStandsAs p c q (served (interface p) b pins) y) (sym (served_phase p b pins ∙ at_)) (on unstarted (serving_goes done waiting serving unstarted)))
  ]

  pub box_goes : start_of pins < 2 → (phase : Phase) (next : Box) → b.phase ≡ phase → BoxStandsAs p c phase b x → ¬ IsBroken phase → StepIn phase (interface p) (machine_answers p) b pins next → BoxStands p c next y
  box_goes low (Init cycles) next at_ h whole goes = subst (λ (z : Box). BoxStands p c z y) (sym goes) (filling_goes cycles (cycles - 1) (let s = h.some in omega (arith, s)) h)
  box_goes low Idle next at_ h whole goes =
      waits_go false Idle next at_ h.0 h.1 goes (λ unstarted serving. (waits p false x y pins unset (omega (arith, low, unstarted)) h.0 step, serving))
  box_goes low (Busy cycles result arrays file_scope) next at_ h whole goes = subst (λ (z : Box). BoxStands p c z y) (sym goes) (running_goes cycles result arrays file_scope h.0)
  box_goes low (Done result) next at_ h whole goes =
      waits_go true (Done result) next at_ h.0 h.1.0 goes
      (λ unstarted serving.
      let none : start_of pins ≡ 0 = omega (arith, low, unstarted) in
      let kept = variables_stay_waiting p true x y pins none h.0 step in
      (waits p true x y pins unset none h.0 step, (serving, λ w is. (kept.result ∙ (h.1.1 w is).0, (h.1.1 w is).1))))
  box_goes low Forever next at_ h whole goes = subst (λ (z : Box). BoxStands p c z y) (sym goes) (running_on h.0, refl)
  box_goes low Broken next at_ h whole goes = absurd (whole tt)
