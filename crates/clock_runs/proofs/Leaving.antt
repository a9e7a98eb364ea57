-- When a loop is left, and with what.
use Rattle.std.proofs.Common.{◌≡◌, ◌≢◌, ℕ, suc, ◌+◌, ◌*◌, ◌<◌, ◌≤◌, ◌==◌, List, [], ◌∷◌, false, None, inl, inr, refl, sym, ap, ap₂, ◌∙◌, subst, arith}
use Rattle.std.proofs.lemmas.Bool.{false_from_ne_true, false≢true, cases_Bool, cases_lt, cond-true, cond-false, eqb-true}
use Rattle.hls_base.specs.declared.number.OpId.{OpId}
use Rattle.ir_core.specs.declared.body.Operand.{Operand}
use Rattle.ir_core.specs.declared.body.Out.{Out}
use Rattle.ir_core.specs.declared.body.Source.{Source}
use Rattle.ir_core.specs.declared.body.Source.TheVariants as source
use Rattle.dep_graph.specs.Offsets.{maker}
use Rattle.dep_graph.specs.Dependences.{maker_by}
use Rattle.ir_core.specs.Bodies.{Words, with_word}
use Rattle.clock_ir.specs.Flows.{Flow, known, place, held, operand_at, is_at, runs_at, tick, taken}
use Rattle.clock_ir.specs.ClockRuns.{TimedNode, Phase, inside, enter, later, loop_step}
use Rattle.clock_runs.proofs.Effects.{Memories, storing, stores_storing}
use Rattle.clock_runs.proofs.Settings.{Setting, op_at, count_of, sort_at, moment, passes, Begins, flow, IsCarried, Each, AreOuts, IsTimely, KeepsOrder}
use Rattle.clock_runs.proofs.Numbers.{turn, is_at_true, is_at_sure, later_turn, earlier_turn}
use Rattle.clock_runs.proofs.Chains.{flow-time, flow-entry}
use Rattle.clock_runs.proofs.Reading.{ready_is, carried_place}
use Rattle.clock_runs.proofs.Iterations.{after_none, begins_less, variable_fixed}
use Rattle.clock_runs.proofs.Same.{Same, carried_same, open_begins, begins_open}
use Rattle.clock_runs.proofs.Memories.{same_word, same_all}

pub flow_tick : (s : Setting) (time : ℕ) → flow s (suc time) ≡ tick s.shapes s.body (flow s time)
unfolding flow
flow_tick s time = refl

-- ---- what the variables take

taken_other : (read : Operand → ℕ) (xs : List Out) (f : ℕ → ℕ) (v : ℕ) → Each (λ (y : Out). y.variable.0 ≢ v) xs → taken read xs f v ≡ f v
taken_other read [] f v h = refl
taken_other read (x ∷ xs) f v h =
    taken_other read xs (with_word f x.variable.0 (read x.value)) v h.1
    ∙ elim (cases_Bool (x.variable.0 == v)) [
      | inl on ↦ absurd (h.0 (eqb-true x.variable.0 v on))
      | inr off ↦ cond-false _ _ _ off
    ]

taken_is : (read : Operand → ℕ) (xs : List Out) (f : ℕ → ℕ) (v w : ℕ) → AreOuts xs → Each (λ (x : Out). x.variable.0 ≡ v → read x.value ≡ w) xs → (maker xs v ≡ None → f v ≡ w) → taken read xs f v ≡ w
taken_is read [] f v w h each none = none refl
taken_is read (x ∷ xs) f v w h each none =
    elim (cases_Bool (x.variable.0 == v)) [
      | inl on ↦
          let same : x.variable.0 ≡ v = eqb-true x.variable.0 v on in
          taken_other read xs (with_word f x.variable.0 (read x.value)) v (subst (λ n. Each (λ (y : Out). y.variable.0 ≢ n) xs) same h.1)
          ∙ cond-true _ _ _ on ∙ each.0 same
      | inr off ↦
          taken_is read xs (with_word f x.variable.0 (read x.value)) v w h.2 each.1 (λ e. cond-false _ _ _ off ∙ none (cond-false _ _ _ off ∙ e))
    ]

-- an out whose value is there when a loop is left at this time
abbrev pub IsTaken : Setting → ℕ → Out → Type 0
IsTaken s exit x = (op : OpId) × ((x.value.value ≡ source.Result op) × IsCarried s exit x.variable.0 op)

pub record CanExit (s : Setting) (exit : ℕ) : Type 0 where
  pub carries : s.carried ≡ s.body.outs
  pub known : known s.body ≤ exit
  pub stored : (k : ℕ) → k < count_of s → sort_at s k ≡ storing → (op_at s k).start + 1 ≤ exit + s.body.interval
  pub outs : Each (IsTaken s exit) s.body.outs
  pub direct : Each (λ (x : Out). x.value.distance ≡ 0) s.body.outs

module _ (s : Setting) (w : IsTimely s) (horizon : ℕ) (order : KeepsOrder s horizon) (nodes : List TimedNode) (node exit next : ℕ) (can : CanExit s exit) where
  all_same : (b : ℕ) → b ≤ horizon → Same s b
  all_same b within = same_all s w horizon order b within

  abbrev step_at : ℕ → Phase
  step_at time = loop_step s.shapes nodes node s.body exit next (flow s time)

  -- not at the exit of an iteration behind which the next one begins
  pub stays : (time : ℕ) → time ≤ horizon → ((i : ℕ) → time ≡ i * s.body.interval + exit → Begins s (suc i)) → step_at time ≡ inside node (flow s (suc time))
  stays time within h =
      let f = flow s time in
      let now : f.time ≡ time = flow-time s time in
      let on_ : inside node (tick s.shapes s.body f) ≡ inside node (flow s (suc time)) = ap (inside node) (sym (flow_tick s time)) in
      elim (cases_Bool (is_at s.body.interval exit f.time)) [
        | inr off ↦ cond-false _ _ _ off ∙ on_
        | inl on ↦
            let i = turn s.body.interval exit f.time in
            let at : time ≡ i * s.body.interval + exit = sym now ∙ is_at_true s.body.interval exit f.time on in
            let wide = begins_open s w time (all_same time within) time i exit (omega arith) at can.known (h i at) in
            cond-true _ _ _ on ∙ cond-true _ _ _ wide ∙ on_
      ]

  module _ (n : ℕ) (begins : Begins s n) (fails : passes s n ≡ false) (within : n * s.body.interval + exit < horizon) where
    abbrev at_last : ℕ
    at_last = n * s.body.interval + exit

    pub stays_before : (time : ℕ) → time < at_last → step_at time ≡ inside node (flow s (suc time))
    stays_before time lt = stays time (omega arith) (λ i at.
        let less : i * s.body.interval < n * s.body.interval = omega arith in
        begins_less s n (suc i) (earlier_turn s.body.interval i n less) begins)

    value_then : (value : Source) (distance v : ℕ) (op : OpId) → value ≡ source.Result op → distance ≡ 0 → IsCarried s exit v op
        → held s.body (flow s at_last) exit (record { value = value; distance = distance + 1 }) (maker_by s.body.outs (distance + 1) value) ≡ (moment s n).variables v
    value_then value distance v op is direct c =
        ap₂ (λ y d. held s.body (flow s at_last) exit (record { value = y; distance = d + 1 }) (maker_by s.body.outs (d + 1) y)) is direct
        ∙ ap (λ a. (flow s at_last).chain op.0 (place s.body.interval a exit 1)) (ready_is s op c.within)
        ∙ carried_place s w.interval n exit v op c at_last refl
        ∙ carried_same s w at_last (all_same at_last (omega arith)) n exit v op begins (omega arith) c

    outs_then : (xs : List Out) (v : ℕ) → Each (IsTaken s exit) xs → Each (λ (x : Out). x.value.distance ≡ 0) xs → Each (λ (x : Out). x.variable.0 ≡ v → operand_at s.body (flow s at_last) exit (later x.value) ≡ (moment s n).variables v) xs
    outs_then [] v h d = tt
    outs_then (x ∷ xs) v h d = ((λ e. value_then x.value.value x.value.distance x.variable.0 h.0.0 h.0.1.0 d.0 h.0.1.1 ∙ ap (moment s n).variables e), outs_then xs v h.1 d.1)

    variables_then : (v : ℕ) → taken (λ x. operand_at s.body (flow s at_last) exit (later x)) s.body.outs (flow s at_last).entry v ≡ (moment s n).variables v
    variables_then v =
        taken_is (λ x. operand_at s.body (flow s at_last) exit (later x)) s.body.outs (flow s at_last).entry v ((moment s n).variables v) (subst AreOuts can.carries w.outs) (outs_then s.body.outs v can.outs can.direct)
        (λ e. ap (λ (f : ℕ → ℕ). f v) (flow-entry s at_last) ∙ sym (variable_fixed s w.outs v (ap (λ xs. maker xs v) can.carries ∙ e) n))

    memories_then : (memory address : ℕ) → (tick s.shapes s.body (flow s at_last)).memories memory address ≡ (moment s n).memories memory address
    memories_then memory address =
        ap (λ (f : Flow). f.memories memory address) (sym (flow_tick s at_last))
        ∙ same_word s w (suc at_last) (all_same (suc at_last) (omega arith)) horizon (omega arith) order n 0 memory address (omega arith)
        (λ p q lt h. elim h [
          | inl before ↦ (begins_less s n p (omega arith) begins, lt, inr (begins p before))
          | inr e ↦ absurd (let z = e.1 in omega arith)
        ])
        (λ p q r st h. elim h [
          | inl before ↦
              let gap = can.stored q r.1 (stores_storing s.shapes (op_at s q).op (sort_at s q) _ _ memory address st) in
              let turns : suc p * s.body.interval ≤ n * s.body.interval = later_turn s.body.interval (suc p) n before in
              omega arith
          | inr e ↦ absurd (let z = e.1 in omega arith)
        ])
        (λ p q r st more lt. elim (cases_lt p n) [
          | inl before ↦ inl before
          | inr ge ↦ absurd (false≢true (sym fails ∙ more n (omega arith)))
        ])
        ∙ ap (λ (f : Memories). f memory address) (after_none s (moment s n))

    abbrev words_then : Words
    words_then = record { variables = taken (λ x. operand_at s.body (flow s at_last) exit (later x)) s.body.outs (flow s at_last).entry; memories = (tick s.shapes s.body (flow s at_last)).memories }

    words_same : words_then ≡ moment s n
    words_same = λ i. record { variables = λ v. variables_then v i; memories = λ memory address. memories_then memory address i }

    -- where the first iteration that does not run is at its exit
    pub leaves : step_at at_last ≡ enter nodes next (moment s n)
    leaves =
        let f = flow s at_last in
        let now : f.time ≡ n * s.body.interval + exit = flow-time s at_last in
        let shut : runs_at s.body f exit ≡ false = false_from_ne_true _ (λ on.
        let more = open_begins s w at_last (all_same at_last (omega arith)) at_last n exit (omega arith) refl can.known on in
        false≢true (sym fails ∙ more n (omega arith))) in
        cond-true _ _ _ (is_at_sure s.body.interval w.interval n exit f.time now)
        ∙ cond-false _ _ _ shut
        ∙ ap (enter nodes next) words_same
