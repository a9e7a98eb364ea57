-- The values that operations give go into their lines, one operation after another.
use Rattle.std.proofs.Common.{◌≡◌, ◌≢◌, ℕ, suc, ◌+◌, ◌*◌, ◌%◌, ◌<◌, ◌≤◌, ◌^◌, inl, inr, List, [], ◌∷◌, length, get_or, map, slice_get, Some, sym, ap, ◌∙◌, subst, arith, mul-le-mul_right, suc-mul}
use Rattle.std.proofs.lemmas.Bool.{cases_lt}
use Rattle.std.proofs.lemmas.Option.{slice_get-get_or, slice_get-map, slice_get_within, get_or_from_slice_get}
use Rattle.std.specs.Option.{option_map}
use Rattle.ir_core.specs.Bodies.{Shapes}
use Rattle.clock_ir.specs.Flows.{TimedOp, TimedBody, Flow, given, pushed}
use Rattle.clock_machine.specs.declared.lines.program.Action.{Action}
use Rattle.clock_machine.specs.declared.lines.program.Line.{Line}
use Rattle.clock_machine.specs.declared.lines.program.Work.{Work}
use Rattle.clock_machine.specs.declared.lines.registers.Registers.{Registers}
use Rattle.clock_machine.specs.Lines.Agendas.{phase_at, IsNext}
use Rattle.clock_machine.specs.Lines.Registers.{AreApart, HasPushed}
use Rattle.clock_machine.specs.Lines.Showing.{HasLines, ShowsChain, ShowsMade}
use Rattle.clock_machine.proofs.LinesLemmas.Cycles.{is_at_true, rooms_stay, chain_stays, made_stays, made_pushed, made_rests}
use Rattle.clock_machine.proofs.LinesLemmas.Phases.{comes, comes_not, not_yet, Walked, walks_on}
use Rattle.clock_machine.specs.Keeping.{IsMoment, HasGiven, IsForm}

-- an operation shows what it gave before this cycle, or this cycle included
abbrev pub OpenAt : TimedBody → List Line → Registers → Flow → ℕ → Type 0
OpenAt b lines r f k = (o : TimedOp) → slice_get b.ops k ≡ Some o → ShowsMade r lines (length b.ops + k) b.interval o.start f.time (f.under_way k)

abbrev pub DoneAt : Shapes → TimedBody → List Line → Registers → Flow → ℕ → Type 0
DoneAt shapes b lines r f k = (o : TimedOp) → slice_get b.ops k ≡ Some o → ShowsMade r lines (length b.ops + k) b.interval o.start (suc f.time) (pushed (given shapes b f o) (f.under_way k))

module _ (widths : List ℕ) (b : TimedBody) (w : Work) (r0 : Registers) (form : IsForm widths b w r0) where
  abbrev count : ℕ
  count = length b.ops

  abbrev lines : List Line
  lines = w.lines.items

  abbrev starts : List ℕ
  starts = map (λ (a : Action). a.start) w.actions.items

  -- no word is in two lines
  before : (r : Registers) → length r.words.items < 2 ^ 63 → HasLines r lines → (k n : ℕ) (line other : Line) → n < k → slice_get lines n ≡ Some line → slice_get lines k ≡ Some other → line.first + line.length ≤ other.first
  before r few rooms k n line other lt is other_is =
      let one = form.deep.lines n line is in
      let two = form.deep.lines k other other_is in
      let room1 = (rooms n line is).in_words in
      let room2 = (rooms k other other_is).in_words in
      let next = suc-mul n form.size in
      let behind : suc n * form.size ≤ k * form.size = mul-le-mul_right form.size (omega (arith, lt)) in
      omega (arith, one.first, one.length, two.first, two.length, room1, room2, next, behind, few)

  pub apart : (r : Registers) → length r.words.items < 2 ^ 63 → HasLines r lines → (k n : ℕ) (line other : Line) → k ≢ n → slice_get lines n ≡ Some line → slice_get lines k ≡ Some other → AreApart line other
  apart r few rooms k n line other differ is other_is = elim (cases_lt n k) [
    | inl less ↦ inl (before r few rooms k n line other less is other_is)
    | inr more ↦ inr (before r few rooms n k other line (let z : k < n = omega (arith, more, differ) in z) other_is is)
  ]

  -- an operation starts at the time of its action
  pub start_of : (k : ℕ) (o : TimedOp) → slice_get b.ops k ≡ Some o → get_or starts k 0 ≡ o.start
  start_of k o is =
      let lt = slice_get_within b.ops k o is in
      let lt2 : k < length w.actions.items = omega (arith, lt, form.work.count) in
      let d : Action = first_action w.actions.items k lt2 in
      let at = slice_get-get_or w.actions.items k d lt2 in
      let a = get_or w.actions.items k d in
      get_or_from_slice_get starts k a.start 0 (slice_get-map (λ (x : Action). x.start) w.actions.items k ∙ ap (option_map (λ (x : Action). x.start)) at)
      ∙ (form.work.actions k o a is at).start
    where
      first_action : (xs : List Action) (k : ℕ) → k < length xs → Action
      first_action [] k lt = absurd (omega (arith, lt))
      first_action (x ∷ xs) k lt = x

  module _ (shapes : Shapes) (f : Flow) (phase time : ℕ) (moment : IsMoment b f phase time) where
    abbrev Open : Registers → ℕ → Type 0
    Open r k = OpenAt b lines r f k

    abbrev Done : Registers → ℕ → Type 0
    Done r k = DoneAt shapes b lines r f k

    -- an operation of another phase
    rests : (r : Registers) (k : ℕ) → (k < count → phase_at b.interval starts k ≢ phase) → Open r k → Done r k
    rests r k other h o is =
        let differ = other (slice_get_within b.ops k o is) in
        let off = comes_not b.interval o.start f.time (λ e. differ (ap (λ t. t % b.interval) (start_of k o is) ∙ e ∙ sym moment.phase_is)) in
        made_rests r lines (count + k) b.interval o.start f.time (given shapes b f o) (f.under_way k) form.positive off (h o is)

    -- one that has not come to its first iteration
    waits : (r : Registers) (k : ℕ) → ((o : TimedOp) → slice_get b.ops k ≡ Some o → time < o.start) → Open r k → Done r k
    waits r k late h o is =
        let early = form.early k o is in
        let late2 = late o is in
        let off = not_yet b.interval o.start f.time (let z : f.time < o.start = omega (arith, moment.time_is, late2, early) in z) in
        made_rests r lines (count + k) b.interval o.start f.time (given shapes b f o) (f.under_way k) form.positive off (h o is)

    -- ---- from one operation of the phase to the next one

    pub begins : (r : Registers) (k : ℕ) → IsNext b.interval starts phase 0 k → ((i : ℕ) → Open r i) → Walked (Done r) (Open r) k
    begins r k next all = λ i. ((λ less. rests r i (λ lt. next.none_before i (omega arith) less) (all i)), (λ more. all i))

    pub passes : (r : Registers) (number k : ℕ) → IsNext b.interval starts phase (suc number) k → ((o : TimedOp) → slice_get b.ops number ≡ Some o → time < o.start) → Walked (Done r) (Open r) number → Walked (Done r) (Open r) k
    passes r number k next late so_far =
        walks_on (Done r) (Open r) (Done r) (Open r) number k so_far next.behind (λ i differ h. h) (λ i differ h. h) (waits r number late)
        (λ i more less. rests r i (λ lt. next.none_before i more less))

    module _ (r r2 : Registers) (number word : ℕ) (few : length r.words.items < 2 ^ 63) (rooms : HasLines r lines) (p : HasPushed r r2 lines (count + number) word) (within : number < count) where
      there : (line : Line) × (slice_get lines (count + number) ≡ Some line)
      there = (get_or lines (count + number) (record { first = 0; length = 0 }), slice_get-get_or lines (count + number) _ (omega (arith, within, form.deep.count, form.work.count)))

      pub rooms_behind : HasLines r2 lines
      rooms_behind = rooms_stay r r2 lines rooms (apart r few rooms) (count + number) word there p

      pub chains_behind : (k : ℕ) → k < count → (chain : ℕ → ℕ) → ShowsChain r lines k chain → ShowsChain r2 lines k chain
      chains_behind k lt chain h = chain_stays r r2 lines rooms (apart r few rooms) (count + number) word there p k chain (λ e. absurd (omega (arith, e, lt))) h

      pub does : (fresh : List ℕ) (k : ℕ) → HasGiven shapes b f fresh → word ≡ get_or fresh number 0 → phase_at b.interval starts number ≡ phase → ((o : TimedOp) → slice_get b.ops number ≡ Some o → o.start ≤ time)
          → IsNext b.interval starts phase (suc number) k → Walked (Done r) (Open r) number → Walked (Done r2) (Open r2) k
      does fresh k has word_is same come next so_far =
          walks_on (Done r) (Open r) (Done r2) (Open r2) number k so_far next.behind
          (λ i differ h o is. made_stays r r2 lines rooms (apart r few rooms) (count + number) word there p (count + i) b.interval o.start (suc f.time) (pushed (given shapes b f o) (f.under_way i)) (λ e. differ (omega (arith, e))) (h o is))
          (λ i differ h o is. made_stays r r2 lines rooms (apart r few rooms) (count + number) word there p (count + i) b.interval o.start f.time (f.under_way i) (λ e. differ (omega (arith, e))) (h o is))
          (λ h o is.
          let le = come o is in
          let turn : o.start % b.interval ≡ f.time % b.interval = ap (λ t. t % b.interval) (sym (start_of number o is)) ∙ same ∙ moment.phase_is in
          let on = comes b.interval o.start f.time form.positive turn (let z : o.start ≤ f.time = omega (arith, le, moment.time_is) in z) in
          let at = is_at_true b.interval o.start f.time on in
          subst (λ x. ShowsMade r2 lines (count + number) b.interval o.start (suc f.time) (pushed x (f.under_way number))) (word_is ∙ has number o is on)
          (made_pushed r r2 lines rooms (apart r few rooms) (count + number) word there p b.interval o.start f.time at.0 (f.under_way number) form.positive at.1 (h o is)))
          (λ i more less. rests r2 i (λ lt. next.none_before i more less))
