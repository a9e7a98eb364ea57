-- The values that are there go into the chains, one operation after another.
use Rattle.std.proofs.Common.{◌≡◌, ◌≢◌, ℕ, suc, ◌+◌, ◌-◌, ◌%◌, ◌<◌, ◌≤◌, ◌^◌, false, List, [], ◌∷◌, length, get_or, map, slice_get, Some, sym, ap, ◌∙◌, subst, arith}
use Rattle.std.proofs.lemmas.Bool.{cond-true, cond-false}
use Rattle.std.proofs.lemmas.Option.{slice_get-get_or, slice_get-map, slice_get_within, get_or_from_slice_get}
use Rattle.std.specs.Option.{option_map}
use Rattle.ir_core.specs.declared.body.OpKind.{OpKind}
use Rattle.ir_core.specs.declared.body.OpKind.TheVariants as o
use Rattle.ir_core.specs.Timing as timing
use Rattle.ir_core.specs.Bodies.{Shapes}
use Rattle.clock_ir.specs.Flows.{TimedOp, TimedBody, Flow, is_at, latency, given, pushed, chain_behind}
use Rattle.clock_machine.specs.declared.lines.program.Action.{Action}
use Rattle.clock_machine.specs.declared.lines.program.Line.{Line}
use Rattle.clock_machine.specs.declared.lines.program.Work.{Work}
use Rattle.clock_machine.specs.declared.lines.registers.Registers.{Registers}
use Rattle.clock_machine.specs.Lines.Agendas.{phase_at, IsNext}
use Rattle.clock_machine.specs.Lines.Registers.{HasPushed, LineIsWithin, value_in}
use Rattle.clock_machine.specs.Lines.Showing.{HasLines, ShowsChain}
use Rattle.clock_machine.proofs.LinesLemmas.Cycles.{rooms_stay, chain_stays, chain_pushed, made_stays, made_ready}
use Rattle.clock_machine.proofs.LinesLemmas.Phases.{comes, comes_not, not_yet, Walked, walks_on}
use Rattle.clock_machine.specs.Keeping.{IsNextMoment, IsForm}
use Rattle.clock_machine.proofs.Made.{apart, DoneAt}

-- each operation takes a cycle or more, and at most some
takes_kind : (kind : OpKind) (bits : ℕ) → 0 < timing.latency kind bits
takes_kind o.Add bits = omega arith
takes_kind o.Sub bits = omega arith
takes_kind o.Mul bits = omega arith
takes_kind o.Div bits = omega arith
takes_kind o.Rem bits = omega arith
takes_kind o.And bits = omega arith
takes_kind o.Or bits = omega arith
takes_kind o.Xor bits = omega arith
takes_kind o.Shl bits = omega arith
takes_kind o.Shr bits = omega arith
takes_kind o.Eq bits = omega arith
takes_kind o.Ne bits = omega arith
takes_kind o.Lt bits = omega arith
takes_kind o.Le bits = omega arith
takes_kind o.Not bits = omega arith
takes_kind o.Neg bits = omega arith
takes_kind o.Select bits = omega arith
takes_kind o.Widen bits = omega arith
takes_kind o.Narrow bits = omega arith
takes_kind o.Truth bits = omega arith
takes_kind o.Copy bits = omega arith
takes_kind o.Load bits = omega arith
takes_kind o.Store bits = omega arith
takes_kind (o.Fused p) bits = omega arith

takes : (op : TimedOp) → 0 < latency op
takes op = takes_kind op.op.kind op.op.bits

-- a line shows the chain of this cycle, or that of the next one
abbrev pub StillAt : TimedBody → List Line → Registers → Flow → ℕ → Type 0
StillAt b lines r f k = (o : TimedOp) → slice_get b.ops k ≡ Some o → ShowsChain r lines k (f.chain k)

abbrev pub ReadyAt : Shapes → TimedBody → List Line → Registers → Flow → ℕ → Type 0
ReadyAt shapes b lines r f k = (o : TimedOp) → slice_get b.ops k ≡ Some o → ShowsChain r lines k (chain_behind shapes b f k (Some o))

module _ (widths : List ℕ) (b : TimedBody) (w : Work) (r0 : Registers) (form : IsForm widths b w r0) where
  abbrev count : ℕ
  count = length b.ops

  abbrev lines : List Line
  lines = w.lines.items

  abbrev readies : List ℕ
  readies = map (λ (a : Action). a.ready) w.actions.items

  ready_of : (k : ℕ) (o : TimedOp) → slice_get b.ops k ≡ Some o → get_or readies k 0 ≡ o.start + latency o
  ready_of k o is =
      let lt = slice_get_within b.ops k o is in
      let lt2 : k < length w.actions.items = omega (arith, lt, form.work.count) in
      let d : Action = first_action w.actions.items k lt2 in
      let at = slice_get-get_or w.actions.items k d lt2 in
      let a = get_or w.actions.items k d in
      get_or_from_slice_get readies k a.ready 0 (slice_get-map (λ (x : Action). x.ready) w.actions.items k ∙ ap (option_map (λ (x : Action). x.ready)) at)
      ∙ (form.work.actions k o a is at).ready
    where
      first_action : (xs : List Action) (k : ℕ) → k < length xs → Action
      first_action [] k lt = absurd (omega (arith, lt))
      first_action (x ∷ xs) k lt = x

  module _ (shapes : Shapes) (f : Flow) (phase time : ℕ) (moment : IsNextMoment b f phase time) where
    abbrev Still : Registers → ℕ → Type 0
    Still r k = StillAt b lines r f k

    abbrev Ready : Registers → ℕ → Type 0
    Ready r k = ReadyAt shapes b lines r f k

    same_chain : (r : Registers) (k : ℕ) (o : TimedOp) → is_at b.interval (o.start + latency o) (suc f.time) ≡ false → ShowsChain r lines k (f.chain k) → ShowsChain r lines k (chain_behind shapes b f k (Some o))
    same_chain r k o off h = subst (λ c. ShowsChain r lines k c) (sym (cond-false (is_at b.interval (o.start + latency o) (suc f.time)) _ _ off)) h

    rests : (r : Registers) (k : ℕ) → (k < count → phase_at b.interval readies k ≢ phase) → Still r k → Ready r k
    rests r k other h o is =
        let differ = other (slice_get_within b.ops k o is) in
        let off = comes_not b.interval (o.start + latency o) (suc f.time) (λ e. differ (ap (λ t. t % b.interval) (ready_of k o is) ∙ e ∙ sym moment.phase_is)) in
        same_chain r k o off (h o is)

    waits : (r : Registers) (k : ℕ) → ((o : TimedOp) → slice_get b.ops k ≡ Some o → (time < o.start + latency o) × (o.start + latency o < 2 ^ 64)) → Still r k → Ready r k
    waits r k late h o is =
        let late2 = late o is in
        let off = not_yet b.interval (o.start + latency o) (suc f.time) (let z : suc f.time < o.start + latency o = omega (arith, moment.time_is, late2.0, late2.1) in z) in
        same_chain r k o off (h o is)

    -- ---- from one operation of the phase to the next one

    pub begins : (r : Registers) (k : ℕ) → IsNext b.interval readies phase 0 k → ((i : ℕ) → Still r i) → Walked (Ready r) (Still r) k
    begins r k next all = λ i. ((λ less. rests r i (λ lt. next.none_before i (omega arith) less) (all i)), (λ more. all i))

    pub passes : (r : Registers) (number k : ℕ) → IsNext b.interval readies phase (suc number) k → ((o : TimedOp) → slice_get b.ops number ≡ Some o → (time < o.start + latency o) × (o.start + latency o < 2 ^ 64)) → Walked (Ready r) (Still r) number → Walked (Ready r) (Still r) k
    passes r number k next late so_far =
        walks_on (Ready r) (Still r) (Ready r) (Still r) number k so_far next.behind (λ i differ h. h) (λ i differ h. h) (waits r number late)
        (λ i more less. rests r i (λ lt. next.none_before i more less))

    module _ (r : Registers) (number : ℕ) (few : length r.words.items < 2 ^ 63) (rooms : HasLines r lines) (within : number < count) (o0 : TimedOp) (o0_is : slice_get b.ops number ≡ Some o0) where
      abbrev line0 : Line
      line0 = record { first = 0; length = 0 }

      there : (line : Line) × (slice_get lines number ≡ Some line)
      there = (get_or lines number line0, slice_get-get_or lines number _ (omega (arith, within, form.deep.count, form.work.count)))

      below : (line : Line) × (slice_get lines (count + number) ≡ Some line)
      below = (get_or lines (count + number) line0, slice_get-get_or lines (count + number) _ (omega (arith, within, form.deep.count, form.work.count)))

      -- the line of what was made is long enough
      deep_enough : (a : Action) → slice_get w.actions.items number ≡ Some a → a.wait < below.0.length
      deep_enough a at =
          let cover = form.deep.actions number a at in
          let le : a.wait ≤ form.depth = cover.2 in
          let room = (rooms (count + number) below.0 below.1).in_words in
          let long = (form.deep.lines (count + number) below.0 below.1).length in
          omega (arith, le, room, long, form.deep.long, few)

      pub waits_within : (a : Action) → slice_get w.actions.items number ≡ Some a → LineIsWithin r (slice_get lines (count + number)) (count + number) a.wait
      waits_within a at =
          let room = rooms (count + number) below.0 below.1 in
          subst (λ x. LineIsWithin r x (count + number) a.wait) (sym below.1) (record { in_words = room.in_words; head_in_line = room.head_in_line; deep_enough = deep_enough a at })

      module _ (r2 : Registers) (word : ℕ) (p : HasPushed r r2 lines number word) where
        pub rooms_behind : HasLines r2 lines
        rooms_behind = rooms_stay r r2 lines rooms (apart widths b w r0 form r few rooms) number word there p

        pub made_behind : ((k : ℕ) → DoneAt shapes b lines r f k) → (k : ℕ) → DoneAt shapes b lines r2 f k
        made_behind h k o is = made_stays r r2 lines rooms (apart widths b w r0 form r few rooms) number word there p (count + k) b.interval o.start (suc f.time) (pushed (given shapes b f o) (f.under_way k)) (λ e. absurd (omega (arith, e, within))) (h k o is)

        pub does : (a : Action) (k : ℕ) → slice_get w.actions.items number ≡ Some a → word ≡ value_in r (slice_get lines (count + number)) (count + number) a.wait → phase_at b.interval readies number ≡ phase → a.ready ≤ time
            → DoneAt shapes b lines r f number → IsNext b.interval readies phase (suc number) k → Walked (Ready r) (Still r) number → Walked (Ready r2) (Still r2) k
        does a k at word_is same come made next so_far =
            walks_on (Ready r) (Still r) (Ready r2) (Still r2) number k so_far next.behind
            (λ i differ h o is. chain_stays r r2 lines rooms (apart widths b w r0 form r few rooms) number word there p i (chain_behind shapes b f i (Some o)) differ (h o is))
            (λ i differ h o is. chain_stays r r2 lines rooms (apart widths b w r0 form r few rooms) number word there p i (f.chain i) differ (h o is))
            (λ h o is.
            let act = form.work.actions number o a is at in
            let long = takes o in
            let turn : (o.start + latency o) % b.interval ≡ suc f.time % b.interval = ap (λ t. t % b.interval) (sym (ready_of number o is)) ∙ same ∙ moment.phase_is in
            let on = comes b.interval (o.start + latency o) (suc f.time) form.positive turn (let z : o.start + latency o ≤ suc f.time = omega (arith, come, act.ready, moment.time_is) in z) in
            let under = pushed (given shapes b f o) (f.under_way number) in
            let value = made_ready r lines (count + number) b.interval o.start (latency o) (suc f.time) below.0 under form.positive long on below.1 (subst (λ n. n < below.0.length) act.wait (deep_enough a at)) (made o is) in
            let word2 : word ≡ under (latency o - 1) = word_is ∙ ap (λ x. value_in r x (count + number) a.wait) below.1 ∙ ap (value_in r (Some below.0) (count + number)) act.wait ∙ value in
            subst (λ c. ShowsChain r2 lines number c) (sym (cond-true (is_at b.interval (o.start + latency o) (suc f.time)) _ _ on))
            (subst (λ x. ShowsChain r2 lines number (pushed x (f.chain number))) word2 (chain_pushed r r2 lines rooms (apart widths b w r0 form r few rooms) number word there p (f.chain number) (h o is))))
            (λ i more less. rests r2 i (λ lt. next.none_before i more less))
