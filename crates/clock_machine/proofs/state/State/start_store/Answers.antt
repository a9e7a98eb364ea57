use Rattle.std.proofs.Common.{◌≡◌, ℕ, ◌<◌, ◌≤◌, inl, inr, false, List, length, get_or, map, sym, ap, ◌∙◌, subst, arith}
use Rattle.std.proofs.lemmas.Option.{slice_get_within, slice_get-get_or, get_or_from_slice_get}
use Rattle.ir_core.specs.declared.body.OpKind.TheVariants as kinds
use Rattle.flat_programs.specs.Memory.Contents.{dims_in, words_in}
use Rattle.ir_core.specs.Bodies.{effect}
use Rattle.clock_machine.specs.declared.lines.program.Action.{Action}
use Rattle.clock_machine.specs.declared.lines.program.Line.{Line}
use Rattle.clock_machine.specs.Lines.Registers.{word_read}
use Rattle.clock_machine.specs.declared.state.State.{State}
use Rattle.clock_machine.specs.Acts.{IsThere, ReadsAreWithin, ReadIsWithinIf, allows, is_store, op_in}
use Rattle.clock_machine.specs.Starts.{words_of}
use Rattle.clock_machine.proofs.Doing.{args_read, guard_read, stores, stores_none, rests}
use Rattle.clock_machine.proofs.Effects.{store_or}
use Rattle.clock_machine.proofs.Staying.{some_action}
use Rattle.clock_machine.proofs.Turns.{waits, starts_now}
use Rattle.clock_machine.proofs.state.State.start_store.Goals as goal
use Rattle.clock_machine.proofs.state.State.start_store.Goals.{else-number-count-via-then-number-count+else-index-time, else-number-count-via-else-number-count}

pub returns-then-index-time-clause-stores : goal.returns-then-index-time-clause-stores
returns-then-index-time-clause-stores c = λ shapes b f o at gates is turn.
    let w = c.args.work.now in
    let s = c.args.self.now in
    let r = s.registers in
    let number = c.args.number in
    let new = c.store.new.self in
    let lt : number < length w.actions.items = omega (arith, c.if-number-count.true, c.len-count.ensures, w.actions.ok.0) in
    let d = some_action w.actions.items number lt in
    let a = get_or w.actions.items number d in
    let a_is = slice_get-get_or w.actions.items number d lt in
    let x = c.index-then-index-time.result.now in
    let a_same : x ≡ a = c.index-then-index-time.ensures ∙ get_or_from_slice_get w.actions.items number a x a_is in
    let first_same : c.index.result.now ≡ a = c.index.ensures ∙ get_or_from_slice_get w.actions.items number a c.index.result.now a_is in
    let form = at.body.form in
    elim (store_or a.kind) [
      | inl store ↦
          let Stores : List Line → Action → Type 0 = λ ls y. y.kind ≡ kinds.Store → (widths : List ℕ) → length y.args.items ≤ length s.args.items → ReadsAreWithin r ls y.args.items → ReadIsWithinIf r ls y.guard → IsThere y.array (dims_in s.memories)
          → words_in new.memories ≡ (effect (record { widths = widths; dims = dims_in s.memories }) (op_in y) y.kind (allows r ls s.moment.failed y) y.from_bits (map (word_read r ls) y.args.items) (words_of s)).words.memories in
          let there : IsThere a.array (dims_in s.memories) = subst (λ ds. IsThere a.array ds) (sym at.body.dims) (subst (λ m. IsThere m shapes.dims) (sym (form.work.actions number o a is a_is).array) (at.body.whole.arrays number o is)) in
          let made = subst (λ y. Stores w.lines.items y) a_same (subst (λ ls. Stores ls x) c.deref.ensures.value c.store.ensures.stores) store shapes.widths (at.body.room.args number a a_is)
          (args_read shapes b w f r form at.shows number o a is a_is).0 (guard_read shapes b w f r form at.shows number o a is a_is).0 there in
          let on = starts_now shapes b w f s at number o a is a_is (let z : a.start ≤ s.moment.time = omega (arith, c.if-index-time.true, ap (λ (y : Action). y.start) first_same) in z) turn in
          made ∙ ap (λ ds. (effect (record { widths = shapes.widths; dims = ds }) (op_in a) a.kind (allows r w.lines.items s.moment.failed a) a.from_bits (map (word_read r w.lines.items) a.args.items) (words_of s)).words.memories) at.body.dims
          ∙ stores shapes b w f r form at.shows number o a is a_is s.moment.failed gates store on (words_in s.memories)
      | inr other ↦
          let none_ = subst (λ (y : Action). is_store y.kind ≡ false → new ≡ s) a_same c.store.ensures.rests other in
          ap (λ (y : State). words_in y.memories) none_ ∙ sym (stores_none shapes b w f r form at.shows number o a is a_is other (words_in s.memories))
    ]

pub returns-else-number-count-clause-stores : goal.returns-else-number-count-clause-stores
returns-else-number-count-clause-stores c = λ shapes b f o at gates is turn.
    let w = c.args.work.now in
    let s = c.args.self.now in
    let number = c.args.number in
    let within = slice_get_within b.ops number o is in
    let lt : number < length w.actions.items = omega (arith, within, at.body.form.work.count) in
    let d = some_action w.actions.items number lt in
    let a = get_or w.actions.items number d in
    let a_is = slice_get-get_or w.actions.items number d lt in
    elim c.else-number-count.branch [
      | else-number-count-via-then-number-count+else-index-time u ↦
          let same : u.index.result.now ≡ a = u.index.ensures ∙ get_or_from_slice_get w.actions.items number a u.index.result.now a_is in
          sym (rests shapes b f o (words_in s.memories) (waits shapes b w f s at number o a is a_is (omega (arith, u.if-index-time.false, ap (λ (x : Action). x.start) same))))
      | else-number-count-via-else-number-count u ↦ absurd (omega (arith, lt, u.if-number-count.false, c.len-count.ensures, w.actions.ok.0))
    ]
