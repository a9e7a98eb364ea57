use Rattle.std.proofs.Common.{◌≡◌, ◌<◌, ◌≤◌, true, false, List, length, get_or, set, sym, ap, ◌∙◌, subst, arith}
use Rattle.std.proofs.Math.ListN.{length-set}
use Rattle.std.proofs.lemmas.List.{get_or-set_same, get_or-set_other}
use Rattle.std.proofs.lemmas.Option.{slice_get_within, slice_get-get_or, get_or_from_slice_get}
use Rattle.flat_programs.specs.Memory.Contents.{dims_in, words_in}
use Rattle.ir_core.specs.Bodies.{Performed}
use Rattle.clock_ir.specs.Flows.{performed}
use Rattle.clock_machine.specs.declared.lines.program.Action.{Action}
use Rattle.clock_machine.specs.declared.lines.program.Line.{Line}
use Rattle.clock_machine.specs.declared.state.State.{State}
use Rattle.clock_machine.specs.Acts.{ReadsAreWithin, ReadIsWithinIf, guard_holds}
use Rattle.clock_machine.specs.Starting.{value_of}
use Rattle.clock_machine.proofs.Doing.{args_read, guard_read, effect_is, does_by}
use Rattle.clock_machine.proofs.Staying.{some_action}
use Rattle.clock_machine.proofs.Turns.{waits}
use Rattle.clock_machine.proofs.state.State.start_value.Goals as goal
use Rattle.clock_machine.proofs.state.State.start_value.Goals.{else-number-count-via-then-number-count+else-index-time, else-number-count-via-else-number-count}

clash : true ≡ false → ⊥
clash e = cc

pub returns-then-index-time : goal.returns-then-index-time
returns-then-index-time c =
    let s = c.args.self.now in
    let v = c.value-word.new.self in
    let number = c.args.number in
    let word = c.value-word.result in
    let same = c.value-word.ensures.same in
    let fresh = c.set_fresh.ensures.fresh ∙ ap (λ (x : State). set x.fresh.items number word) same in
    let after = c.set_fresh.ensures.same in record {
      given = λ shapes b f at memories o is on.
          let w = c.args.work.now in
          let r = s.registers in
          let lt : number < length w.actions.items = omega (arith, c.if-number-count.true, c.len-count.ensures, w.actions.ok.0) in
          let d = some_action w.actions.items number lt in
          let a = get_or w.actions.items number d in
          let a_is = slice_get-get_or w.actions.items number d lt in
          let x = c.index-then-index-time.result.now in
          let a_same : x ≡ a = c.index-then-index-time.ensures ∙ get_or_from_slice_get w.actions.items number a x a_is in
          let Gives : List Line → Action → Type 0 = λ ls y. length y.args.items ≤ length s.args.items → ReadsAreWithin r ls y.args.items → ReadIsWithinIf r ls y.guard
          → word ≡ value_of (record { widths = shapes.widths; dims = dims_in s.memories }) r ls y (words_in s.memories) in
          let form = at.body.form in
          let gives = subst (λ y. Gives w.lines.items y) a_same (subst (λ ls. Gives ls x) c.deref.ensures.value (c.value-word.ensures.gives shapes.widths))
          (at.body.room.args number a a_is) (args_read shapes b w f r form at.shows number o a is a_is).0 (guard_read shapes b w f r form at.shows number o a is a_is).0 in
          let room : number < length s.fresh.items = omega (arith, lt, at.body.room.given) in
          ap (λ xs. get_or xs number 0) fresh ∙ get_or-set_same s.fresh.items number word 0 room ∙ gives
          ∙ ap (λ ds. value_of (record { widths = shapes.widths; dims = ds }) r w.lines.items a (words_in s.memories)) at.body.dims
          ∙ ap (λ (p : Performed). p.result) (effect_is shapes b w f r form at.shows number o a is a_is (guard_holds r w.lines.items a.guard) (words_in s.memories))
          ∙ ap (λ g. (does_by shapes b w f r form at.shows number o a is a_is g (words_in s.memories)).result) (guard_read shapes b w f r form at.shows number o a is a_is).1
          ∙ ap (λ m. (performed shapes b f o m).result) memories;
      others = λ k differ. ap (λ xs. get_or xs k 0) fresh ∙ get_or-set_other s.fresh.items number k word 0 differ;
      same = after ∙ ap (λ (x : State). record x { fresh = c.set_fresh.new.self.fresh }) same ∙ ap (λ xs. record s { args = xs; fresh = c.set_fresh.new.self.fresh }) (sym (ap (λ (x : State). x.args) after));
      args = ap (λ (x : State). length x.args.items) after ∙ c.value-word.ensures.args;
      fresh = ap length fresh ∙ length-set s.fresh.items number word;
    }

pub returns-else-number-count-clause-given : goal.returns-else-number-count-clause-given
returns-else-number-count-clause-given c = λ shapes b f at memories o is on.
    let w = c.args.work.now in
    let s = c.args.self.now in
    let number = c.args.number in
    let within = slice_get_within b.ops number o is in
    let lt : number < length w.actions.items = omega (arith, within, at.body.form.work.count) in
    let d = some_action w.actions.items number lt in
    let a = get_or w.actions.items number d in
    let a_is = slice_get-get_or w.actions.items number d lt in
    elim c.else-number-count.branch [
      | else-number-count-via-then-number-count+else-index-time u ↦
          let same : u.index.result.now ≡ a = u.index.ensures ∙ get_or_from_slice_get w.actions.items number a u.index.result.now a_is in
          absurd (clash (sym on ∙ waits shapes b w f s at number o a is a_is (omega (arith, u.if-index-time.false, ap (λ (x : Action). x.start) same))))
      | else-number-count-via-else-number-count u ↦ absurd (omega (arith, lt, u.if-number-count.false, c.len-count.ensures, w.actions.ok.0))
    ]
