use Rattle.std.proofs.Common.{◌≡◌, ◌+◌, ℕ, List, length, slice_get, ap, ◌∙◌, subst, arith}
use Rattle.std.proofs.lemmas.Option.{slice_get_within, get_or_from_slice_get}
use Rattle.clock_machine.specs.declared.lines.program.Action.{Action}
use Rattle.clock_machine.specs.declared.lines.program.Line.{Line}
use Rattle.clock_machine.specs.Lines.Registers.{HasPushed, LineIsWithin, value_in}
use Rattle.clock_machine.proofs.keeping.ready_one.Goals as goal
use Rattle.clock_machine.proofs.keeping.ready_one.Goals.{else-number-count-via-then-number-count+else-index-time, else-number-count-via-else-number-count}

pub returns-then-index-time-clause-pushes : goal.returns-then-index-time-clause-pushes
returns-then-index-time-clause-pushes c = λ a at le within.
    let r = c.args.registers.now in
    let r2 = c.push.new.self in
    let actions = c.args.work.now.actions in
    let number = c.args.number in
    let lines = c.args.work.now.lines.items in
    let n = length actions.items + number in
    let line_is : c.saturating_add.result ≡ n = omega (arith, c.saturating_add.ensures, c.len-count.ensures, actions.ok.0, actions.small, c.if-number-count.true) in
    let same : c.index-then-index-time.result.now ≡ a = c.index-then-index-time.ensures ∙ get_or_from_slice_get actions.items number a c.index-then-index-time.result.now at in
    let Reads : List Line → ℕ → ℕ → Type 0 = λ ls m back. LineIsWithin r (slice_get ls m) m back → c.read-word.result ≡ value_in r (slice_get ls m) m back in
    let word = subst (λ ls. Reads ls n a.wait) c.deref.ensures.value
    (subst (λ m. Reads c.deref.result.now m a.wait) line_is (subst (λ (x : Action). Reads c.deref.result.now c.saturating_add.result x.wait) same c.read-word.ensures)) within in
    let one : HasPushed r r2 c.deref-then-index-time.result.now number c.read-word.result =
    record { last = c.push.ensures.last; earlier = c.push.ensures.earlier; others = c.push.ensures.others; lines_stay = c.push.ensures.lines; variables = c.push.ensures.variables } in
    subst (λ (ls : List Line). HasPushed r r2 ls number (value_in r (slice_get lines n) n a.wait)) c.deref-then-index-time.ensures.value
    (subst (λ x. HasPushed r r2 c.deref-then-index-time.result.now number x) word one)

pub returns-else-number-count-clause-pushes : goal.returns-else-number-count-clause-pushes
returns-else-number-count-clause-pushes c = λ a at le within.
    let actions = c.args.work.now.actions in
    elim c.else-number-count.branch [
      | else-number-count-via-then-number-count+else-index-time w ↦
          let same : w.index.result.now ≡ a = w.index.ensures ∙ get_or_from_slice_get actions.items c.args.number a w.index.result.now at in
          absurd (omega (arith, w.if-index-time.false, le, ap (λ (x : Action). x.ready) same))
      | else-number-count-via-else-number-count w ↦
          let h = slice_get_within actions.items c.args.number a at in
          absurd (omega (arith, h, w.if-number-count.false, c.len-count.ensures, actions.ok.0))
    ]
