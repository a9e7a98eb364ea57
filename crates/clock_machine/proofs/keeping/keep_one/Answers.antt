use Rattle.std.proofs.Common.{◌≡◌, ◌+◌, List, length, get_or, ap, ◌∙◌, subst, arith}
use Rattle.std.proofs.lemmas.Option.{slice_get_within, get_or_from_slice_get}
use Rattle.clock_machine.specs.declared.lines.program.Action.{Action}
use Rattle.clock_machine.specs.declared.lines.program.Line.{Line}
use Rattle.clock_machine.specs.Lines.Registers.{HasPushed}
use Rattle.clock_machine.proofs.keeping.keep_one.Goals as goal
use Rattle.clock_machine.proofs.keeping.keep_one.Goals.{else-number-count-via-then-number-count+else-index-time, else-number-count-via-else-number-count}

pub returns-then-index-time-clause-pushes : goal.returns-then-index-time-clause-pushes
returns-then-index-time-clause-pushes c = λ a at le.
    let r = c.args.registers.now in
    let r2 = c.push.new.self in
    let actions = c.args.work.now.actions in
    let line_is : c.saturating_add-line.result ≡ length actions.items + c.args.number = omega (arith, c.saturating_add-line.ensures, c.len-count.ensures, actions.ok.0, actions.small, c.if-number-count.true) in
    let one : HasPushed r r2 c.deref.result.now c.saturating_add-line.result c.word_at.result =
    record { last = c.push.ensures.last; earlier = c.push.ensures.earlier; others = c.push.ensures.others; lines_stay = c.push.ensures.lines; variables = c.push.ensures.variables } in
    subst (λ (ls : List Line). HasPushed r r2 ls (length actions.items + c.args.number) (get_or c.args.fresh.now c.args.number 0)) c.deref.ensures.value
    (subst (λ m. HasPushed r r2 c.deref.result.now m (get_or c.args.fresh.now c.args.number 0)) line_is (subst (λ x. HasPushed r r2 c.deref.result.now c.saturating_add-line.result x) c.word_at.ensures one))

pub returns-else-number-count-clause-pushes : goal.returns-else-number-count-clause-pushes
returns-else-number-count-clause-pushes c = λ a at le.
    let actions = c.args.work.now.actions in
    elim c.else-number-count.branch [
      | else-number-count-via-then-number-count+else-index-time w ↦
          let same : w.index.result.now ≡ a = w.index.ensures ∙ get_or_from_slice_get actions.items c.args.number a w.index.result.now at in
          absurd (omega (arith, w.if-index-time.false, le, ap (λ (x : Action). x.start) same))
      | else-number-count-via-else-number-count w ↦
          let h = slice_get_within actions.items c.args.number a at in
          absurd (omega (arith, h, w.if-number-count.false, c.len-count.ensures, actions.ok.0))
    ]
