use Rattle.std.proofs.Common.{◌≡◌, ℕ, List, Some, None, get_or, sym, ap, ◌∙◌, subst, arith}
use Rattle.std.proofs.lemmas.Option.{slice_get_within, get_or_from_slice_get}
use Rattle.clock_machine.specs.declared.lines.program.Action.{Action}
use Rattle.clock_machine.specs.declared.lines.program.Line.{Line}
use Rattle.clock_machine.specs.Lines.Registers.{HasPushed, held}
use Rattle.clock_machine.proofs.keeping.begin_one.Goals as goal

same_some : (x y : ℕ) → Some x ≡ Some y → x ≡ y
same_some x y e = cc

no_some : (x : ℕ) → Some x ≡ None → ⊥
no_some x e = cc

pub returns-in-Some-clause-pushes : goal.returns-in-Some-clause-pushes
returns-in-Some-clause-pushes c = λ a v at entry.
    let r = c.args.registers.now in
    let r2 = c.push.new.self in
    let actions = c.args.work.now.actions.items in
    let number = c.args.number in
    let variables = r.variables.items in
    let x = c.index.result.now in
    let same : x ≡ a = c.index.ensures ∙ get_or_from_slice_get actions number a x at in
    let v_is = same_some c.in-Some.variable v (sym c.in-Some.is ∙ ap (λ (y : Action). y.entry) same ∙ entry) in
    let word_is = c.word_at-word.ensures ∙ ap (λ xs. get_or xs c.in-Some.variable 0) c.deref.ensures.value ∙ ap (held variables) v_is in
    let one : HasPushed r r2 c.deref-in-Some.result.now number c.word_at-word.result =
    record { last = c.push.ensures.last; earlier = c.push.ensures.earlier; others = c.push.ensures.others; lines_stay = c.push.ensures.lines; variables = c.push.ensures.variables } in
    subst (λ (ls : List Line). HasPushed r r2 ls number (held variables v)) c.deref-in-Some.ensures.value (subst (λ w. HasPushed r r2 c.deref-in-Some.result.now number w) word_is one)

pub returns-in-None-clause-pushes : goal.returns-in-None-clause-pushes
returns-in-None-clause-pushes c = λ a v at entry.
    let x = c.index.result.now in
    let same : x ≡ a = c.index.ensures ∙ get_or_from_slice_get c.args.work.now.actions.items c.args.number a x at in
    absurd (no_some v (sym entry ∙ ap (λ (y : Action). y.entry) (sym same) ∙ c.in-None.is))

pub returns-else-number-count-clause-pushes : goal.returns-else-number-count-clause-pushes
returns-else-number-count-clause-pushes c = λ a v at entry.
    let actions = c.args.work.now.actions in
    let within = slice_get_within actions.items c.args.number a at in
    absurd (omega (arith, within, c.if-number-count.false, c.len-count.ensures, actions.ok.0))
