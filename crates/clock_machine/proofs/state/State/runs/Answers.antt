use Rattle.std.proofs.Common.{◌≡◌, Bool, true, false, ◌&&◌, List, refl, sym, ap, ◌∙◌, subst}
use Rattle.clock_ir.specs.Flows.{known, holds_at}
use Rattle.clock_machine.specs.declared.lines.program.Line.{Line}
use Rattle.clock_machine.specs.Lines.Reads.{EachIf, IsCovered}
use Rattle.clock_machine.specs.Acts.{ReadIsWithinIf, guard_holds}
use Rattle.clock_machine.proofs.Doing.{reads_if}
use Rattle.clock_machine.proofs.Testing.{one_before}
use Rattle.clock_machine.proofs.state.State.runs.Goals as goal

both : (g e h : Bool) → g ≡ e → h ≡ true → e ≡ (g && h)
both true e h one two = sym one ∙ sym two
both false e h one two = sym one

neither : (g h : Bool) → h ≡ false → false ≡ (g && h)
neither true h e = sym e
neither false h e = refl

pub returns-then-holds : goal.returns-then-holds
returns-then-holds c = λ shapes b f at gates.
    let w = c.args.work.now in
    let s = c.args.self.now in
    let form = at.body.form in
    let test_is = form.work.test in
    let Holds : List Line → Type 0 = λ ls. ReadIsWithinIf s.registers ls w.pace.test → c.holds-holds.result ≡ guard_holds s.registers ls w.pace.test in
    let reads = reads_if shapes b w f s.registers form at.shows (known b) b.test (subst (EachIf (IsCovered form.depth)) test_is form.deep.test) in
    let holds = subst Holds c.deref.ensures.value c.holds-holds.ensures (subst (ReadIsWithinIf s.registers w.lines.items) (sym test_is) reads.0) ∙ ap (guard_holds s.registers w.lines.items) test_is ∙ reads.1 in
    both (f.gates 0) _ (holds_at b f (known b) b.test) (one_before f s.moment.failed gates) (sym holds ∙ c.if-holds.true)

pub returns-else-holds : goal.returns-else-holds
returns-else-holds c = λ shapes b f at gates.
    let w = c.args.work.now in
    let s = c.args.self.now in
    let form = at.body.form in
    let test_is = form.work.test in
    let Holds : List Line → Type 0 = λ ls. ReadIsWithinIf s.registers ls w.pace.test → c.holds-holds.result ≡ guard_holds s.registers ls w.pace.test in
    let reads = reads_if shapes b w f s.registers form at.shows (known b) b.test (subst (EachIf (IsCovered form.depth)) test_is form.deep.test) in
    let holds = subst Holds c.deref.ensures.value c.holds-holds.ensures (subst (ReadIsWithinIf s.registers w.lines.items) (sym test_is) reads.0) ∙ ap (guard_holds s.registers w.lines.items) test_is ∙ reads.1 in
    neither (f.gates 0) (holds_at b f (known b) b.test) (sym holds ∙ c.if-holds.false)
