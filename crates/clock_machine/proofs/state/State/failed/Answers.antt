use Rattle.std.proofs.Common.{◌≡◌, ◌+◌, ◌-◌, ◌^◌, true, false, min, sym, ◌∙◌, subst, arith}
use Rattle.clock_ir.specs.Flows.{is_at, gates_now}
use Rattle.clock_machine.specs.Lines.Showing.{ShowsGates}
use Rattle.clock_machine.proofs.Testing.{seen_fails, seen_runs, not_seen}
use Rattle.clock_machine.proofs.state.State.failed.Goals as goal

pub returns-then-runs : goal.returns-then-runs
returns-then-runs c = λ shapes b f at gates.
    let s = c.args.self.now in
    let form = at.body.form in
    let known_is = sym (c.is_at-known.ensures b f (sym form.work.interval) form.positive at.moment) ∙ c.if-known.true in
    let on = subst (λ t. ◌≡◌ (is_at b.interval t f.time) true) form.work.known_time known_is in
    seen_runs b f s.moment.failed gates on (sym (c.runs-runs.ensures shapes b f at gates) ∙ c.if-runs.true)

pub returns-else-runs : goal.returns-else-runs
returns-else-runs c = λ shapes b f at gates.
    let s = c.args.self.now in
    let form = at.body.form in
    let known_is = sym (c.is_at-known.ensures b f (sym form.work.interval) form.positive at.moment) ∙ c.if-known.true in
    let on = subst (λ t. ◌≡◌ (is_at b.interval t f.time) true) form.work.known_time known_is in
    subst (λ n. ShowsGates (gates_now b f) n) (let z : min (s.moment.failed + 1) (2 ^ 64 - 1) ≡ c.saturating_add.result = omega (arith, c.saturating_add.ensures) in z)
    (seen_fails b f s.moment.failed gates on (sym (c.runs-runs.ensures shapes b f at gates) ∙ c.if-runs.false))

pub returns-else-known : goal.returns-else-known
returns-else-known c = λ shapes b f at gates.
    let s = c.args.self.now in
    let form = at.body.form in
    let known_is = sym (c.is_at-known.ensures b f (sym form.work.interval) form.positive at.moment) ∙ c.if-known.false in
    not_seen b f s.moment.failed gates (subst (λ t. ◌≡◌ (is_at b.interval t f.time) false) form.work.known_time known_is)
