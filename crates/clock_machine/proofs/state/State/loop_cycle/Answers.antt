use Rattle.std.proofs.Common.{◌≡◌, ℕ, ◌<◌, ◌^◌, ◌-◌, true, false, not, ◌&&◌, sym, ap, ◌∙◌, subst}
use Rattle.flat_programs.specs.Memory.Contents.{words_in}
use Rattle.clock_ir.specs.Flows.{is_at, runs_at, place, known}
use Rattle.clock_ir.specs.ClockRuns.{enter}
use Rattle.clock_machine.specs.Lines.Registers.{held, word_read}
use Rattle.clock_machine.specs.Leaving.{assigned}
use Rattle.clock_machine.specs.Standing.{StandsAt}
use Rattle.clock_machine.proofs.Going.{gate_near, loop_goes_on, loop_leaves}
use Rattle.clock_machine.proofs.Staying.{room_then, state_stays}
use Rattle.clock_machine.proofs.state.State.loop_cycle.Goals as goal

pub returns-then-over : goal.returns-then-over
returns-then-over c = λ p node b last next f st where_ is at in_.
    let g = c.args.program.now in
    let w = c.args.work.now in
    let e = c.args.exit in
    let s = c.args.self.now in
    let s1 = c.start.new.self in
    let s2 = c.assign.new.self in
    let new = c.enter.new.self in
    let form = st.form.stages node.0 _ _ is at in
    let started = c.start.ensures.started p.shapes b f in_ in
    let gate_is : e.gate ≡ place b.interval (known b) e.exit 0 = form.3 ∙ ap (λ t. place b.interval (known b) t 0) (sym form.1) in
    let small : e.gate < 2 ^ 64 - 1 = subst (λ n. n < 2 ^ 64 - 1) (sym form.3) (gate_near b last form.2) in
    let over0 = sym (c.is_over-over.ensures p.shapes b w f (sym form.0.interval) started gate_is small) ∙ c.if-over.true in
    let over : (is_at b.interval last f.time && not (runs_at b f last)) ≡ true = subst (λ t. (is_at b.interval t f.time && not (runs_at b f t)) ≡ true) form.1 over0 in
    let room = room_then s s1 s2 c.start.ensures.room c.assign.ensures.room in
    let st2 = state_stays p g s s2 room st in
    let Goes : (ℕ → ℕ) → (ℕ → ℕ → ℕ) → Type 0 = λ v m. StandsAt p g (enter p.nodes e.next.0 (record { variables = v; memories = m })) new in
    loop_leaves p g node.0 b last next w e f s1 new form started over
    (λ within there.
    subst (λ m. Goes (assigned (word_read s1.registers w.lines.items) w.assignments.items (held s1.registers.variables.items)) m) (ap words_in c.assign.ensures.memories)
    (subst (λ v. Goes v (words_in s2.memories)) (c.assign.ensures.does started.at.body.room.taken within there) (c.enter.ensures p st2)))

pub returns-else-over : goal.returns-else-over
returns-else-over c = λ p node b last next f st where_ is at in_.
    let g = c.args.program.now in
    let w = c.args.work.now in
    let e = c.args.exit in
    let s = c.args.self.now in
    let s1 = c.start.new.self in
    let s2 = c.keep.new.self in
    let form = st.form.stages node.0 _ _ is at in
    let started = c.start.ensures.started p.shapes b f in_ in
    let gate_is : e.gate ≡ place b.interval (known b) e.exit 0 = form.3 ∙ ap (λ t. place b.interval (known b) t 0) (sym form.1) in
    let small : e.gate < 2 ^ 64 - 1 = subst (λ n. n < 2 ^ 64 - 1) (sym form.3) (gate_near b last form.2) in
    let off0 = sym (c.is_over-over.ensures p.shapes b w f (sym form.0.interval) started gate_is small) ∙ c.if-over.false in
    let room = room_then s s1 s2 c.start.ensures.room c.keep.ensures.room in
    loop_goes_on p g node b last next w e f s2 (state_stays p g s s2 room st) (c.keep.ensures.position ∙ c.start.ensures.position ∙ where_) is at (c.keep.ensures.ticks p.shapes b f started)
    (subst (λ t. ◌≡◌ (is_at b.interval t f.time && not (runs_at b f t)) false) form.1 off0)
