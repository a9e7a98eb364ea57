use Rattle.std.proofs.Common.{◌≡◌, ◌+◌, ◌<◌, ◌≤◌, ◌∙◌, arith}
use Rattle.clock_ir.specs.Flows.{tick}
use Rattle.clock_machine.proofs.Going.{block_leaves, block_goes_on, block_is_left}
use Rattle.clock_machine.proofs.Staying.{room_then, state_stays}
use Rattle.clock_machine.proofs.Ticks.{next_time}
use Rattle.clock_machine.proofs.state.State.block_cycle.Goals as goal

pub returns-then-interval-time : goal.returns-then-interval-time
returns-then-interval-time c = λ p node b end_ f st where_ is at in_ before.
    let g = c.args.program.now in
    let w = c.args.work.now in
    let s = c.args.self.now in
    let s1 = c.start.new.self in
    let s2 = c.keep.new.self in
    let new = c.leave_block.new.self in
    let room = room_then s s1 s2 c.start.ensures.room c.keep.ensures.room in
    let st2 = state_stays p g s s2 room st in
    let form = st.form.stages node.0 _ _ is at in
    let started = c.start.ensures.started p.shapes b f in_ in
    let in2 = c.keep.ensures.ticks p.shapes b f started in
    let time_is = next_time p.shapes b f in
    let over : b.interval ≤ f.time + 1 = omega (arith, c.if-interval-time.true, in2.at.moment.time_is, time_is, form.0.interval) in
    let last : (tick p.shapes b f).time ≡ b.interval = omega (arith, over, before, time_is) in
    block_is_left p g node.0 b end_ f new over
    (block_leaves p g b end_ w c.args.way.now (tick p.shapes b f) s2 new form in2 last (λ within there goes. c.leave_block.ensures p st2 in2.at.body.room.taken within there goes))

pub returns-else-interval-time : goal.returns-else-interval-time
returns-else-interval-time c = λ p node b end_ f st where_ is at in_ before.
    let g = c.args.program.now in
    let w = c.args.work.now in
    let s = c.args.self.now in
    let s1 = c.start.new.self in
    let s2 = c.keep.new.self in
    let room = room_then s s1 s2 c.start.ensures.room c.keep.ensures.room in
    let form = st.form.stages node.0 _ _ is at in
    let started = c.start.ensures.started p.shapes b f in_ in
    let in2 = c.keep.ensures.ticks p.shapes b f started in
    let time_is = next_time p.shapes b f in
    let more : f.time + 1 < b.interval = omega (arith, c.if-interval-time.false, in2.at.moment.time_is, time_is, form.0.interval) in
    block_goes_on p g node b end_ w c.args.way.now f s2 (state_stays p g s s2 room st) (c.keep.ensures.position ∙ c.start.ensures.position ∙ where_) is at in2 more
