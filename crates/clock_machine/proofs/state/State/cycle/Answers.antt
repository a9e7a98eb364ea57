use Rattle.std.proofs.Common.{◌≡◌, ◌<◌, length, slice_get, Some, sym, ◌∙◌, subst, arith}
use Rattle.std.proofs.lemmas.Option.{slice_get_within, slice_get-get_or}
use Rattle.clock_machine.specs.declared.lines.program.Stage.{Stage}
use Rattle.clock_machine.proofs.Going.{cycle_block, cycle_loop}
use Rattle.clock_machine.proofs.state.State.cycle.Goals as goal

pub returns-in-Block : goal.returns-in-Block
returns-in-Block c = λ p f st where_ in_.
    let g = c.args.program.now in
    let i = c.args.node.0 in
    let s = c.args.self.now in
    let x = c.index.result.now in
    let lt : i < length g.stages.items = omega (arith, c.if-index-count.true, c.len-count.ensures, g.stages.ok.0) in
    let at = subst (λ (y : Stage). slice_get g.stages.items i ≡ Some y) (sym c.index.ensures ∙ c.in-Block.is) (slice_get-get_or g.stages.items i x lt) in
    cycle_block p g i f s c.block_cycle.new.self _ _ st in_ at (λ b end_ is inside_ before. c.block_cycle.ensures p c.args.node b end_ f st where_ is at inside_ before)

pub returns-in-Loop : goal.returns-in-Loop
returns-in-Loop c = λ p f st where_ in_.
    let g = c.args.program.now in
    let i = c.args.node.0 in
    let s = c.args.self.now in
    let x = c.index.result.now in
    let lt : i < length g.stages.items = omega (arith, c.if-index-count.true, c.len-count.ensures, g.stages.ok.0) in
    let at = subst (λ (y : Stage). slice_get g.stages.items i ≡ Some y) (sym c.index.ensures ∙ c.in-Loop.is) (slice_get-get_or g.stages.items i x lt) in
    cycle_loop p g i f s c.loop_cycle.new.self _ _ st in_ at (λ b last next is inside_. c.loop_cycle.ensures p c.args.node b last next f st where_ is at inside_)

pub returns-else-index-count : goal.returns-else-index-count
returns-else-index-count c = λ p f st where_ in_.
    let g = c.args.program.now in
    let lt = slice_get_within g.stages.items c.args.node.0 in_.stage in_.stage_is in
    absurd (omega (arith, lt, c.if-index-count.false, c.len-count.ensures, g.stages.ok.0))
