use Rattle.std.proofs.Common.{◌≡◌, ◌<◌, length, slice_get, Some, sym, ◌∙◌, subst, arith}
use Rattle.std.proofs.lemmas.Option.{slice_get-get_or}
use Rattle.clock_machine.specs.declared.lines.program.Stage.{Stage}
use Rattle.clock_machine.proofs.Entering.{loads_none, loads_block, loads_loop}
use Rattle.clock_machine.proofs.Staying.{state_stays}
use Rattle.clock_machine.proofs.state.State.load_loop.Goals as goal

pub returns-in-Block : goal.returns-in-Block
returns-in-Block c = λ p st where_.
    let g = c.args.program.now in
    let i = c.args.node.0 in
    let s = c.args.self.now in
    let x = c.index.result.now in
    let lt : i < length g.stages.items = omega (arith, c.if-index-count.true, c.len-count.ensures, g.stages.ok.0) in
    let at = subst (λ (y : Stage). slice_get g.stages.items i ≡ Some y) (sym c.index.ensures ∙ c.in-Block.is) (slice_get-get_or g.stages.items i x lt) in
    loads_block p g i _ _ s st at where_

pub returns-in-Loop : goal.returns-in-Loop
returns-in-Loop c = λ p st where_.
    let g = c.args.program.now in
    let i = c.args.node.0 in
    let s = c.args.self.now in
    let new = c.begin.new.self in
    let x = c.index.result.now in
    let lt : i < length g.stages.items = omega (arith, c.if-index-count.true, c.len-count.ensures, g.stages.ok.0) in
    let at = subst (λ (y : Stage). slice_get g.stages.items i ≡ Some y) (sym c.index.ensures ∙ c.in-Loop.is) (slice_get-get_or g.stages.items i x lt) in
    loads_loop p g i _ _ s new st (state_stays p g s new c.begin.ensures.room st) at c.begin.ensures.position (λ b body. c.begin.ensures.begins p.shapes b body)

pub returns-else-index-count : goal.returns-else-index-count
returns-else-index-count c = λ p st where_.
    let g = c.args.program.now in
    loads_none p g c.args.node.0 c.args.self.now st where_ (omega (arith, c.if-index-count.false, c.len-count.ensures, g.stages.ok.0))
