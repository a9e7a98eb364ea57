use Rattle.std.proofs.Common.{◌≡◌, ◌<◌, length, slice_get, Some, refl, sym, ◌∙◌, subst, arith}
use Rattle.std.proofs.lemmas.Option.{slice_get-get_or}
use Rattle.clock_machine.specs.declared.lines.program.Stage.{Stage}
use Rattle.clock_machine.specs.declared.state.Position.TheVariants as position
use Rattle.clock_machine.specs.Starts.{words_of}
use Rattle.clock_machine.specs.Standing.{KeepsRoom}
use Rattle.clock_machine.proofs.Entering.{enters_none, enters_loop, enters_block}
use Rattle.clock_machine.proofs.Staying.{state_stays}
use Rattle.clock_machine.proofs.state.State.enter.Goals as goal

pub returns-in-Block : goal.returns-in-Block
returns-in-Block c = λ p st.
    let g = c.args.program.now in
    let i = c.args.node.0 in
    let s = c.args.self.now in
    let s1 = record s { position = position.Loading c.args.node } in
    let new = c.begin.new.self in
    let x = c.index.result.now in
    let lt : i < length g.stages.items = omega (arith, c.if-index-count.true, c.len-count.ensures, g.stages.ok.0) in
    let at = subst (λ (y : Stage). slice_get g.stages.items i ≡ Some y) (sym c.index.ensures ∙ c.in-Block.is) (slice_get-get_or g.stages.items i x lt) in
    let room : KeepsRoom s s1 = record { registers = record { variables = refl; words = refl; heads = refl }; args = refl; fresh = refl; dims = refl; first = refl } in
    let st1 = state_stays p g s s1 room st in
    enters_block p g i _ _ (words_of s) s1 new st1 (state_stays p g s1 new c.begin.ensures.room st1) at c.begin.ensures.position (λ b body. c.begin.ensures.begins p.shapes b body)

pub returns-in-Loop : goal.returns-in-Loop
returns-in-Loop c = λ p st.
    let g = c.args.program.now in
    let i = c.args.node.0 in
    let s = c.args.self.now in
    let s1 = record s { position = position.Loading c.args.node } in
    let x = c.index.result.now in
    let lt : i < length g.stages.items = omega (arith, c.if-index-count.true, c.len-count.ensures, g.stages.ok.0) in
    let at = subst (λ (y : Stage). slice_get g.stages.items i ≡ Some y) (sym c.index.ensures ∙ c.in-Loop.is) (slice_get-get_or g.stages.items i x lt) in
    let room : KeepsRoom s s1 = record { registers = record { variables = refl; words = refl; heads = refl }; args = refl; fresh = refl; dims = refl; first = refl } in
    enters_loop p g i _ _ (words_of s) s1 (state_stays p g s s1 room st) at refl refl

pub returns-else-index-count : goal.returns-else-index-count
returns-else-index-count c = λ p st.
    let g = c.args.program.now in
    let i = c.args.node.0 in
    let s = c.args.self.now in
    let s1 = record s { position = position.Loading c.args.node } in
    let room : KeepsRoom s s1 = record { registers = record { variables = refl; words = refl; heads = refl }; args = refl; fresh = refl; dims = refl; first = refl } in
    enters_none p g i (words_of s) s1 (state_stays p g s s1 room st) refl refl (omega (arith, c.if-index-count.false, c.len-count.ensures, g.stages.ok.0))
