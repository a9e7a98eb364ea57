use Rattle.std.proofs.Common.{◌≡◌, ◌∙◌, ◌+◌, ◌<◌, ◌≤◌, ◌∷◌, ap, sym, subst, map, List, get_or, drop, arith, length, ◌&&◌}
use Rattle.std.specs.Prelude.{IfOk, if◌then◌else◌}
use Rattle.std.specs.Borrow.{Bor}
use Rattle.hls_base.specs.declared.point.Point.{Point}
use Rattle.pieces.specs.declared.piece.Piece.{Piece}
use Rattle.std.proofs.lemmas.List.{drop_more, drop_all}
use Rattle.std.proofs.lemmas.Bool.{lt-ltb}
use Rattle.pieces.specs.Trees as tree
use Rattle.pieces.specs.Weight.{weight}
use Rattle.pieces.specs.View.{pure_of, piece_of, pieces_of}
use Rattle.ir_core.specs.Trees.{sequence_of, shape_of, fork, loop, switch, side, more_arms, part_of, part_row, arm_row}
use Rattle.passes.specs.Lowering.Shapes as shapes
use Rattle.passes.specs.Lowering.Blocks.{begun, is_live, ends_by_test, ends_by_fork, ends_by_cases}
use Rattle.passes.specs.Lowering as spec
use Rattle.passes.specs.Lowering.{Rest, last, followed, side_from, stepped, lowered, lowered_piece, is_named}
use Rattle.block_draft.specs.Drafts.{scope_of}
use Rattle.ir_lower.specs.declared.line.Line.{Line}
use Rattle.ir_lower.specs.Lines.{ended, ended_arms, open_of, with_arms, first_parts, later_arms}
use Rattle.ir_lower.specs.Points.{pointed, is_fork_that_converts, is_loop_that_overlaps}
use Rattle.ir_lower.proofs.PieceForms.{set_tree, put_tree, fork_tree, repeat_tree, pick_tree, break_tree, next_tree, leave_tree, land_tree, mark_tree}
use Rattle.ir_lower.proofs.Arming.{or_end, arm_step, body_counted}
use Rattle.ir_lower.proofs.lower.+sequence.Goals as goal

pub lower_all-loop-piece-preserved : goal.lower_all-loop-piece-preserved
lower_all-loop-piece-preserved t c = λ rest.
    let scope = scope_of c.args.expanded.now in
    let pieces = c.args.pieces.now.items in
    let i = c.loop-piece.piece-index in
    let x = c.piece-item.result in
    let there : i < length pieces = subst (λ (l : List Piece). i < length l) c.deref-piece-items.ensures.value c.loop-piece-test.true in
    let found : x ≡ get_or pieces i x = subst (λ (l : List Piece). x ≡ get_or l i x) c.deref-piece-items.ensures.value c.piece-item.is in
    let split = drop_more pieces i x there ∙ ap (λ y. y ∷ drop (i + 1) pieces) (sym found) in
    c.in_ok-lower_piece.ensures (lowered scope (pieces_of (drop (i + 1) pieces)) rest) ∙ ap (λ l. ended c.loop-piece.line (lowered scope (pieces_of l) rest)) (sym split) ∙ c.loop-piece.invariant rest

pub lower_piece-returns-in-Set : goal.lower_piece-returns-in-Set
lower_piece-returns-in-Set t c = λ rest.
    let scope = scope_of c.args.expanded.now in
    subst (λ r. IfOk c.set.result (λ u. ended c.set.new.self rest ≡ r)) (sym (ap (λ p. ended c.args.line.now (lowered_piece scope p rest)) (ap piece_of c.in-Set.is ∙ set_tree c.in-Set.variable c.in-Set.value))) (c.set.ensures rest)

pub lower_piece-returns-in-Put : goal.lower_piece-returns-in-Put
lower_piece-returns-in-Put t c = λ rest.
    let scope = scope_of c.args.expanded.now in
    let put = c.in-Put in
    subst (λ r. IfOk c.put.result (λ u. ended c.put.new.self rest ≡ r)) (sym (ap (λ p. ended c.args.line.now (lowered_piece scope p rest)) (ap piece_of put.is ∙ put_tree put.array put.subscripts put.value put.at))) (c.put.ensures rest)

pub lower_piece-returns-in-Break : goal.lower_piece-returns-in-Break
lower_piece-returns-in-Break t c = λ rest.
    let scope = scope_of c.args.expanded.now in
    c.leave.ensures rest ∙ sym (ap (λ p. ended c.args.line.now (lowered_piece scope p rest)) (ap piece_of c.in-Break.is ∙ break_tree))

pub lower_piece-returns-in-Next : goal.lower_piece-returns-in-Next
lower_piece-returns-in-Next t c = λ rest.
    let scope = scope_of c.args.expanded.now in
    c.leave-in-Next.ensures rest ∙ sym (ap (λ p. ended c.args.line.now (lowered_piece scope p rest)) (ap piece_of c.in-Next.is ∙ next_tree))

pub lower_piece-returns-in-Leave : goal.lower_piece-returns-in-Leave
lower_piece-returns-in-Leave t c = λ rest.
    let scope = scope_of c.args.expanded.now in
    c.leave-in-Leave.ensures rest ∙ sym (ap (λ p. ended c.args.line.now (lowered_piece scope p rest)) (ap piece_of c.in-Leave.is ∙ leave_tree c.in-Leave.call))

pub lower_piece-returns-in_ok-shape-in-Land : goal.lower_piece-returns-in_ok-shape-in-Land
lower_piece-returns-in_ok-shape-in-Land t c = λ rest.
    let scope = scope_of c.args.expanded.now in
    let land = c.in-Land in
    subst (λ r. IfOk c.then.result (λ u. ended c.then.new.self rest ≡ r)) (ap (λ s. ended c.args.line.now (λ b. followed b s (rest (begun land.point)))) c.in_ok-shape-in-Land.ensures ∙ sym (ap (λ p. ended c.args.line.now (lowered_piece scope p rest)) (ap piece_of land.is ∙ land_tree land.call land.point)))
    (c.then.ensures rest)

pub lower_piece-returns-in-Mark : goal.lower_piece-returns-in-Mark
lower_piece-returns-in-Mark t c = λ rest.
    let scope = scope_of c.args.expanded.now in
    sym (ap (λ p. ended c.args.line.now (lowered_piece scope p rest)) (ap piece_of c.in-Mark.is ∙ mark_tree c.in-Mark.field-0))

pub lower_fork-returns : goal.lower_fork-returns
lower_fork-returns t c = λ rest.
    let scope = scope_of c.args.expanded.now in
    let f = c.in-Fork in
    let b = open_of c.args.line.now in
    let yes_ = pieces_of f.yes.items in
    let no_ = pieces_of f.no.items in
    let test = pure_of f.test in
    let tree_is = ap piece_of f.is ∙ fork_tree f.test f.yes f.no f.end in
    let convertible = c.converts-convertible.ensures ∙ ap (λ l. l && is_fork_that_converts (piece_of c.args.piece.now)) c.is_live.ensures ∙ ap (λ p. is_live b && is_fork_that_converts p) tree_is in
    let first = c.in_ok-yes.ensures ∙ ap (side_from (lowered scope yes_ last)) c.first_point.ensures in
    let second = c.in_ok-no.ensures ∙ ap (side_from (lowered scope no_ last)) c.first_point-2.ensures in
    subst (λ r. IfOk c.then.result (λ u. ended c.then.new.self rest ≡ r)) (c.in_ok-end_by_fork.ensures (λ b1. followed b1 (shape_of c.in_ok-shape.shape.value) (rest (begun f.end)))
    ∙ ap (λ s. ended c.args.line.now (λ b1. followed (ends_by_fork scope test yes_ no_ b1) s (rest (begun f.end)))) (c.in_ok-shape.ensures ∙ (λ i. fork (first i) (second i) (convertible i)))
    ∙ sym (ap (λ p. ended c.args.line.now (lowered_piece scope p rest)) tree_is))
    (c.then.ensures rest)

pub lower_side-returns-in_ok-finish-in-Some : goal.lower_side-returns-in_ok-finish-in-Some
lower_side-returns-in_ok-finish-in-Some t c =
    let scope = scope_of c.args.expanded.now in
    let blocks : Rest = lowered scope (pieces_of c.args.pieces.now.items) last in
    ap side (c.in_ok-finish-in-Some.ensures ∙ c.in_ok-lower_all-in-Some.ensures last ∙ ap (λ (l : Line). ended l blocks) c.deref_mut.ensures.value ∙ c.in_ok-line-in-Some.ensures blocks) ∙ sym (ap (λ f. side_from blocks (pointed f)) c.in-Some.is)

pub lower_test-returns : goal.lower_test-returns
lower_test-returns t c =
    let scope = scope_of c.args.expanded.now in
    let before = pieces_of c.args.before.now.items in
    let ends : Rest = λ b. last (ends_by_test (pure_of c.args.test.now) b) in
    let point = ap (λ (p : Bor Point). p.now) c.unwrap_or.ensures ∙ or_end c.first_point.result c.args.end (shapes.first_point before) c.first_point.ensures in
    subst (λ r. IfOk c.finish.result (λ s. sequence_of s.value ≡ r)) (c.in_ok-end_by_test.ensures last ∙ ap (λ (l : Line). ended l ends) c.deref_mut-2.ensures.value ∙ c.in_ok-lower_all.ensures ends ∙ ap (λ (l : Line). ended l (lowered scope before ends)) c.deref_mut.ensures.value ∙ c.in_ok-line.ensures (lowered scope before ends) ∙ ap (λ p. lowered scope before ends (begun p)) point) c.finish.ensures

pub lower_step-returns-in-Some : goal.lower_step-returns-in-Some
lower_step-returns-in-Some t c =
    let scope = scope_of c.args.expanded.now in
    let step = pieces_of c.args.step.now.items in
    subst (λ r. IfOk c.finish.result (λ s. sequence_of s.value ≡ r)) (sym (ap (λ o. ended c.args.line.value (λ b. stepped (λ b1. lowered scope step last b1) (pointed o) b)) c.in-Some.is)) c.finish.ensures

pub lower_step-returns-in_ok-lower_all-in-None : goal.lower_step-returns-in_ok-lower_all-in-None
lower_step-returns-in_ok-lower_all-in-None t c =
    let scope = scope_of c.args.expanded.now in
    let step = pieces_of c.args.step.now.items in
    subst (λ r. IfOk c.finish-in-None.result (λ s. sequence_of s.value ≡ r))
    (c.in_ok-lower_all-in-None.ensures last ∙ ap (λ (l : Line). ended l (lowered scope step last)) c.deref_mut.ensures.value ∙ sym (ap (λ o. ended c.args.line.value (λ b. stepped (λ b1. lowered scope step last b1) (pointed o) b)) c.in-None.is)) c.finish-in-None.ensures

pub lower_repeat-returns : goal.lower_repeat-returns
lower_repeat-returns t c = λ rest.
    let scope = scope_of c.args.expanded.now in
    let r = c.in-Repeat in
    let before = pieces_of r.before.items in
    let body = pieces_of r.body.items in
    let step = pieces_of r.step.items in
    let tree_is = ap piece_of r.is ∙ repeat_tree r.id r.post r.before r.test r.body r.step r.end in
    let point = ap (λ (p : Bor Point). p.now) c.unwrap_or-start.ensures ∙ or_end c.first_point.result _ (shapes.first_point body) c.first_point.ensures in
    let eligible = c.may_overlap-eligible.ensures ∙ ap is_loop_that_overlaps tree_is in
    let own = c.own_step-own.ensures in
    let stepping : Rest = λ b1. lowered scope step last b1 in
    let behind : Rest = λ b. stepped stepping (pointed c.own_step-own.result) b in
    let round = c.in_ok-body.ensures ∙ c.in_ok-lower_all.ensures behind ∙ ap (λ (l : Line). ended l (lowered scope body behind)) c.deref_mut.ensures.value ∙ c.in_ok-inner.ensures (lowered scope body behind) in
    let test_is = c.in_ok-test.ensures in
    let body_is = c.in_ok-body-2.ensures ∙ (λ i. spec.with_copies (eligible i) scope (round i)) ∙ (λ i. spec.with_copies (shapes.is_eligible r.post before (weight (pure_of r.test)) body step) scope (lowered scope body (λ b. stepped stepping (own i) b) (begun (point i)))) in
    let step_is = c.in_ok-step.ensures ∙ ap (side_from stepping) own in
    subst (λ r. IfOk c.then.result (λ u. ended c.then.new.self rest ≡ r)) (ap (λ s. ended c.args.line.now (λ b1. followed b1 s (rest (begun r.end)))) (c.in_ok-shape.ensures ∙ (λ i. loop r.post (test_is i) (body_is i) (step_is i) (eligible i)))
    ∙ sym (ap (λ p. ended c.args.line.now (lowered_piece scope p rest)) tree_is))
    (c.then.ensures rest)

pub lower_pick-returns : goal.lower_pick-returns
lower_pick-returns t c = λ rest.
    let scope = scope_of c.args.expanded.now in
    let p = c.in-Pick in
    let body = pieces_of p.body.items in
    let test = pure_of p.test in
    let labels = c.as_slice-labels.result.now in
    let tree_is = ap piece_of p.is ∙ pick_tree p.test p.labels p.body p.end in
    let dead = c.in_ok-blocks.ensures.dead in
    let arms = c.in_ok-blocks.ensures.arms in
    let targets = c.in_ok-targets.ensures ∙ ap (λ n. spec.targets labels n labels) (c.len.ensures ∙ body_counted p.body) in
    let other = c.in_ok-other_target.ensures ∙ ap (λ n. spec.other labels n labels) (c.len-2.ensures ∙ body_counted p.body) in
    let shape = c.in_ok-shape.ensures ∙ (λ i. switch (dead i) (targets i) (other i) (arms i)) in
    subst (λ r. IfOk c.then.result (λ u. ended c.then.new.self rest ≡ r)) (c.in_ok-end_by_cases.ensures (λ b1. followed b1 (shape_of c.in_ok-shape.shape.value) (rest (begun p.end)))
    ∙ ap (λ s. ended c.args.line.now (λ b1. followed (ends_by_cases test labels b1) s (rest (begun p.end)))) shape
    ∙ ap (λ l. ended c.args.line.now (lowered_piece scope (tree.pick test l (pieces_of p.body.items) p.end) rest)) c.as_slice-labels.ensures.value
    ∙ sym (ap (λ q. ended c.args.line.now (lowered_piece scope q rest)) tree_is))
    (c.then.ensures rest)

pub lower_in_arm-returns : goal.lower_in_arm-returns
lower_in_arm-returns t c = λ rest more.
    let scope = scope_of c.args.expanded.now in
    let piece = piece_of c.args.piece.now in
    let arms = c.args.arms in
    let now = c.in_ok-closed.field-0 in
    let point = ap (λ (p : Bor Point). p.now) c.unwrap_or.ensures ∙ or_end c.point_of.result c.args.end (shapes.point_of piece) c.point_of.ensures in
    ap (λ s. with_arms (map sequence_of now.closed.items) (more_arms s more)) (c.in_ok-lower_piece.ensures rest ∙ ap (λ (l : Line). ended l (lowered_piece scope piece rest)) c.deref_mut.ensures.value) ∙ c.in_ok-closed.ensures (lowered_piece scope piece rest) more
    ∙ ap (λ p. if c.args.begins then ended_arms arms last (more_arms (lowered_piece scope piece rest (begun p)) more) else ended_arms arms (lowered_piece scope piece rest) more) point

pub lower_arms-loop-i-init : goal.lower_arms-loop-i-init
lower_arms-loop-i-init t c =
    let scope = scope_of c.args.expanded.now in
    let labels = c.args.labels.now in
    let body = pieces_of c.args.body.now.items in
    c.in_ok-arms.ensures (spec.before_arm scope labels 0 body) (spec.arms scope labels 0 body c.args.end.now)

pub lower_arms-loop-i-preserved : goal.lower_arms-loop-i-preserved
lower_arms-loop-i-preserved t c =
    let scope = scope_of c.args.expanded.now in
    let labels = c.args.labels.now in
    let body = c.args.body.now.items in
    let i = c.loop-i.i in
    let piece = c.index.result.now in
    let end = c.args.end.now in
    let there : i < length body = let ok = c.args.body.now.ok in omega (arith, ok, c.len.ensures, c.loop-i-test.true) in
    let named = c.begins.ensures ∙ c.in_ok-named.ensures i ∙ ap (λ b. b && is_named labels i) (lt-ltb i c.len.result (subst (λ n. i < n) (c.len-i-end.ensures ∙ sym c.len.ensures) c.loop-i-test.true)) in
    let split = drop_more body i piece there ∙ ap (λ y. y ∷ drop (i + 1) body) (sym c.index.ensures) in
    arm_step scope labels i (piece_of piece) (pieces_of (drop (i + 1) body)) end c.loop-i.arms c.in_ok-arms-2.arms c.begins.result _ named c.in_ok-arms-2.ensures
    (ap (λ l. ended_arms c.loop-i.arms (spec.before_arm scope labels i (pieces_of l)) (spec.arms scope labels i (pieces_of l) end)) (sym split) ∙ c.loop-i.invariant)

pub lower_all-returns : goal.lower_all-returns
lower_all-returns t c = λ rest.
    let scope = scope_of c.args.expanded.now in
    let pieces = c.args.pieces.now.items in
    let i = c.loop-piece.piece-index in
    let past : length pieces ≤ i = subst (λ (l : List Piece). length l ≤ i) c.deref-piece-items.ensures.value c.loop-piece-test.false in
    ap (λ l. ended c.loop-piece.line (lowered scope (pieces_of l) rest)) (sym (drop_all i pieces past)) ∙ c.loop-piece.invariant rest

pub lower_arms-returns-clause-dead : goal.lower_arms-returns-clause-dead
lower_arms-returns-clause-dead t c =
    let scope = scope_of c.args.expanded.now in
    let labels = c.args.labels.now in
    let body = c.args.body.now.items in
    let i = c.loop-i.i in
    let end = c.args.end.now in
    let past : length body ≤ i = let ok = c.args.body.now.ok in omega (arith, ok, c.len.ensures, c.loop-i-test.false) in
    let whole = ap (λ l. ended_arms c.loop-i.arms (spec.before_arm scope labels i (pieces_of l)) (spec.arms scope labels i (pieces_of l) end)) (sym (drop_all i body past)) ∙ c.loop-i.invariant in
    subst (λ r. IfOk c.finish.result (λ blocks. part_row (map part_of blocks.dead.items) ≡ r)) (ap first_parts whole) c.finish.ensures.dead

pub lower_arms-returns-clause-arms : goal.lower_arms-returns-clause-arms
lower_arms-returns-clause-arms t c =
    let scope = scope_of c.args.expanded.now in
    let labels = c.args.labels.now in
    let body = c.args.body.now.items in
    let i = c.loop-i.i in
    let end = c.args.end.now in
    let past : length body ≤ i = let ok = c.args.body.now.ok in omega (arith, ok, c.len.ensures, c.loop-i-test.false) in
    let whole = ap (λ l. ended_arms c.loop-i.arms (spec.before_arm scope labels i (pieces_of l)) (spec.arms scope labels i (pieces_of l) end)) (sym (drop_all i body past)) ∙ c.loop-i.invariant in
    subst (λ r. IfOk c.finish.result (λ blocks. arm_row (map sequence_of blocks.arms.items) ≡ r)) (ap later_arms whole) c.finish.ensures.arms
