-- Statements with a return that leaves the call have a piece that is not straight.
use Rattle.std.proofs.Common.{◌≡◌, ◌∙◌, ◌+◌, Bool, true, false, not, ◌&&◌, ◌||◌, List, [], refl, ap, Option, Some, if◌then◌else◌}
use Rattle.std.specs.Prelude.{nat_le}
use Rattle.std.proofs.lemmas.Bool.{false≢true}
use Rattle.hls_base.specs.declared.place.Place.{Place}
use Rattle.hls_base.specs.declared.point.Point.{Point}
use Rattle.hls_base.specs.declared.point.PointKind.TheVariants as point
use Rattle.pieces.specs.Resolved.Core as core
use Rattle.pieces.specs.Resolved.Core.{CoreTree, CoreActionTree, CoreStmtTree, CoreStmtTrees, CoreElseTree}
use Rattle.pieces.specs.Trees as tree
use Rattle.pieces.specs.Trees.{PureTree, PieceTree, PieceTrees, piece_row}
use Rattle.pieces.specs.Weight.{weight, piece_weights}
use Rattle.piece_making.specs.Making.{State, Part, gives, then_, emit, inside, inside_switch, next_loop}
use Rattle.piece_making.specs.Calls.{Call, point_in}
use Rattle.piece_making.specs.Leaving.{is_empty, leaves, else_leaves, any_leaves}
use Rattle.passes.specs.Lowering.Shapes.{is_straight, are_straight}
use Rattle.c_expand.specs.Expressions.{Callee, expression}
use Rattle.c_expand.specs.Statements.{marked, tested, stepped, loop_body, repeat, result_set, branch, labelled, statement, other_branch, statements}
use Rattle.lowered_shapes.proofs.StraightCalls.Parts.{IsBent, bent_first, bent_second}

abbrev Bent : {A : Type 0} → Part A → Type 0
Bent part = IsBent part.pieces

bent_before : {A B : Type 0} (first : Part A) (next : A → State → Part B) → Bent first → Bent (then_ first next)
unfolding then_
bent_before first next h = bent_first first.pieces (next first.value first.state).pieces h

bent_behind : {A B : Type 0} (first : Part A) (next : A → State → Part B) → Bent (next first.value first.state) → Bent (then_ first next)
unfolding then_
bent_behind first next h = bent_second first.pieces (next first.value first.state).pieces h

emit_bent : (piece : PieceTree) (s : State) → is_straight piece ≡ false → Bent (emit piece s)
unfolding emit
emit_bent piece s e = record { bent = ap (λ b. b && true) e }

bent_inner : {A : Type 0} (part : State → Part A) → ((s : State) → Bent (part s)) → (s : State) → IsBent (inside part s).value.pieces
unfolding inside
bent_inner part h s = h (record s { made = 0 })

-- a fork of which a branch is not straight
fork_bent : (test : PureTree) (left right : List PieceTree) (end : Point) → (are_straight (piece_row left) && are_straight (piece_row right)) ≡ false → is_straight (tree.fork test (piece_row left) (piece_row right) end) ≡ false
fork_bent test left right end e = ap (λ b. light && b) e ∙ and_false light where
  light : Bool
  light = nat_le (1 + weight test + piece_weights (piece_row left) + piece_weights (piece_row right)) 64

  and_false : (b : Bool) → (b && false) ≡ false
  and_false true = refl
  and_false false = refl

left_false : (a b : Bool) → a ≡ false → (a && b) ≡ false
left_false false b e = refl
left_false true b e = absurd cc

right_false : (a b : Bool) → b ≡ false → (a && b) ≡ false
right_false false b e = refl
right_false true b e = e

-- one of two holds
or_cases : {A : Type 0} (a b : Bool) → (a || b) ≡ true → (a ≡ true → A) → (b ≡ true → A) → A
or_cases true b e h g = h refl
or_cases false b e h g = g e

module _ (g : Callee) (c : Call) where
  repeat_bent : (post : Bool) (test : Option CoreTree) (body : State → Part (Unit {0})) (steps : List CoreActionTree) (at : Place) (s : State) → Bent (repeat g c post test body steps at s)
  repeat_bent post test body steps at s =
      let id = next_loop s in
      let before = inside (λ s0. then_ (marked c point.Test at s0) (λ u s5. tested g c test s5)) id.state in
      let main = loop_body c at body before.state in
      let last = inside (stepped g c steps at) main.state in
      bent_behind id _ (bent_behind before _ (bent_behind main _ (bent_behind last _
      (emit_bent (tree.repeat_ id.value post (piece_row before.value.pieces) before.value.value (piece_row main.value.pieces) (piece_row last.value.pieces) (point_in c point.End at)) last.state refl))))

  left_bent : (tail : Bool) (s : State) → not tail ≡ true → Bent (if tail then gives tt s else emit (tree.leave c.call) s)
  left_bent true s e = absurd (false≢true e)
  left_bent false s e = emit_bent (tree.leave c.call) s refl

  branch_bent : (body : State → Part (Unit {0})) → ((s : State) → Bent (body s)) → (at : Place) (s : State) → IsBent (branch c at body s).value.pieces
  branch_bent body h at s = bent_inner (λ s0. then_ (marked c point.Arm at s0) (λ u s1. body s1)) (λ s0. bent_behind (marked c point.Arm at s0) (λ u s1. body s1) (h (marked c point.Arm at s0).state)) s

  mutual
    statement_bent : (stmt : CoreStmtTree) (tail : Bool) → leaves stmt tail ≡ true → (s : State) → Bent (statement g c stmt tail s)
    statement_bent (core.block objects body) tail e s = statements_bent body tail e s
    statement_bent (core.declare object init) tail e s = absurd (false≢true e)
    statement_bent (core.act list) tail e s = absurd (false≢true e)
    statement_bent (core.if_ test body other at) tail e s =
        let x = expression g c test s in
        let first = branch c at (statement g c body tail) x.state in
        let second = other_branch g c other tail first.state in
        let left = are_straight (piece_row first.value.pieces) in
        let right = are_straight (piece_row second.value.pieces) in
        bent_behind x _ (bent_behind first _ (bent_behind second _
        (emit_bent (tree.fork x.value (piece_row first.value.pieces) (piece_row second.value.pieces) (point_in c point.End at)) second.state
        (fork_bent x.value first.value.pieces second.value.pieces (point_in c point.End at)
        (or_cases (leaves body tail) (else_leaves other tail) e (λ h. left_false left right (branch_bent (statement g c body tail) (λ s1. statement_bent body tail h s1) at x.state).bent) (λ h. right_false left right (other_bent other tail h first.state).bent))))))
    statement_bent (core.switch_ test objects body at) tail e s =
        let x = expression g c test s in
        let main = inside_switch (statements g c body false) x.state in
        bent_behind x _ (bent_behind main _ (emit_bent (tree.pick x.value main.value.1 (piece_row main.value.0) (point_in c point.End at)) main.state refl))
    statement_bent (core.case_ value body at) tail e s = bent_behind (labelled c value at s) _ (statement_bent body false e (labelled c value at s).state)
    statement_bent (core.while_ test body at) tail e s = repeat_bent false (Some test) (statement g c body false) [] at s
    statement_bent (core.do_ body test at) tail e s = repeat_bent true (Some test) (statement g c body false) [] at s
    statement_bent (core.for_ objects init test steps body at) tail e s = bent_behind (statements g c init false s) _ (repeat_bent false test (statement g c body false) steps at (statements g c init false s).state)
    statement_bent core.break_ tail e s = absurd (false≢true e)
    statement_bent core.continue_ tail e s = absurd (false≢true e)
    statement_bent (core.return_ value) tail e s = bent_behind (result_set g c value s) _ (left_bent tail (result_set g c value s).state e)

    other_bent : (other : CoreElseTree) (tail : Bool) → else_leaves other tail ≡ true → (s : State) → IsBent (other_branch g c other tail s).value.pieces
    other_bent core.no_else tail e s = absurd (false≢true e)
    other_bent (core.else_ at body) tail e s = branch_bent (statement g c body tail) (λ s1. statement_bent body tail e s1) at s

    pub statements_bent : (body : CoreStmtTrees) (tail : Bool) → any_leaves body tail ≡ true → (s : State) → Bent (statements g c body tail s)
    statements_bent core.no_stmt tail e s = absurd (false≢true e)
    statements_bent (core.more_stmts first rest) tail e s =
        let x = statement g c first (tail && is_empty rest) s in
        or_cases (leaves first (tail && is_empty rest)) (any_leaves rest tail) e (λ h. bent_before x (λ u s1. statements g c rest tail s1) (statement_bent first (tail && is_empty rest) h s))
        (λ h. bent_behind x (λ u s1. statements g c rest tail s1) (statements_bent rest tail h x.state))
