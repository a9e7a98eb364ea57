-- The pieces of statements.
use Rattle.std.proofs.Common.{◌≡◌, ◌∙◌, ℕ, Bool, true, false, ◌&&◌, List, [], ◌∷◌, length, refl, ap, sym, subst, arith, le_refl, Option, Some}
use Rattle.std.proofs.lemmas.Bool.{false≢true}
use Rattle.hls_base.specs.declared.place.Place.{Place}
use Rattle.hls_base.specs.declared.point.Point.{Point}
use Rattle.hls_base.specs.declared.point.PointKind.{PointKind}
use Rattle.hls_base.specs.declared.point.PointKind.TheVariants as point
use Rattle.hls_base.specs.declared.number.LoopId.{LoopId}
use Rattle.pieces.specs.Resolved.Core as core
use Rattle.pieces.specs.Resolved.Core.{CoreTree, CoreActionTree, CoreStmtTree, CoreStmtTrees, CoreElseTree}
use Rattle.pieces.specs.declared.piece.Label.{Label}
use Rattle.pieces.specs.Trees as tree
use Rattle.pieces.specs.Trees.{PureTree, PieceTree, PieceTrees, piece_row}
use Rattle.piece_making.specs.Making.{State, Part, Inner, gives, then_, emit, inside, inside_switch, next_loop}
use Rattle.piece_making.specs.Leaving.{is_empty}
use Rattle.piece_making.specs.Calls.{Call, point_in}
use Rattle.c_expand.specs.Expressions.{Callee, expression}
use Rattle.c_expand.specs.Statements.{marked, tested, stepped, loop_body, repeat, branch, labelled, statement, other_branch, statements}
use Rattle.passes.specs.Lowering.Shapes.{any_continues}
use Rattle.passes.specs.Lowering.{piece_count}
use Rattle.pass_runs.specs.LowerRuns.Suiting.{StepBy, AreApart, TargetsThere}
use Rattle.expanded_pieces.specs.Jumps.{Begins, JumpsFit, ElseJumpsFit, AllJumpsFit}
use Rattle.expanded_pieces.proofs.Expressions.{CalleesFit}
use Rattle.expanded_pieces.specs.BegunPieces.Reads.{ReadsNone}
use Rattle.expanded_pieces.specs.BegunPieces.Beginning.{BeginsWell, AreBegun}
use Rattle.expanded_pieces.proofs.BegunPieces.Hiding.{Below, reads_below}
use Rattle.expanded_pieces.proofs.BegunPieces.Ends.{AllEnds, AllApart, are_apart}
use Rattle.expanded_pieces.proofs.BegunPieces.Agreeing.{by, AllAgree, FirstAgree}
use Rattle.expanded_pieces.proofs.BegunPieces.Well.{IsMark, Good, AllGood, AllArms, are_begun, begins_well, arms_are_begun}
use Rattle.expanded_pieces.proofs.BegunPieces.Parts.{Between, Ready, ready_more, any, Begun, There, then_at, then_quiet, then_there, gives_begun, emit_begun, mark_begun, loop_begun, Within, inside_begun, outside_begun}
use Rattle.expanded_pieces.proofs.BegunPieces.Forks.{anything, fork_both, fork_empty}
use Rattle.expanded_pieces.proofs.BegunPieces.Expressions.{CalleesBegin, expression_begun, widen}
use Rattle.expanded_pieces.proofs.BegunPieces.Actions.{actions_begun, declare_begun, tested_begun, stepped_begun, returned_begun}
use Rattle.expanded_pieces.proofs.BegunPieces.Arms.{ArmsBegun, arms_begun, arms_then, label_begun, SwitchBegun, switch_begun}

-- ---- pieces that begin with a mark

abbrev pub BeginsIfAny : List PieceTree → Type 0
BeginsIfAny [] = Unit {0}
BeginsIfAny (x ∷ xs) = IsMark x

abbrev pub BeginsByMark : List PieceTree → Type 0
BeginsByMark [] = ⊥
BeginsByMark (x ∷ xs) = IsMark x

module _ (kept : Point → Bool) (hidden : ℕ → Bool) where
  pub begins_first : (xs : List PieceTree) → BeginsByMark xs → AllGood kept hidden xs → (lands : List ℕ) (h : ℕ → Bool) → FirstAgree kept (piece_row xs) → AllApart lands (piece_row xs) → Below h hidden → BeginsWell kept lands h (piece_row xs)
  begins_first [] m g lands h a apart b = absurd m
  begins_first (tree.mark q ∷ xs) m g lands h a apart b = begins_well kept hidden q xs g.2 lands h a apart b
  begins_first (x ∷ xs) m g lands h a apart b = absurd m

  step_begun : (continues : Bool) (xs : List PieceTree) → BeginsIfAny xs → AllGood kept hidden xs → (lands : List ℕ) (h : ℕ → Bool) → by continues (FirstAgree kept (piece_row xs)) (AllAgree kept (piece_row xs)) → AllApart lands (piece_row xs) → Below h hidden
      → StepBy continues (piece_row xs) (BeginsWell kept lands h (piece_row xs)) (AreBegun kept lands h h (piece_row xs) × AreApart lands (piece_row xs))
  step_begun true [] m g lands h a apart b = tt
  step_begun true (x ∷ xs) m g lands h a apart b = begins_first (x ∷ xs) m g lands h a apart b
  step_begun false xs m g lands h a apart b = (are_begun kept hidden xs g lands h h a apart b b, are_apart lands (piece_row xs) apart)

  loop_good : (id : LoopId) (post : Bool) (before : List PieceTree) (test : PureTree) (body step : List PieceTree) (end : Point) → ReadsNone hidden test → BeginsByMark before → BeginsByMark body → BeginsIfAny step
      → AllGood kept hidden before → AllGood kept hidden body → AllGood kept hidden step → Good kept hidden (tree.repeat_ id post (piece_row before) test (piece_row body) (piece_row step) end)
  loop_good id post before test body step end t m1 m2 m3 g1 g2 g3 lands h a apart b = (
    reads_below h hidden b test t,
    a.3,
    begins_first before m1 g1 [] h a.0 (λ j e. absurd (false≢true e)) b,
    begins_first body m2 g2 lands h a.1 (λ j e. (apart j e).1) b,
    step_begun (any_continues (piece_row body)) step m3 g3 lands h a.2 (λ j e. (apart j e).2) b,
  )

  fork_good : (test : PureTree) (xs ys : List PieceTree) (end : Point) → ReadsNone hidden test → BeginsByMark xs → BeginsIfAny ys → AllGood kept hidden xs → AllGood kept hidden ys → Good kept hidden (tree.fork test (piece_row xs) (piece_row ys) end)
  fork_good test (tree.mark p ∷ xs) [] end t m1 m2 g1 g2 = fork_empty kept hidden test p xs end t g1
  fork_good test (tree.mark p ∷ xs) (tree.mark q ∷ ys) end t m1 m2 g1 g2 = fork_both kept hidden test p q xs ys end t g1 g2
  fork_good test (tree.mark p ∷ xs) (y ∷ ys) end t m1 m2 g1 g2 = absurd m2
  fork_good test [] ys end t m1 m2 g1 g2 = absurd m1
  fork_good test (x ∷ xs) ys end t m1 m2 g1 g2 = absurd m1

  switch_good : (test : PureTree) (labels : List Label) (xs : List PieceTree) (end : Point) → ReadsNone hidden test → TargetsThere (piece_count (piece_row xs)) labels → AllArms kept hidden labels 0 xs → Good kept hidden (tree.pick test labels (piece_row xs) end)
  switch_good test labels xs end t targets arms lands h a apart b = (reads_below h hidden b test t, a.1, targets, arms_are_begun kept hidden labels 0 xs arms lands h a.0 apart b)

  switch_outside : (low : ℕ) (s : State) (part : Part (List PieceTree × List Label)) → SwitchBegun kept hidden s part → Begun kept hidden low any s part
  switch_outside low s part w = record {
    labels = w.labels;
    made = let e = w.made in let n = ap length w.none in omega (arith, e, n);
    more = w.more;
    later = w.later;
    good = subst (λ xs. AllGood kept hidden xs) (sym w.none) tt;
    ends = subst (λ xs. AllEnds (Between low part.state.calls) (piece_row xs)) (sym w.none) tt;
    value = tt;
  }

-- pieces in a list of their own, which begins with a mark
pub record Marked (kept : Point → Bool) (hidden : ℕ → Bool) {A : Type 0} (V : A → Type 0) (s : State) (part : Part (Inner A)) : Type 0 where
  pub within : Within kept hidden V s part
  pub first : BeginsByMark part.value.pieces

-- or which is empty
pub record MaybeMarked (kept : Point → Bool) (hidden : ℕ → Bool) (s : State) (part : Part (Inner (Unit {0}))) : Type 0 where
  pub within : Within kept hidden any s part
  pub first : BeginsIfAny part.value.pieces

any_if : (xs : List PieceTree) → BeginsByMark xs → BeginsIfAny xs
any_if [] m = tt
any_if (x ∷ xs) m = m

module _ (kept : Point → Bool) (g : Callee) (callees : CalleesBegin kept g) (fit : CalleesFit anything g) (c : Call) (hidden : ℕ → Bool) where
  abbrev pub MakesHere : (State → Part (Unit {0})) → Type 0
  MakesHere part = There kept hidden c any part

  marked_within : {A : Type 0} {V : A → Type 0} (kind : PointKind) (at : Place) (part : State → Part A) → There kept hidden c V part → (s : State) → Ready hidden c s → Marked kept hidden V s (inside (λ s0. then_ (marked c kind at s0) (λ u s1. part s1)) s)
  unfolding inside then_ emit
  marked_within kind at part h s r =
      let s0 = record s { made = 0 } in
      record {
        within = inside_begun kept hidden (λ s0. then_ (marked c kind at s0) (λ u s1. part s1)) s
            (then_there kept hidden c s0 (ready_more hidden c s s0 (le_refl (length s.variables)) r) (marked c kind at s0) (λ u s1. part s1) (mark_begun kept hidden s0.calls (point_in c kind at) s0) (λ u w s1 r1. h s1 r1));
        first = tt;
      }

  nothing_within : (s : State) → MaybeMarked kept hidden s (inside (λ s0. gives tt s0) s)
  unfolding inside
  nothing_within s = record { within = inside_begun kept hidden (λ s0. gives tt s0) s (gives_begun kept hidden s.calls tt tt (record s { made = 0 })); first = tt }

  steps_marked : (steps : List CoreActionTree) (at : Place) (s : State) → BeginsIfAny (inside (stepped g c steps at) s).value.pieces
  unfolding inside stepped then_ emit
  steps_marked [] at s = tt
  steps_marked (a ∷ rest) at s = tt

  steps_within : (steps : List CoreActionTree) (at : Place) (s : State) → Ready hidden c s → MaybeMarked kept hidden s (inside (stepped g c steps at) s)
  steps_within steps at s r =
      let s0 = record s { made = 0 } in
      record {
        within = inside_begun kept hidden (stepped g c steps at) s (stepped_begun kept g callees fit c hidden steps at s0 (ready_more hidden c s s0 (le_refl (length s.variables)) r));
        first = steps_marked steps at s;
      }

  -- ---- loops

  repeat_begun : (post : Bool) (test : Option CoreTree) (body : State → Part (Unit {0})) (steps : List CoreActionTree) (at : Place) → MakesHere body → MakesHere (repeat g c post test body steps at)
  repeat_begun post test body steps at h s r =
      let id = next_loop s in
      let s1 = id.state in
      let q0 = loop_begun kept hidden s in
      let r1 = ready_more hidden c s s1 q0.more r in
      let before = inside (λ s0. then_ (marked c point.Test at s0) (λ u s5. tested g c test s5)) s1 in
      let q1 = marked_within point.Test at (λ s5. tested g c test s5) (λ s5 r5. tested_begun kept g callees fit c hidden test s5 r5) s1 r1 in
      let r2 = ready_more hidden c s1 before.state q1.within.more r1 in
      let main = loop_body c at body before.state in
      let q2 = marked_within point.Body at body h before.state r2 in
      let r3 = ready_more hidden c before.state main.state q2.within.more r2 in
      let last = inside (stepped g c steps at) main.state in
      let q3 = steps_within steps at main.state r3 in
      let low = s1.calls in
      let high = last.state.calls in
      let l1 = q1.within.later in
      let l2 = q2.within.later in
      let l3 = q3.within.later in
      then_at kept hidden s.calls s id _ (le_refl s.calls) q0
      (then_quiet kept hidden low s1 before _ q1.within.none (outside_begun kept hidden hidden low s1 before q1.within)
      (then_quiet kept hidden low before.state main _ q2.within.none (outside_begun kept hidden hidden low before.state main q2.within)
      (then_quiet kept hidden low main.state last _ q3.within.none (outside_begun kept hidden hidden low main.state last q3.within)
      (emit_begun kept hidden low (tree.repeat_ id.value post (piece_row before.value.pieces) before.value.value (piece_row main.value.pieces) (piece_row last.value.pieces) (point_in c point.End at)) last.state
      (loop_good kept hidden id.value post before.value.pieces before.value.value main.value.pieces last.value.pieces (point_in c point.End at) q1.within.value q1.first q2.first q3.first q1.within.good q2.within.good q3.within.good)
      (widen low before.state.calls low high before.value.pieces (le_refl low) (omega (arith, l2, l3)) q1.within.ends, widen before.state.calls main.state.calls low high main.value.pieces l1 l3 q2.within.ends, widen main.state.calls high low high last.value.pieces (omega (arith, l1, l2)) (le_refl high) q3.within.ends)))))

  -- ---- statements

  -- declarations and actions
  init_begun : (init : CoreStmtTrees) → Begins init → MakesHere (statements g c init false)
  init_begun core.no_stmt h s r = gives_begun kept hidden s.calls tt tt s
  init_begun (core.more_stmts (core.declare object init) rest) h s r = then_there kept hidden c s r _ _ (declare_begun kept g callees fit c hidden object init s r) (λ u w s1 r1. init_begun rest h.1 s1 r1)
  init_begun (core.more_stmts (core.act list) rest) h s r = then_there kept hidden c s r _ _ (actions_begun kept g callees fit c hidden list s r) (λ u w s1 r1. init_begun rest h.1 s1 r1)
  init_begun (core.more_stmts stmt rest) h s r = absurd h.0

  -- Its pieces are well in the body of a switch, and anywhere if it has no labels.
  abbrev pub Stands : Bool → (s : State) → Part (Unit {0}) → Type 0
  Stands labels s part = ArmsBegun kept hidden s part × (labels ≡ false → Begun kept hidden s.calls any s part)

  plain : (labels : Bool) (s : State) (part : Part (Unit {0})) → Begun kept hidden s.calls any s part → Stands labels s part
  plain labels s part h = (arms_begun kept hidden s part h, λ e. h)

  fork_begun : (test : PureTree) (at : Place) (s : State) (first : Part (Inner (Unit {0}))) (second : Part (Inner (Unit {0}))) → ReadsNone hidden test → Marked kept hidden any s first → MaybeMarked kept hidden first.state second
      → Begun kept hidden s.calls any second.state (emit (tree.fork test (piece_row first.value.pieces) (piece_row second.value.pieces) (point_in c point.End at)) second.state)
  fork_begun test at s first second t q1 q2 =
      let low = s.calls in
      let high = second.state.calls in
      emit_begun kept hidden low (tree.fork test (piece_row first.value.pieces) (piece_row second.value.pieces) (point_in c point.End at)) second.state
      (fork_good kept hidden test first.value.pieces second.value.pieces (point_in c point.End at) t q1.first q2.first q1.within.good q2.within.good)
      (widen low first.state.calls low high first.value.pieces (le_refl low) q2.within.later q1.within.ends, widen first.state.calls high low high second.value.pieces q1.within.later (le_refl high) q2.within.ends)

  mutual
    pub statement_begun : (labels b d : Bool) (stmt : CoreStmtTree) (tail : Bool) → JumpsFit labels b d stmt → (s : State) → Ready hidden c s → Stands labels s (statement g c stmt tail s)
    statement_begun labels b d (core.block objects body) tail h s r = plain labels s _ ((statements_begun false b d body tail h s r).1 refl)
    statement_begun labels b d (core.declare object init) tail h s r = plain labels s _ (declare_begun kept g callees fit c hidden object init s r)
    statement_begun labels b d (core.act list) tail h s r = plain labels s _ (actions_begun kept g callees fit c hidden list s r)
    statement_begun labels b d (core.if_ test body other at) tail h s r =
        let x = expression g c test s in
        let q0 = expression_begun kept g callees fit c test hidden s r in
        let r1 = ready_more hidden c s x.state q0.more r in
        let first = branch c at (statement g c body tail) x.state in
        let q1 = marked_within point.Arm at (statement g c body tail) (λ s1 r2. (statement_begun false b d body tail h.0 s1 r2).1 refl) x.state r1 in
        let second = other_branch g c other tail first.state in
        let q2 = other_begun b d other tail h.1 first.state (ready_more hidden c x.state first.state q1.within.more r1) in
        let low = x.state.calls in
        plain labels s _ (then_at kept hidden s.calls s x _ (le_refl s.calls) q0
        (then_quiet kept hidden low x.state first _ q1.within.none (outside_begun kept hidden hidden low x.state first q1.within)
        (then_quiet kept hidden low first.state second _ q2.within.none (outside_begun kept hidden hidden low first.state second q2.within) (fork_begun x.value at x.state first second q0.value q1 q2))))
    statement_begun labels b d (core.switch_ test objects body at) tail h s r =
        let x = expression g c test s in
        let q0 = expression_begun kept g callees fit c test hidden s r in
        let r1 = ready_more hidden c s x.state q0.more r in
        let main = inside_switch (statements g c body false) x.state in
        let start = record x.state { made = 0 } in
        let q = switch_begun kept hidden (statements g c body false) x.state (statements_begun true true d body false h start (ready_more hidden c x.state start (le_refl (length x.state.variables)) r1)).0 in
        let low = x.state.calls in
        plain labels s _ (then_at kept hidden s.calls s x _ (le_refl s.calls) q0
        (then_quiet kept hidden low x.state main _ q.none (switch_outside kept hidden low x.state main q)
        (emit_begun kept hidden low (tree.pick x.value main.value.1 (piece_row main.value.0) (point_in c point.End at)) main.state (switch_good kept hidden x.value main.value.1 main.value.0 (point_in c point.End at) q0.value q.targets q.arms) q.ends)))
    statement_begun labels b d (core.case_ value body at) tail h s r =
        let named = labelled c value at s in
        let q = label_begun kept hidden value (point_in c point.Arm at) s in (
          arms_then kept hidden s named (λ u s1. statement g c body false s1) q (statement_begun labels b d body false h.1 named.state (ready_more hidden c s named.state q.more r)).0,
          λ e. absurd (false≢true (sym e ∙ h.0)),
        )
    statement_begun labels b d (core.while_ test body at) tail h s r = plain labels s _ (repeat_begun false (Some test) (statement g c body false) [] at (λ s1 r1. (statement_begun false true true body false h s1 r1).1 refl) s r)
    statement_begun labels b d (core.do_ body test at) tail h s r = plain labels s _ (repeat_begun true (Some test) (statement g c body false) [] at (λ s1 r1. (statement_begun false true true body false h s1 r1).1 refl) s r)
    statement_begun labels b d (core.for_ objects init test steps body at) tail h s r =
        plain labels s _ (then_there kept hidden c s r (statements g c init false s) (λ u s1. repeat g c false test (statement g c body false) steps at s1) (init_begun init h.0 s r)
        (λ u w s1 r1. repeat_begun false test (statement g c body false) steps at (λ s2 r2. (statement_begun false true true body false h.1 s2 r2).1 refl) s1 r1))
    statement_begun labels b d core.break_ tail h s r = plain labels s _ (emit_begun kept hidden s.calls tree.break_ s (λ lands h a apart b. tt) tt)
    statement_begun labels b d core.continue_ tail h s r = plain labels s _ (emit_begun kept hidden s.calls tree.next_ s (λ lands h a apart b. tt) tt)
    statement_begun labels b d (core.return_ value) tail h s r = plain labels s _ (returned_begun kept g callees fit c hidden value tail s r)

    other_begun : (b d : Bool) (other : CoreElseTree) (tail : Bool) → ElseJumpsFit b d other → (s : State) → Ready hidden c s → MaybeMarked kept hidden s (other_branch g c other tail s)
    other_begun b d core.no_else tail h s r = nothing_within s
    other_begun b d (core.else_ at body) tail h s r =
        let q = marked_within point.Arm at (statement g c body tail) (λ s1 r1. (statement_begun false b d body tail h s1 r1).1 refl) s r in
        record { within = q.within; first = any_if (branch c at (statement g c body tail) s).value.pieces q.first }

    pub statements_begun : (labels b d : Bool) (body : CoreStmtTrees) (tail : Bool) → AllJumpsFit labels b d body → (s : State) → Ready hidden c s → Stands labels s (statements g c body tail s)
    statements_begun labels b d core.no_stmt tail h s r = plain labels s _ (gives_begun kept hidden s.calls tt tt s)
    statements_begun labels b d (core.more_stmts first rest) tail h s r =
        let x = statement g c first (tail && is_empty rest) s in
        let one = statement_begun labels b d first (tail && is_empty rest) h.0 s r in
        let others = statements_begun labels b d rest tail h.1 x.state (ready_more hidden c s x.state one.0.more r) in
        (arms_then kept hidden s x (λ u s1. statements g c rest tail s1) one.0 others.0, λ e. then_at kept hidden s.calls s x (λ u s1. statements g c rest tail s1) (le_refl s.calls) (one.1 e) (others.1 e))
