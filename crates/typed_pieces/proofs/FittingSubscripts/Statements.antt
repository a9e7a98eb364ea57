-- Statements make pieces whose subscripts fit.
use Rattle.std.proofs.Common.{ℕ, Bool, true, false, ◌&&◌, List, [], Option, Some}
use Rattle.hls_base.specs.declared.place.Place.{Place}
use Rattle.hls_base.specs.declared.point.PointKind.{PointKind}
use Rattle.hls_base.specs.declared.point.PointKind.TheVariants as point
use Rattle.pieces.specs.Resolved.Core as core
use Rattle.pieces.specs.Resolved.Core.{CoreTree, CoreActionTree, CoreStmtTree, CoreStmtTrees, CoreElseTree}
use Rattle.pieces.specs.Trees as tree
use Rattle.pieces.specs.Trees.{PureTree, piece_row}
use Rattle.piece_making.specs.Leaving.{is_empty}
use Rattle.piece_making.specs.Making.{State, Part, gives, then_, inside}
use Rattle.piece_making.specs.Calls.{Call, point_in}
use Rattle.c_expand.specs.Expressions.{Callee}
use Rattle.c_expand.specs.Statements.{marked, tested, stepped, branch, switched, repeat, statement, other_branch, statements}
use Rattle.expanded_programs.specs.Statements.Scopes.{Setting, Reach, IsSoundIn, TestSound, ActionsSound, StmtSound, ElseSound, StmtsSound, enter, behind, behind_all}
use Rattle.expanded_programs.specs.Statements.Each.{IfThere, EachAction, InStmt, InElse, InStmts}
use Rattle.typed_pieces.specs.FittingSubscripts.Worlds.{World, Knows, Makes, MakesLater, Value, Inside, Anything}
use Rattle.typed_pieces.specs.FittingSubscripts.Standing.{Stands}
use Rattle.typed_pieces.proofs.FittingSubscripts.Parts.{Stays, later_both, fits_later, pieces_later, then_makes, gives_makes, known, emit_makes, label_makes, loop_makes, inside_makes, switch_makes}
use Rattle.typed_pieces.proofs.FittingSubscripts.Names.{stands_later}
use Rattle.typed_pieces.proofs.FittingSubscripts.Actions.{Nowhere, FitsIn, CalleesFit, StandsAt, marked_makes, evaluated, actions_make, declare_makes, tested_makes, stepped_makes, returned_makes}

nothing_stays : Stays Anything
nothing_stays s w s1 w1 u l h = tt

test_stays : Stays Value
test_stays s w s1 w1 x l h = fits_later l x h

module _ (S : Setting) (c : Call) (g : Callee) (calls : CalleesFit S c g) where
  -- pieces behind a mark, in a list of their own
  marked_inside : {A : Type 0} {V : Knows A} (kind : PointKind) (at : Place) (part : State → Part A) (s : State) (w : World s) → Stays V → MakesLater V s w part → Makes (Inside V) s w (inside (λ s0. then_ (marked c kind at s0) (λ u s1. part s1)) s)
  marked_inside kind at part s w stays h =
      inside_makes (λ s0. then_ (marked c kind at s0) (λ u s1. part s1)) s w stays (λ s0 w0 l0. then_makes (marked_makes c kind at s0 w0) (λ u s1 w1 l1 v. h s1 w1 (later_both l0 l1)))

  repeat_makes : (r : Reach) (post : Bool) (test : Option CoreTree) (body : State → Part (Unit {0})) (steps : List CoreActionTree) (at : Place) (s : State) (w : World s) → Stands S c r s w → TestSound S r test → IfThere (FitsIn S) Nowhere test → MakesLater Anything s w body
      → ActionsSound S r steps → EachAction (FitsIn S) Nowhere steps → Makes Anything s w (repeat g c post test body steps at s)
  repeat_makes r post test body steps at s w h sound t makes sounds ts =
      then_makes (loop_makes s w)
      (λ id s1 w1 l1 a. then_makes (marked_inside point.Test at (λ s5. tested g c test s5) s1 w1 test_stays (λ s5 w5 l5. tested_makes S c g calls r test s5 w5 (stands_later S c r s w s5 w5 h (later_both l1 l5)) sound t))
      (λ before s2 w2 l2 b. then_makes (marked_inside point.Body at body s2 w2 nothing_stays (λ s5 w5 l5. makes s5 w5 (later_both l1 (later_both l2 l5))))
      (λ main s3 w3 l3 d. then_makes
      (inside_makes (stepped g c steps at) s3 w3 nothing_stays (λ s5 w5 l5. stepped_makes S c g calls r steps at s5 w5 (stands_later S c r s w s5 w5 h (later_both l1 (later_both l2 (later_both l3 l5)))) sounds ts))
      (λ last s4 w4 l4 e.
      (let l = later_both l3 l4 in
      emit_makes (tree.repeat_ id post (piece_row before.pieces) before.value (piece_row main.pieces) (piece_row last.pieces) (point_in c point.End at)) s4 w4
      (pieces_later l before.pieces b.0, fits_later l before.value b.1, pieces_later l4 main.pieces d.0, e.0))))))

  switched_makes : (r : Reach) (test : CoreTree) (body : State → Part (Unit {0})) (at : Place) (s : State) (w : World s) → Stands S c r s w → IsSoundIn S r test → FitsIn S test → MakesLater Anything s w body → Makes Anything s w (switched g c test body at s)
  switched_makes r test body at s w h sound t makes =
      then_makes (evaluated S c g calls r test s w h sound t)
      (λ x s1 w1 l1 v. then_makes (switch_makes body s1 w1 (λ s5 w5 l5. makes s5 w5 (later_both l1 l5)))
      (λ main s2 w2 l2 a. emit_makes (tree.pick x main.1 (piece_row main.0) (point_in c point.End at)) s2 w2 (fits_later l2 x v, a)))

  pub entered : (r : Reach) (objects : List ℕ) (s : State) (w : World s) → Stands S c r s w → Stands S c (enter objects r) s w
  entered r objects s w h = record { file = h.file; own = h.own; ready = h.ready; objects = h.objects }

  -- names stand for the same behind a part that declares nothing
  unchanged : (r : Reach) (s : State) (w : World s) {V : Knows (Unit {0})} {part : Part (Unit {0})} → Stands S c r s w → Makes V s w part → Makes (StandsAt S c g calls r) s w part
  unchanged r s w h part = known part (λ s1 w1 l v. stands_later S c r s w s1 w1 h l)

  anything : {V : Knows (Unit {0})} {s : State} {w : World s} {part : Part (Unit {0})} → Makes V s w part → Makes Anything s w part
  anything part = known part (λ s1 w1 l v. tt)

  branch_makes : (at : Place) (body : State → Part (Unit {0})) (s : State) (w : World s) → MakesLater Anything s w body → Makes (Inside Anything) s w (branch c at body s)
  branch_makes at body s w h = marked_inside point.Arm at body s w nothing_stays h

  mutual
    pub statement_makes : (r : Reach) (Own : ℕ → Type 0) (labels breaks continues : Bool) (stmt : CoreStmtTree) (tail : Bool) (s : State) (w : World s) → Stands S c r s w → StmtSound S r Own labels breaks continues stmt → InStmt (FitsIn S) Nowhere stmt
        → Makes (StandsAt S c g calls (behind stmt r)) s w (statement g c stmt tail s)
    statement_makes r Own labels breaks continues (core.block objects body) tail s w h sound t =
        unchanged r s w h (statements_make (enter objects r) _ false breaks continues body tail s w (entered r objects s w h) sound.1 t)
    statement_makes r Own labels breaks continues (core.declare object init) tail s w h sound t = declare_makes S c g calls r object init s w h sound.4 t.1
    statement_makes r Own labels breaks continues (core.act list) tail s w h sound t = unchanged r s w h (actions_make S c g calls r list s w h sound t)
    statement_makes r Own labels breaks continues (core.if_ test body other at) tail s w h sound t =
        unchanged r s w h (then_makes (evaluated S c g calls r test s w h sound.0 t.0)
        (λ x s1 w1 l1 v. then_makes (branch_makes at (statement g c body tail) s1 w1 (λ s2 w2 l2. anything (statement_makes r _ false breaks continues body tail s2 w2 (stands_later S c r s w s2 w2 h (later_both l1 l2)) sound.1 t.1)))
        (λ first s2 w2 l2 a. then_makes (other_makes r breaks continues other tail s2 w2 (stands_later S c r s w s2 w2 h (later_both l1 l2)) sound.2 t.2)
        (λ second s3 w3 l3 b. emit_makes (tree.fork x (piece_row first.pieces) (piece_row second.pieces) (point_in c point.End at)) s3 w3 (fits_later l3 x (fits_later l2 x v), pieces_later l3 first.pieces a.0, b.0)))))
    statement_makes r Own labels breaks continues (core.switch_ test objects body at) tail s w h sound t =
        unchanged r s w h (switched_makes r test (statements g c body false) at s w h sound.0 t.0
        (λ s1 w1 l1. anything (statements_make (enter objects r) _ true true continues body false s1 w1 (entered r objects s1 w1 (stands_later S c r s w s1 w1 h l1)) sound.2 t.1)))
    statement_makes r Own labels breaks continues (core.case_ value body at) tail s w h sound t =
        unchanged r s w h (then_makes (then_makes (label_makes value s w) (λ u s1 w1 l1 v. marked_makes c point.Arm at s1 w1))
        (λ u s1 w1 l1 v. statement_makes r _ labels breaks continues body false s1 w1 (stands_later S c r s w s1 w1 h l1) sound.1 t))
    statement_makes r Own labels breaks continues (core.while_ test body at) tail s w h sound t =
        unchanged r s w h (repeat_makes r false (Some test) (statement g c body false) [] at s w h sound.0 t.0 (λ s1 w1 l1. anything (statement_makes r _ false true true body false s1 w1 (stands_later S c r s w s1 w1 h l1) sound.1 t.1)) tt tt)
    statement_makes r Own labels breaks continues (core.do_ body test at) tail s w h sound t =
        unchanged r s w h (repeat_makes r true (Some test) (statement g c body false) [] at s w h sound.0 t.0 (λ s1 w1 l1. anything (statement_makes r _ false true true body false s1 w1 (stands_later S c r s w s1 w1 h l1) sound.1 t.1)) tt tt)
    statement_makes r Own labels breaks continues (core.for_ objects init test steps body at) tail s w h sound t =
        let inner = behind_all init (enter objects r) in
        unchanged r s w h (then_makes (statements_make (enter objects r) _ false false false init false s w (entered r objects s w h) sound.1.1 t.0)
        (λ u s1 w1 l1 now. repeat_makes inner false test (statement g c body false) steps at s1 w1 now sound.2 t.1
        (λ s2 w2 l2. anything (statement_makes inner _ false true true body false s2 w2 (stands_later S c inner s1 w1 s2 w2 now l2) sound.4 t.3)) sound.3 t.2))
    statement_makes r Own labels breaks continues core.break_ tail s w h sound t = unchanged r s w h (emit_makes tree.break_ s w tt)
    statement_makes r Own labels breaks continues core.continue_ tail s w h sound t = unchanged r s w h (emit_makes tree.next_ s w tt)
    statement_makes r Own labels breaks continues (core.return_ value) tail s w h sound t = unchanged r s w h (returned_makes S c g calls r value tail s w h sound t)

    other_makes : (r : Reach) (breaks continues : Bool) (other : CoreElseTree) (tail : Bool) (s : State) (w : World s) → Stands S c r s w → ElseSound S r breaks continues other → InElse (FitsIn S) Nowhere other → Makes (Inside Anything) s w (other_branch g c other tail s)
    other_makes r breaks continues core.no_else tail s w h sound t = inside_makes (λ s0. gives tt s0) s w nothing_stays (λ s1 w1 l1. gives_makes tt)
    other_makes r breaks continues (core.else_ at body) tail s w h sound t = branch_makes at (statement g c body tail) s w (λ s1 w1 l1. anything (statement_makes r _ false breaks continues body tail s1 w1 (stands_later S c r s w s1 w1 h l1) sound t))

    pub statements_make : (r : Reach) (Own : ℕ → Type 0) (labels breaks continues : Bool) (body : CoreStmtTrees) (tail : Bool) (s : State) (w : World s) → Stands S c r s w → StmtsSound S r Own labels breaks continues body → InStmts (FitsIn S) Nowhere body
        → Makes (StandsAt S c g calls (behind_all body r)) s w (statements g c body tail s)
    statements_make r Own labels breaks continues core.no_stmt tail s w h sound t = gives_makes h
    statements_make r Own labels breaks continues (core.more_stmts first rest) tail s w h sound t =
        then_makes (statement_makes r Own labels breaks continues first (tail && is_empty rest) s w h sound.0 t.0) (λ u s1 w1 l1 now. statements_make (behind first r) Own labels breaks continues rest tail s1 w1 now sound.1 t.1)
