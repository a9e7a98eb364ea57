-- Statements become pieces that set no table.
use Rattle.std.proofs.Common.{ℕ, Bool, true, false, ◌&&◌, List, [], Option, Some}
use Rattle.hls_base.specs.declared.place.Place.{Place}
use Rattle.hls_base.specs.declared.point.PointKind.{PointKind}
use Rattle.hls_base.specs.declared.point.PointKind.TheVariants as point
use Rattle.pieces.specs.Resolved.Core as core
use Rattle.pieces.specs.Resolved.Core.{CoreTree, CoreActionTree, CoreStmtTree, CoreStmtTrees, CoreElseTree}
use Rattle.pieces.specs.Trees as tree
use Rattle.pieces.specs.Trees.{PureTree, piece_row}
use Rattle.piece_making.specs.Leaving.{is_empty}
use Rattle.piece_making.specs.Making.{State, Part, gives, then_, inside}
use Rattle.piece_making.specs.Calls.{Call, point_in}
use Rattle.c_expand.specs.Expressions.{Callee}
use Rattle.c_expand.specs.Statements.{marked, tested, stepped, branch, switched, repeat, statement, other_branch, statements}
use Rattle.expanded_programs.specs.Statements.Scopes.{Setting, Reach, IsSoundIn, TestSound, ActionsSound, StmtSound, ElseSound, StmtsSound, enter, behind, behind_all}
use Rattle.expanded_programs.specs.Statements.Each.{IfThere, EachAction, InStmt, InElse, InStmts}
use Rattle.source_validity.specs.KeptTables.Worlds.{World, Knows, Makes, MakesLater, Whatever, Inside}
use Rattle.source_validity.specs.KeptTables.Standing.{Stands}
use Rattle.source_validity.proofs.KeptTables.Parts.{later_both, pieces_later, then_makes, gives_makes, known, emit_makes, label_makes, loop_makes, inside_makes, switch_makes}
use Rattle.source_validity.proofs.KeptTables.Names.{stands_later}
use Rattle.source_validity.proofs.KeptTables.Actions.{Nowhere, KeepsIn, CalleesKeep, StandsAt, marked_makes, evaluated, actions_make, declare_makes, tested_makes, stepped_makes, returned_makes}

module _ (S : Setting) (c : Call) (g : Callee) (calls : CalleesKeep S c g) where
  -- pieces behind a mark, in a list of their own
  marked_inside : {A : Type 0} (kind : PointKind) (at : Place) (part : State → Part A) (s : State) → World s → MakesLater Whatever s part → Makes (Inside Whatever) s (inside (λ s0. then_ (marked c kind at s0) (λ u s1. part s1)) s)
  marked_inside kind at part s w h =
      inside_makes (λ s0. then_ (marked c kind at s0) (λ u s1. part s1)) s w (λ s0 w0 l0. then_makes (marked_makes c kind at s0 w0) (λ u s1 w1 l1 v. h s1 w1 (later_both l0 l1)))

  repeat_makes : (r : Reach) (post : Bool) (test : Option CoreTree) (body : State → Part (Unit {0})) (steps : List CoreActionTree) (at : Place) (s : State) → World s → Stands S c r s → TestSound S r test → IfThere (KeepsIn S) Nowhere test → MakesLater Whatever s body
      → ActionsSound S r steps → EachAction (KeepsIn S) Nowhere steps → Makes Whatever s (repeat g c post test body steps at s)
  repeat_makes r post test body steps at s w h sound t makes sounds ts =
      then_makes (loop_makes s w)
      (λ id s1 w1 l1 a. then_makes (marked_inside point.Test at (λ s5. tested g c test s5) s1 w1 (λ s5 w5 l5. tested_makes S c g calls r test s5 w5 (stands_later S c r s s5 h (later_both l1 l5)) sound t))
      (λ before s2 w2 l2 b. then_makes (marked_inside point.Body at body s2 w2 (λ s5 w5 l5. makes s5 w5 (later_both l1 (later_both l2 l5))))
      (λ main s3 w3 l3 d. then_makes
      (inside_makes (stepped g c steps at) s3 w3 (λ s5 w5 l5. stepped_makes S c g calls r steps at s5 w5 (stands_later S c r s s5 h (later_both l1 (later_both l2 (later_both l3 l5)))) sounds ts))
      (λ last s4 w4 l4 e.
      (let l = later_both l3 l4 in
      emit_makes (tree.repeat_ id post (piece_row before.pieces) before.value (piece_row main.pieces) (piece_row last.pieces) (point_in c point.End at)) s4 w4
      (λ more q. (pieces_later l before.pieces b.0 more q, pieces_later l4 main.pieces d.0 more q, e.0 more q)))))))

  switched_makes : (r : Reach) (test : CoreTree) (body : State → Part (Unit {0})) (at : Place) (s : State) → World s → Stands S c r s → IsSoundIn S r test → KeepsIn S test → MakesLater Whatever s body → Makes Whatever s (switched g c test body at s)
  switched_makes r test body at s w h sound t makes =
      then_makes (evaluated S c g calls r test s w h sound t)
      (λ x s1 w1 l1 v. then_makes (switch_makes body s1 w1 (λ s5 w5 l5. makes s5 w5 (later_both l1 l5)))
      (λ main s2 w2 l2 a. emit_makes (tree.pick x main.1 (piece_row main.0) (point_in c point.End at)) s2 w2 a))

  pub entered : (r : Reach) (objects : List ℕ) (s : State) → Stands S c r s → Stands S c (enter objects r) s
  entered r objects s h = record { file = h.file; own = h.own; ready = h.ready; objects = h.objects }

  -- names stand for the same behind a part that declares nothing
  unchanged : (r : Reach) (s : State) {V : Knows (Unit {0})} {part : Part (Unit {0})} → Stands S c r s → Makes V s part → Makes (StandsAt S c g calls r) s part
  unchanged r s h part = known part (λ s1 l v. stands_later S c r s s1 h l)

  anything : {V : Knows (Unit {0})} {s : State} {part : Part (Unit {0})} → Makes V s part → Makes Whatever s part
  anything part = known part (λ s1 l v. tt)

  branch_makes : (at : Place) (body : State → Part (Unit {0})) (s : State) → World s → MakesLater Whatever s body → Makes (Inside Whatever) s (branch c at body s)
  branch_makes at body s w h = marked_inside point.Arm at body s w h

  mutual
    pub statement_makes : (r : Reach) (Own : ℕ → Type 0) (labels breaks continues : Bool) (stmt : CoreStmtTree) (tail : Bool) (s : State) → World s → Stands S c r s → StmtSound S r Own labels breaks continues stmt → InStmt (KeepsIn S) Nowhere stmt
        → Makes (StandsAt S c g calls (behind stmt r)) s (statement g c stmt tail s)
    statement_makes r Own labels breaks continues (core.block objects body) tail s w h sound t =
        unchanged r s h (statements_make (enter objects r) _ false breaks continues body tail s w (entered r objects s h) sound.1 t)
    statement_makes r Own labels breaks continues (core.declare object init) tail s w h sound t = declare_makes S c g calls r object init s w h sound.4 t.1
    statement_makes r Own labels breaks continues (core.act list) tail s w h sound t = unchanged r s h (actions_make S c g calls r list s w h sound t)
    statement_makes r Own labels breaks continues (core.if_ test body other at) tail s w h sound t =
        unchanged r s h (then_makes (evaluated S c g calls r test s w h sound.0 t.0)
        (λ x s1 w1 l1 v. then_makes (branch_makes at (statement g c body tail) s1 w1 (λ s2 w2 l2. anything (statement_makes r _ false breaks continues body tail s2 w2 (stands_later S c r s s2 h (later_both l1 l2)) sound.1 t.1)))
        (λ first s2 w2 l2 a. then_makes (other_makes r breaks continues other tail s2 w2 (stands_later S c r s s2 h (later_both l1 l2)) sound.2 t.2)
        (λ second s3 w3 l3 b. emit_makes (tree.fork x (piece_row first.pieces) (piece_row second.pieces) (point_in c point.End at)) s3 w3 (λ more q. (pieces_later l3 first.pieces a.0 more q, b.0 more q))))))
    statement_makes r Own labels breaks continues (core.switch_ test objects body at) tail s w h sound t =
        unchanged r s h (switched_makes r test (statements g c body false) at s w h sound.0 t.0
        (λ s1 w1 l1. anything (statements_make (enter objects r) _ true true continues body false s1 w1 (entered r objects s1 (stands_later S c r s s1 h l1)) sound.2 t.1)))
    statement_makes r Own labels breaks continues (core.case_ value body at) tail s w h sound t =
        unchanged r s h (then_makes (then_makes (label_makes value s w) (λ u s1 w1 l1 v. marked_makes c point.Arm at s1 w1))
        (λ u s1 w1 l1 v. statement_makes r _ labels breaks continues body false s1 w1 (stands_later S c r s s1 h l1) sound.1 t))
    statement_makes r Own labels breaks continues (core.while_ test body at) tail s w h sound t =
        unchanged r s h (repeat_makes r false (Some test) (statement g c body false) [] at s w h sound.0 t.0 (λ s1 w1 l1. anything (statement_makes r _ false true true body false s1 w1 (stands_later S c r s s1 h l1) sound.1 t.1)) tt tt)
    statement_makes r Own labels breaks continues (core.do_ body test at) tail s w h sound t =
        unchanged r s h (repeat_makes r true (Some test) (statement g c body false) [] at s w h sound.0 t.0 (λ s1 w1 l1. anything (statement_makes r _ false true true body false s1 w1 (stands_later S c r s s1 h l1) sound.1 t.1)) tt tt)
    statement_makes r Own labels breaks continues (core.for_ objects init test steps body at) tail s w h sound t =
        let inner = behind_all init (enter objects r) in
        unchanged r s h (then_makes (statements_make (enter objects r) _ false false false init false s w (entered r objects s h) sound.1.1 t.0)
        (λ u s1 w1 l1 now. repeat_makes inner false test (statement g c body false) steps at s1 w1 now sound.2 t.1
        (λ s2 w2 l2. anything (statement_makes inner _ false true true body false s2 w2 (stands_later S c inner s1 s2 now l2) sound.4 t.3)) sound.3 t.2))
    statement_makes r Own labels breaks continues core.break_ tail s w h sound t = unchanged r s h (emit_makes tree.break_ s w (λ more q. tt))
    statement_makes r Own labels breaks continues core.continue_ tail s w h sound t = unchanged r s h (emit_makes tree.next_ s w (λ more q. tt))
    statement_makes r Own labels breaks continues (core.return_ value) tail s w h sound t = unchanged r s h (returned_makes S c g calls r value tail s w h sound t)

    other_makes : (r : Reach) (breaks continues : Bool) (other : CoreElseTree) (tail : Bool) (s : State) → World s → Stands S c r s → ElseSound S r breaks continues other → InElse (KeepsIn S) Nowhere other → Makes (Inside Whatever) s (other_branch g c other tail s)
    other_makes r breaks continues core.no_else tail s w h sound t = inside_makes (λ s0. gives tt s0) s w (λ s1 w1 l1. gives_makes w1 tt)
    other_makes r breaks continues (core.else_ at body) tail s w h sound t = branch_makes at (statement g c body tail) s w (λ s1 w1 l1. anything (statement_makes r _ false breaks continues body tail s1 w1 (stands_later S c r s s1 h l1) sound t))

    pub statements_make : (r : Reach) (Own : ℕ → Type 0) (labels breaks continues : Bool) (body : CoreStmtTrees) (tail : Bool) (s : State) → World s → Stands S c r s → StmtsSound S r Own labels breaks continues body → InStmts (KeepsIn S) Nowhere body
        → Makes (StandsAt S c g calls (behind_all body r)) s (statements g c body tail s)
    statements_make r Own labels breaks continues core.no_stmt tail s w h sound t = gives_makes w h
    statements_make r Own labels breaks continues (core.more_stmts first rest) tail s w h sound t =
        then_makes (statement_makes r Own labels breaks continues first (tail && is_empty rest) s w h sound.0 t.0) (λ u s1 w1 l1 now. statements_make (behind first r) Own labels breaks continues rest tail s1 w1 now sound.1 t.1)
