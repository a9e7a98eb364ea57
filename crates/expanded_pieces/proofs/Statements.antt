-- The pieces of statements fit.
use Rattle.std.proofs.Common.{◌≡◌, ◌∙◌, ℕ, Bool, true, false, not, ◌&&◌, ◌||◌, List, [], refl, ap, sym, Option, Some}
use Rattle.std.proofs.lemmas.Bool.{false≢true}
use Rattle.hls_base.specs.declared.place.Place.{Place}
use Rattle.hls_base.specs.declared.point.PointKind.{PointKind}
use Rattle.hls_base.specs.declared.point.PointKind.TheVariants as point
use Rattle.pieces.specs.Resolved.Core as core
use Rattle.pieces.specs.Resolved.Core.{CoreTree, CoreActionTree, CoreStmtTree, CoreStmtTrees, CoreElseTree}
use Rattle.pieces.specs.Trees as tree
use Rattle.pieces.specs.Trees.{PieceTree, PieceTrees, piece_row}
use Rattle.piece_making.specs.Making.{State, Part, gives, then_, inside, inside_switch, label, next_loop}
use Rattle.piece_making.specs.Leaving.{is_empty, leaves, else_leaves, any_leaves}
use Rattle.piece_making.specs.Calls.{Call, point_in}
use Rattle.c_expand.specs.Expressions.{Callee, expression}
use Rattle.c_expand.specs.Statements.{marked, tested, stepped, loop_body, repeat, branch, labelled, statement, other_branch, statements}
use Rattle.ir_layout.specs.WellFormed.{Inside, in_body, in_step, in_arm}
use Rattle.pass_runs.specs.LowerRuns.LoweredTrees.Fitting.{StepIsThere}
use Rattle.expanded_pieces.specs.Lengths.{EachObject}
use Rattle.expanded_pieces.specs.Jumps.{Begins, JumpsFit, ElseJumpsFit, AllJumpsFit}
use Rattle.expanded_pieces.proofs.Parts.{Needs, Meets, Fits, FitsThere, Within, gives_fits, then_at, then_fits, emit_fits, loop_fits, inside_fits}
use Rattle.expanded_pieces.proofs.Expressions.{CalleesFit, expression_fits}
use Rattle.expanded_pieces.proofs.Actions.{marked_fits, actions_fit, declare_fits, tested_fits, stepped_fits, returned_fits}
use Rattle.expanded_pieces.proofs.Arms.{ArmFits, arm_of, arms_then, label_fits, switch_fits}

or_first : (a b : Bool) → a ≡ true → (a || b) ≡ true
or_first a b e = ap (λ c. c || b) e

or_second : (a b : Bool) → b ≡ true → (a || b) ≡ true
or_second true b e = refl
or_second false b e = e

-- nothing is needed, or a loop, a switch or the end of a call is there
abbrev pub needs : Bool → Bool → Bool → ℕ → Needs
needs breaks continues leaves call = record { breaks = breaks; continues = continues; leaves = leaves; call = call }

abbrev pub nothing : Needs
nothing = needs false false false 0

pub meets_nothing : (inside : Inside) → Meets nothing inside
meets_nothing inside = record { leave = λ e. absurd (false≢true e); again = λ e. absurd (false≢true e); lands = λ e. absurd (false≢true e) }

module _ (Q : List ℕ → Type 0) (g : Callee) (callees : CalleesFit Q g) (c : Call) (objects : EachObject Q c.objects) where
  -- what a statement of the call may need
  abbrev pub here : Bool → Bool → Bool → Needs
  here breaks continues leaves = needs breaks continues leaves c.call.0

  meets_body : (b d l : Bool) (inside : Inside) → Meets (here b d l) inside → Meets (here true true l) (in_body inside)
  meets_body b d l inside m = record { leave = λ e. refl; again = λ e. refl; lands = m.lands }

  meets_arm : (b d l : Bool) (inside : Inside) → Meets (here b d l) inside → Meets (here true d l) (in_arm inside)
  meets_arm b d l inside m = record { leave = λ e. refl; again = m.again; lands = m.lands }

  -- ---- parts with a mark before them

  marked_within : {A : Type 0} (n m : Needs) (kind : PointKind) (at : Place) (part : State → Part A) → FitsThere Q n part → (s : State) → Within Q n m s (inside (λ s0. then_ (marked c kind at s0) (λ u s1. part s1)) s)
  marked_within n m kind at part h s =
      inside_fits Q n m (λ s0. then_ (marked c kind at s0) (λ u s1. part s1)) (λ s0. then_fits Q n s0 (marked c kind at s0) (λ u s1. part s1) (marked_fits Q n g callees c objects kind at s0) (λ u s1. h s1)) s

  -- a loop whose body comes first has no step
  no_step : (post : Bool) (steps : List CoreActionTree) (at : Place) (s : State) → (post ≡ true → steps ≡ []) → StepIsThere post (piece_row (inside (stepped g c steps at) s).value.pieces)
  unfolding inside stepped
  no_step false steps at s h = tt
  no_step true steps at s h = ap (λ list. piece_row (inside (stepped g c list at) s).value.pieces) (h refl)

  repeat_fits : (b d l : Bool) (post : Bool) (test : Option CoreTree) (body : State → Part (Unit {0})) (steps : List CoreActionTree) (at : Place) → (post ≡ true → steps ≡ []) → FitsThere Q (here true true l) body → FitsThere Q (here b d l) (repeat g c post test body steps at)
  repeat_fits b d l post test body steps at none h s =
      let n = here b d l in
      let id = next_loop s in
      let s1 = id.state in
      let before = inside (λ s0. then_ (marked c point.Test at s0) (λ u s5. tested g c test s5)) s1 in
      let q1 = marked_within nothing n point.Test at (λ s5. tested g c test s5) (λ s5. tested_fits Q nothing g callees c objects test s5) s1 in
      let main = loop_body c at body before.state in
      let q2 = marked_within (here true true l) n point.Body at body h before.state in
      let last = inside (stepped g c steps at) main.state in
      let q3 = inside_fits Q nothing n (stepped g c steps at) (λ s0. stepped_fits Q nothing g callees c objects steps at s0) main.state in
      let step_there = no_step post steps at main.state none in
      then_at Q n s id _ (loop_fits Q n s)
      (then_at Q n s1 before _ q1.outside
      (then_at Q n before.state main _ q2.outside
      (then_at Q n main.state last _ q3.outside
      (emit_fits Q n (tree.repeat_ id.value post (piece_row before.value.pieces) before.value.value (piece_row main.value.pieces) (piece_row last.value.pieces) (point_in c point.End at))
      (λ i m. (q1.inner _ (meets_nothing _), q2.inner (in_body i) (meets_body b d l i m), q3.inner (in_step i) (meets_nothing (in_step i)), step_there)) last.state))))

  -- ---- statements

  abbrev pub MayLeave : Bool → Bool → Type 0
  MayLeave wants l = wants ≡ true → l ≡ true

  -- declarations and actions
  begun_fits : (n : Needs) (init : CoreStmtTrees) → Begins init → FitsThere Q n (statements g c init false)
  begun_fits n core.no_stmt h s = gives_fits Q n tt s
  begun_fits n (core.more_stmts (core.declare object init) rest) h s = then_fits Q n s _ _ (declare_fits Q n g callees c objects object init s) (λ u s1. begun_fits n rest h.1 s1)
  begun_fits n (core.more_stmts (core.act list) rest) h s = then_fits Q n s _ _ (actions_fit Q n g callees c objects list s) (λ u s1. begun_fits n rest h.1 s1)
  begun_fits n (core.more_stmts (core.block objects body) rest) h s = absurd h.0
  begun_fits n (core.more_stmts (core.if_ test body other at) rest) h s = absurd h.0
  begun_fits n (core.more_stmts (core.switch_ test objects body at) rest) h s = absurd h.0
  begun_fits n (core.more_stmts (core.case_ value body at) rest) h s = absurd h.0
  begun_fits n (core.more_stmts (core.while_ test body at) rest) h s = absurd h.0
  begun_fits n (core.more_stmts (core.do_ body test at) rest) h s = absurd h.0
  begun_fits n (core.more_stmts (core.for_ objects init test step body at) rest) h s = absurd h.0
  begun_fits n (core.more_stmts core.break_ rest) h s = absurd h.0
  begun_fits n (core.more_stmts core.continue_ rest) h s = absurd h.0
  begun_fits n (core.more_stmts (core.return_ value) rest) h s = absurd h.0

  not_tail : (tail l : Bool) → (not tail ≡ true → l ≡ true) → tail ≡ false → l ≡ true
  not_tail true l may e = absurd (false≢true (sym e))
  not_tail false l may e = may refl

  -- Its pieces fit in the body of a switch, and anywhere if it has no labels.
  abbrev pub Good : Bool → Needs → (s : State) → Part (Unit {0}) → Type 0
  Good labels n s part = ArmFits Q n s part × (labels ≡ false → Fits Q n s part)

  plain : (labels : Bool) (n : Needs) (s : State) (part : Part (Unit {0})) → Fits Q n s part → Good labels n s part
  plain labels n s part h = (arm_of Q n s part h, λ e. h)

  mutual
    pub statement_fits : (labels b d l : Bool) (stmt : CoreStmtTree) (tail : Bool) → JumpsFit labels b d stmt → MayLeave (leaves stmt tail) l → (s : State) → Good labels (here b d l) s (statement g c stmt tail s)
    statement_fits labels b d l (core.block objects body) tail h may s = plain labels (here b d l) s _ ((statements_fit false b d l body tail h may s).1 refl)
    statement_fits labels b d l (core.declare object init) tail h may s = plain labels (here b d l) s _ (declare_fits Q (here b d l) g callees c objects object init s)
    statement_fits labels b d l (core.act list) tail h may s = plain labels (here b d l) s _ (actions_fit Q (here b d l) g callees c objects list s)
    statement_fits labels b d l (core.if_ test body other at) tail h may s =
        let n = here b d l in
        let x = expression g c test s in
        let first = branch c at (statement g c body tail) x.state in
        let q1 = marked_within n n point.Arm at (statement g c body tail) (λ s1. (statement_fits false b d l body tail h.0 (λ e. may (or_first (leaves body tail) (else_leaves other tail) e)) s1).1 refl) x.state in
        let second = other_branch g c other tail first.state in
        let q2 = other_fits b d l other tail h.1 (λ e. may (or_second (leaves body tail) (else_leaves other tail) e)) first.state in
        plain labels n s _ (then_at Q n s x _ (expression_fits Q n g callees c test s)
        (then_at Q n x.state first _ q1.outside
        (then_at Q n first.state second _ q2.outside
        (emit_fits Q n (tree.fork x.value (piece_row first.value.pieces) (piece_row second.value.pieces) (point_in c point.End at)) (λ i m. (q1.inner i m, q2.inner i m)) second.state))))
    statement_fits labels b d l (core.switch_ test objects body at) tail h may s =
        let n = here b d l in
        let x = expression g c test s in
        let main = inside_switch (statements g c body false) x.state in
        let q = switch_fits Q (here true d l) n (statements g c body false) (λ s1. (statements_fit true true d l body false h may s1).0) x.state in
        plain labels n s _ (then_at Q n s x _ (expression_fits Q n g callees c test s)
        (then_at Q n x.state main _ q.outside (emit_fits Q n (tree.pick x.value main.value.1 (piece_row main.value.0) (point_in c point.End at)) (λ i m. q.inner (in_arm i) (meets_arm b d l i m)) main.state)))
    statement_fits labels b d l (core.case_ value body at) tail h may s =
        let n = here b d l in
        let named = labelled c value at s in
        let m = label value s in (
          arms_then Q n s named _ (arms_then Q n s m _ (label_fits Q n value s) (arm_of Q n m.state (marked c point.Arm at m.state) (marked_fits Q n g callees c objects point.Arm at m.state))) (statement_fits labels b d l body false h.1 may named.state).0,
          λ e. absurd (false≢true (sym e ∙ h.0)),
        )
    statement_fits labels b d l (core.while_ test body at) tail h may s =
        plain labels (here b d l) s _ (repeat_fits b d l false (Some test) (statement g c body false) [] at (λ e. refl) (λ s1. (statement_fits false true true l body false h may s1).1 refl) s)
    statement_fits labels b d l (core.do_ body test at) tail h may s =
        plain labels (here b d l) s _ (repeat_fits b d l true (Some test) (statement g c body false) [] at (λ e. refl) (λ s1. (statement_fits false true true l body false h may s1).1 refl) s)
    statement_fits labels b d l (core.for_ objects init test steps body at) tail h may s =
        plain labels (here b d l) s _ (then_fits Q (here b d l) s (statements g c init false s) (λ u s1. repeat g c false test (statement g c body false) steps at s1) (begun_fits (here b d l) init h.0 s)
        (λ u s1. repeat_fits b d l false test (statement g c body false) steps at (λ e. absurd (false≢true e)) (λ s2. (statement_fits false true true l body false h.1 may s2).1 refl) s1))
    statement_fits labels b d l core.break_ tail h may s = plain labels (here b d l) s _ (emit_fits Q (here b d l) tree.break_ (λ i m. m.leave h) s)
    statement_fits labels b d l core.continue_ tail h may s = plain labels (here b d l) s _ (emit_fits Q (here b d l) tree.next_ (λ i m. m.again h) s)
    statement_fits labels b d l (core.return_ value) tail h may s = plain labels (here b d l) s _ (returned_fits Q (here b d l) g callees c objects value tail (not_tail tail l may) refl s)

    other_fits : (b d l : Bool) (other : CoreElseTree) (tail : Bool) → ElseJumpsFit b d other → MayLeave (else_leaves other tail) l → (s : State) → Within Q (here b d l) (here b d l) s (other_branch g c other tail s)
    other_fits b d l core.no_else tail h may s = inside_fits Q (here b d l) (here b d l) (λ s0. gives tt s0) (λ s0. gives_fits Q (here b d l) tt s0) s
    other_fits b d l (core.else_ at body) tail h may s = marked_within (here b d l) (here b d l) point.Arm at (statement g c body tail) (λ s1. (statement_fits false b d l body tail h may s1).1 refl) s

    pub statements_fit : (labels b d l : Bool) (body : CoreStmtTrees) (tail : Bool) → AllJumpsFit labels b d body → MayLeave (any_leaves body tail) l → (s : State) → Good labels (here b d l) s (statements g c body tail s)
    statements_fit labels b d l core.no_stmt tail h may s = plain labels (here b d l) s _ (gives_fits Q (here b d l) tt s)
    statements_fit labels b d l (core.more_stmts first rest) tail h may s =
        let x = statement g c first (tail && is_empty rest) s in
        let one = statement_fits labels b d l first (tail && is_empty rest) h.0 (λ e. may (or_first (leaves first (tail && is_empty rest)) (any_leaves rest tail) e)) s in
        let others = statements_fit labels b d l rest tail h.1 (λ e. may (or_second (leaves first (tail && is_empty rest)) (any_leaves rest tail) e)) x.state in
        (arms_then Q (here b d l) s x (λ u s1. statements g c rest tail s1) one.0 others.0, λ e. then_at Q (here b d l) s x (λ u s1. statements g c rest tail s1) (one.1 e) (others.1 e))
