-- What statements become is paid for, where calls are: a declaration pays for the variable of its object.
use Rattle.std.proofs.Common.{◌≡◌, ◌≤◌, ℕ, suc, ◌+◌, Bool, true, false, ◌&&◌, arith, refl, sym, subst, List, [], ◌∷◌, Option, Some, None, slice_get}
use Rattle.hls_base.specs.declared.place.Place.{Place}
use Rattle.hls_base.specs.declared.number.VarId.{VarId}
use Rattle.hls_base.specs.declared.number.ArrayId.{ArrayId}
use Rattle.hls_base.specs.declared.point.PointKind.{PointKind}
use Rattle.hls_base.specs.declared.point.PointKind.TheVariants as point
use Rattle.pieces.specs.Resolved.Core as core
use Rattle.pieces.specs.Resolved.Core.{CoreTree, CoreObjectTree, CoreInitTree, CoreActionTree, CoreStmtTree, CoreStmtTrees, CoreElseTree, CoreFunctionTree}
use Rattle.c_meaning.specs.CoreRuns.Statements.{action_tree}
use Rattle.pieces.specs.Trees as tree
use Rattle.pieces.specs.Trees.{PureTree, piece_row}
use Rattle.piece_making.specs.declared.frame.Home.{Home}
use Rattle.piece_making.specs.declared.frame.Home.TheVariants as home
use Rattle.piece_making.specs.Acting.{no_effects, effects}
use Rattle.piece_making.specs.Making.{State, Part, gives, then_, emit, inside}
use Rattle.piece_making.specs.Leaving.{is_empty}
use Rattle.piece_making.specs.Objects.{local_array, array_like, array_weight}
use Rattle.piece_making.specs.Calls.{Call}
use Rattle.piece_making.specs.Assigning.{step, one}
use Rattle.c_expand.specs.Expressions.{Callee, expression, is_call}
use Rattle.c_expand.specs.Statements.{marked, valued, changed, action, actions, item_value, filled, initialised, scalar_declared, declared_as, tested, stepped, repeat, result_variable, result_set, returned, labelled, statement, other_branch, statements, subscripts_at}
use Rattle.expand_runs.specs.Fitting.{CallsFit}
use Rattle.expanded_programs.specs.Statements.Scopes.{Setting, Reach, IsScalar, IsSoundIn, TestSound, ReturnSound, ActionsSound, ItemsSound, InitSound, StmtSound, ElseSound, StmtsSound, enter, reach, behind, behind_all}
use Rattle.program_sizes.specs.DeclaredVariables.Declarations.{declarations_in, else_declarations, declarations}
use Rattle.program_sizes.proofs.DeclaredVariables.Paying.{IsPaid, gives_paid, then_paid, if_paid, eased}
use Rattle.program_sizes.proofs.DeclaredVariables.Parts.{emit_paid, plain_paid, label_paid, declared_paid, inside_paid, switch_paid, array_paid, note_paid, loop_paid}
use Rattle.program_sizes.proofs.DeclaredVariables.Expressions.{FitsParameters, CalleesPaid, expression_paid, target_paid, apply_paid, discarded_paid}

-- ---- objects

-- a variable for a scalar, and a place for an array
abbrev pub IsHomeFor : List ℕ → Option Home → Type 0
IsHomeFor [] (Some (home.Variable own)) = Unit {0}
IsHomeFor (len ∷ lengths) (Some (home.Local slot)) = Unit {0}
IsHomeFor lengths h = ⊥

-- what stands for the objects that are no parameters
abbrev pub HaveHomes : Setting → Call → Type 0
HaveHomes S c = (i : ℕ) (o : CoreObjectTree) → S.params ≤ i → slice_get S.objects i ≡ Some o → (slice_get c.objects i ≡ Some o) × IsHomeFor o.lengths (slice_get c.homes i)

-- an array pays for its declaration
local_array_paid : {o : ℕ} {s : State} (d : CoreObjectTree) → IsPaid (suc o) o s (local_array d s)
local_array_paid d = then_paid (declared_paid (array_weight d.lengths) (omega arith)) (λ counted s1. array_paid (array_like d None None false))

module _ (functions : List CoreFunctionTree) (g : Callee) (c : Call) (callees : CalleesPaid functions g c) (S : Setting) (homes : HaveHomes S c) (fits : (r : Reach) (e : CoreTree) → IsSoundIn S r e → CallsFit (FitsParameters functions) e) where
  value_paid : {o : ℕ} {s : State} (r : Reach) (e : CoreTree) → IsSoundIn S r e → IsPaid o o s (expression g c e s)
  value_paid {o} {s} r e sound = expression_paid functions g c callees o e s (fits r e sound)

  -- ---- actions

  valued_paid : {o : ℕ} {s : State} (e : CoreTree) → CallsFit (FitsParameters functions) e → IsPaid o o s (valued g c e s)
  unfolding valued
  valued_paid {o} {s} e fit = then_paid (expression_paid functions g c callees o e s fit) (λ x s1. discarded_paid (is_call e) x)

  changed_paid : {o : ℕ} {s : State} (e : CoreTree) → CallsFit (FitsParameters functions) e → IsPaid o o s (changed g c e s)
  unfolding changed
  changed_paid {o} {s} (core.assign (core.target cell subscripts k place) op v at) fit =
      then_paid (target_paid functions g c callees o cell subscripts k place (effects v) op at s fit.0) (λ t s1. then_paid (expression_paid functions g c callees o v s1 fit.1) (λ by s2. apply_paid c t by))
  changed_paid {o} {s} (core.bump (core.target cell subscripts k place) up post at) fit = then_paid (target_paid functions g c callees o cell subscripts k place no_effects (step up) at s fit) (λ t s1. apply_paid c t one)
  changed_paid (core.number v k) fit = valued_paid (core.number v k) fit
  changed_paid (core.scalar cell k at) fit = valued_paid (core.scalar cell k at) fit
  changed_paid (core.element name subscripts k at) fit = valued_paid (core.element name subscripts k at) fit
  changed_paid (core.call callee args k at) fit = valued_paid (core.call callee args k at) fit
  changed_paid (core.unary op arg k at) fit = valued_paid (core.unary op arg k at) fit
  changed_paid (core.binary op left right k at) fit = valued_paid (core.binary op left right k at) fit
  changed_paid (core.choice test left right k at colon) fit = valued_paid (core.choice test left right k at colon) fit
  changed_paid (core.cast to arg) fit = valued_paid (core.cast to arg) fit
  changed_paid (core.comma left right) fit = valued_paid (core.comma left right) fit

  action_paid : {o : ℕ} {s : State} (a : CoreActionTree) → CallsFit (FitsParameters functions) (action_tree a) → IsPaid o o s (action g c a s)
  action_paid (core.change e) fit = changed_paid e fit
  action_paid (core.value e) fit = valued_paid e fit

  actions_paid : {o : ℕ} {s : State} (r : Reach) (list : List CoreActionTree) → ActionsSound S r list → IsPaid o o s (actions g c list s)
  unfolding actions
  actions_paid r [] sound = gives_paid
  actions_paid r (a ∷ rest) sound = then_paid (action_paid a (fits r (action_tree a) sound.0)) (λ u s1. actions_paid r rest sound.1)

  -- ---- declarations

  item_paid : {o : ℕ} {s : State} (r : Reach) (item : Option CoreTree) → TestSound S r item → IsPaid o o s (item_value g c item s)
  item_paid r None sound = gives_paid
  item_paid r (Some e) sound = value_paid r e sound

  filled_paid : {o : ℕ} {s : State} (r : Reach) (array : ArrayId) (lengths : List ℕ) (n : ℕ) (items : List (Option CoreTree)) → ItemsSound S r items → IsPaid o o s (filled g c array lengths n items s)
  filled_paid r array lengths n [] sound = gives_paid
  filled_paid r array lengths n (item ∷ items) sound =
      then_paid (item_paid r item sound.0) (λ x s1. then_paid (plain_paid (tree.put array (subscripts_at lengths n) x c.body_at)) (λ u s2. filled_paid r array lengths (n + 1) items sound.1))

  initialised_paid : {o : ℕ} {s : State} (r : Reach) (d : CoreObjectTree) (array : ArrayId) (lengths : List ℕ) (init : CoreInitTree) → InitSound S r d init → IsPaid o o s (initialised g c array lengths init s)
  initialised_paid r d array lengths core.unwritten sound = gives_paid
  initialised_paid r d array lengths (core.single v) sound = gives_paid
  initialised_paid r d array lengths (core.elements items) sound = filled_paid r array lengths 0 items sound.2

  scalar_paid : {o : ℕ} {s : State} (r : Reach) (d : CoreObjectTree) (name : VarId) (init : CoreInitTree) → IsScalar d → InitSound S r d init → IsPaid (suc o) o s (scalar_declared g c name init s)
  scalar_paid r d name core.unwritten is_scalar sound = declared_paid 1 (omega arith)
  scalar_paid r d name (core.single v) is_scalar sound = then_paid (value_paid r v sound.1) (λ x s1. emit_paid (tree.set name x) (omega arith))
  scalar_paid r d name (core.elements items) is_scalar sound = absurd (sound.0 is_scalar)

  declared_as_paid : {o : ℕ} {s : State} (r : Reach) (d : CoreObjectTree) (lengths : List ℕ) (at : Option Home) (init : CoreInitTree) → d.lengths ≡ lengths → IsHomeFor lengths at → InitSound S r d init → IsPaid (suc o) o s (declared_as g c at (Some d) init s)
  declared_as_paid r d [] (Some (home.Variable name)) init e there sound = scalar_paid r d name init e sound
  declared_as_paid r d (len ∷ lengths) (Some (home.Local slot)) init e there sound =
      then_paid (local_array_paid d) (λ array s1. then_paid (note_paid slot array) (λ u s2. initialised_paid r d array d.lengths init sound))
  declared_as_paid r d [] (Some (home.Local slot)) init e there sound = absurd there
  declared_as_paid r d [] (Some (home.Array array)) init e there sound = absurd there
  declared_as_paid r d [] (Some (home.Constant word)) init e there sound = absurd there
  declared_as_paid r d [] None init e there sound = absurd there
  declared_as_paid r d (len ∷ lengths) (Some (home.Variable name)) init e there sound = absurd there
  declared_as_paid r d (len ∷ lengths) (Some (home.Array array)) init e there sound = absurd there
  declared_as_paid r d (len ∷ lengths) (Some (home.Constant word)) init e there sound = absurd there
  declared_as_paid r d (len ∷ lengths) None init e there sound = absurd there

  declare_paid : {o : ℕ} {s : State} (r : Reach) (object : ℕ) (init : CoreInitTree) (d : CoreObjectTree) → S.params ≤ object → slice_get S.objects object ≡ Some d → InitSound S r d init
      → IsPaid (suc o) o s (declared_as g c (slice_get c.homes object) (slice_get c.objects object) init s)
  declare_paid {o} {s} r object init d le is sound =
      let h = homes object d le is in
      subst (λ x. IsPaid (suc o) o s (declared_as g c (slice_get c.homes object) x init s)) (sym h.0) (declared_as_paid r d d.lengths (slice_get c.homes object) init refl h.1 sound)

  -- ---- loops and returns

  tested_paid : {o : ℕ} {s : State} (r : Reach) (test : Option CoreTree) → TestSound S r test → IsPaid o o s (tested g c test s)
  tested_paid r None sound = gives_paid
  tested_paid r (Some e) sound = value_paid r e sound

  stepped_paid : {o : ℕ} {s : State} (r : Reach) (list : List CoreActionTree) (at : Place) → ActionsSound S r list → IsPaid o o s (stepped g c list at s)
  unfolding stepped
  stepped_paid r [] at sound = gives_paid
  stepped_paid r (a ∷ rest) at sound = then_paid (plain_paid _) (λ u s1. actions_paid r (a ∷ rest) sound)

  -- behind a mark, in a list of their own
  behind_mark_paid : {A : Type 0} {o n : ℕ} {s : State} (kind : PointKind) (at : Place) (part : State → Part A) → ((s0 : State) → IsPaid o n s0 (part s0)) → IsPaid o n s (inside (λ s0. then_ (marked c kind at s0) (λ u s1. part s1)) s)
  behind_mark_paid kind at part h = inside_paid _ (λ s0. then_paid (plain_paid _) (λ u s1. h s1))

  repeat_paid : {o n : ℕ} {s : State} (r : Reach) (post : Bool) (test : Option CoreTree) (body : State → Part (Unit {0})) (steps : List CoreActionTree) (at : Place) → TestSound S r test → ActionsSound S r steps → ((s0 : State) → IsPaid o n s0 (body s0)) → IsPaid o n s (repeat g c post test body steps at s)
  repeat_paid r post test body steps at test_sound steps_sound h =
      then_paid loop_paid
      (λ id s1. then_paid (behind_mark_paid point.Test at (λ s5. tested g c test s5) (λ s5. tested_paid r test test_sound))
      (λ before s2. then_paid (behind_mark_paid point.Body at body h)
      (λ main s3. then_paid (inside_paid (stepped g c steps at) (λ s0. stepped_paid r steps at steps_sound))
      (λ last s4. plain_paid _))))

  result_set_paid : {o : ℕ} {s : State} (r : Reach) (value : Option CoreTree) → ReturnSound S r value → IsPaid o o s (result_set g c value s)
  result_set_paid r None sound = gives_paid
  result_set_paid r (Some e) sound = then_paid (value_paid r e sound.1) (λ x s1. plain_paid (tree.set (result_variable c.result) x))

  returned_paid : {o : ℕ} {s : State} (r : Reach) (value : Option CoreTree) (tail : Bool) → ReturnSound S r value → IsPaid o o s (returned g c value tail s)
  returned_paid r value tail sound = then_paid (result_set_paid r value sound) (λ u s1. if_paid tail (gives tt s1) (emit (tree.leave c.call) s1) gives_paid (plain_paid (tree.leave c.call)))

  -- ---- statements

  label_here_paid : {o : ℕ} {s : State} (value : Option ℕ) (at : Place) → IsPaid o o s (labelled c value at s)
  label_here_paid value at = then_paid (label_paid value) (λ u s1. plain_paid _)

  mutual
    -- a statement pays for a variable of each declaration in it
    pub statement_paid : (o : ℕ) {s : State} (r : Reach) (Own : ℕ → Type 0) (labels breaks continues : Bool) (b : CoreStmtTree) (tail : Bool) → StmtSound S r Own labels breaks continues b → IsPaid (declarations_in b + o) o s (statement g c b tail s)
    statement_paid o r Own labels breaks continues (core.block objects body) tail sound = statements_paid o (enter objects r) _ false breaks continues body tail sound.1
    statement_paid o r Own labels breaks continues (core.declare object init) tail sound =
        eased (suc o) o (omega arith) (omega arith) (declare_paid (reach object r) object init sound.4.0 sound.1 sound.4.1 sound.4.2)
    statement_paid o r Own labels breaks continues (core.act list) tail sound = eased o o (omega arith) (omega arith) (actions_paid r list sound)
    statement_paid o r Own labels breaks continues (core.if_ test body other at) tail sound =
        let n = else_declarations other + o in
        eased (declarations_in body + n) o (omega arith) (omega arith)
        (then_paid (value_paid r test sound.0)
        (λ t s1. then_paid (behind_mark_paid point.Arm at (statement g c body tail) (λ s0. statement_paid n r _ false breaks continues body tail sound.1))
        (λ first s2. then_paid (other_paid o r breaks continues other tail sound.2)
        (λ second s3. plain_paid _))))
    statement_paid o r Own labels breaks continues (core.switch_ test objects body at) tail sound =
        then_paid (value_paid r test sound.0)
        (λ t s1. then_paid (switch_paid (statements g c body false) (λ s0. statements_paid o (enter objects r) _ true true continues body false sound.2))
        (λ main s2. plain_paid _))
    statement_paid o r Own labels breaks continues (core.case_ value body at) tail sound = then_paid (label_here_paid value at) (λ u s1. statement_paid o r _ labels breaks continues body false sound.1)
    statement_paid o r Own labels breaks continues (core.while_ test body at) tail sound = repeat_paid r false (Some test) (statement g c body false) [] at sound.0 tt (λ s0. statement_paid o r _ false true true body false sound.1)
    statement_paid o r Own labels breaks continues (core.do_ body test at) tail sound = repeat_paid r true (Some test) (statement g c body false) [] at sound.0 tt (λ s0. statement_paid o r _ false true true body false sound.1)
    statement_paid o r Own labels breaks continues (core.for_ objects init test steps body at) tail sound =
        let r1 = behind_all init (enter objects r) in
        let n = declarations_in body + o in
        eased (declarations init + n) o (omega arith) (omega arith)
        (then_paid (statements_paid n (enter objects r) _ false false false init false sound.1.1)
        (λ u s1. repeat_paid r1 false test (statement g c body false) steps at sound.2 sound.3 (λ s0. statement_paid o r1 _ false true true body false sound.4)))
    statement_paid o r Own labels breaks continues core.break_ tail sound = eased o o (omega arith) (omega arith) (plain_paid tree.break_)
    statement_paid o r Own labels breaks continues core.continue_ tail sound = eased o o (omega arith) (omega arith) (plain_paid tree.next_)
    statement_paid o r Own labels breaks continues (core.return_ value) tail sound = eased o o (omega arith) (omega arith) (returned_paid r value tail sound)

    other_paid : (o : ℕ) {s : State} (r : Reach) (breaks continues : Bool) (other : CoreElseTree) (tail : Bool) → ElseSound S r breaks continues other → IsPaid (else_declarations other + o) o s (other_branch g c other tail s)
    other_paid o r breaks continues core.no_else tail sound = eased o o (omega arith) (omega arith) (inside_paid (λ s0. gives tt s0) (λ s0. gives_paid))
    other_paid o r breaks continues (core.else_ at body) tail sound = behind_mark_paid point.Arm at (statement g c body tail) (λ s0. statement_paid o r _ false breaks continues body tail sound)

    pub statements_paid : (o : ℕ) {s : State} (r : Reach) (Own : ℕ → Type 0) (labels breaks continues : Bool) (body : CoreStmtTrees) (tail : Bool) → StmtsSound S r Own labels breaks continues body → IsPaid (declarations body + o) o s (statements g c body tail s)
    statements_paid o r Own labels breaks continues core.no_stmt tail sound = eased o o (omega arith) (omega arith) gives_paid
    statements_paid o r Own labels breaks continues (core.more_stmts first rest) tail sound =
        let n = declarations rest + o in
        eased (declarations_in first + n) o (omega arith) (omega arith)
        (then_paid (statement_paid n r Own labels breaks continues first (tail && is_empty rest) sound.0) (λ u s1. statements_paid o (behind first r) Own labels breaks continues rest tail sound.1))
