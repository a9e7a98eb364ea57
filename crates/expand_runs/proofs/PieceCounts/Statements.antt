-- What statements become is counted, and a label of a switch names the piece behind it.
use Rattle.std.proofs.Common.{ℕ, ◌+◌, Bool, true, false, ◌&&◌, List, [], ◌∷◌, refl, arith, Option, Some, None, slice_get, if◌then◌else◌}
use Rattle.hls_base.specs.declared.place.Place.{Place}
use Rattle.hls_base.specs.declared.number.VarId.{VarId}
use Rattle.hls_base.specs.declared.number.ArrayId.{ArrayId}
use Rattle.hls_base.specs.declared.point.PointKind.{PointKind}
use Rattle.hls_base.specs.declared.point.PointKind.TheVariants as point
use Rattle.pieces.specs.Resolved.Core as core
use Rattle.pieces.specs.Resolved.Core.{CoreTree, CoreObjectTree, CoreInitTree, CoreActionTree, CoreStmtTree, CoreStmtTrees, CoreElseTree}
use Rattle.pieces.specs.Trees as tree
use Rattle.pieces.specs.Trees.{PureTree, piece_row}
use Rattle.piece_making.specs.declared.frame.Home.{Home}
use Rattle.piece_making.specs.declared.frame.Home.TheVariants as home
use Rattle.piece_making.specs.Acting.{no_effects, effects}
use Rattle.piece_making.specs.Making.{State, Part, gives, then_, emit, inside, inside_switch, declared, next_loop, note_array, add_array}
use Rattle.piece_making.specs.Leaving.{is_empty}
use Rattle.piece_making.specs.Objects.{local_array, array_like, array_weight}
use Rattle.piece_making.specs.Calls.{Call}
use Rattle.piece_making.specs.Assigning.{step, one, apply}
use Rattle.c_expand.specs.Expressions.{Callee, expression, targeted, discarded, is_call}
use Rattle.c_expand.specs.Statements.{marked, valued, changed, action, actions, item_value, filled, initialised, scalar_declared, declared_as, tested, stepped, loop_body, repeat, result_variable, result_set, returned, branch, statement, other_branch, statements, subscripts_at}
use Rattle.expand_runs.specs.Counting.{IsCounted, CalleesCount, IsUnlabelled, ElseUnlabelled, AreUnlabelled}
use Rattle.expand_runs.proofs.PieceCounts.Parts.{counted_gives, counted_then, counted_if, counted_emit, counted_declared, counted_inside, counted_array, counted_note, counted_loop}
use Rattle.expand_runs.proofs.PieceCounts.Expressions.{expression_counted, target_counted, apply_counted, discarded_counted}

counted_switch : {A : Type 0} (part : State → Part A) (s : State) → IsCounted s (inside_switch part s)
unfolding inside_switch inside
counted_switch part s = record { made = omega arith; labels = refl }

module _ (g : Callee) (c : Call) (callees : CalleesCount g c) where
  -- ---- actions

  valued_counted : (e : CoreTree) (s : State) → IsCounted s (valued g c e s)
  unfolding valued
  valued_counted e s =
      let x = expression g c e s in
      counted_then s x (λ y s1. discarded (is_call e) y s1) (expression_counted g c callees e s) (discarded_counted (is_call e) x.value x.state)

  changed_counted : (e : CoreTree) (s : State) → IsCounted s (changed g c e s)
  unfolding changed
  changed_counted (core.assign (core.target cell subscripts k place) op v at) s =
      let t = targeted g c (core.target cell subscripts k place) (effects v) op at s in
      let by = expression g c v t.state in
      counted_then s t (λ t1 s1. then_ (expression g c v s1) (λ by s2. apply c t1 by s2)) (target_counted g c callees cell subscripts k place (effects v) op at s)
      (counted_then t.state by (λ by s2. apply c t.value by s2) (expression_counted g c callees v t.state) (apply_counted c t.value by.value by.state))
  changed_counted (core.bump (core.target cell subscripts k place) up post at) s =
      let t = targeted g c (core.target cell subscripts k place) no_effects (step up) at s in
      counted_then s t (λ t1 s1. apply c t1 one s1) (target_counted g c callees cell subscripts k place no_effects (step up) at s) (apply_counted c t.value one t.state)
  changed_counted (core.number v k) s = valued_counted (core.number v k) s
  changed_counted (core.scalar cell k at) s = valued_counted (core.scalar cell k at) s
  changed_counted (core.element name subscripts k at) s = valued_counted (core.element name subscripts k at) s
  changed_counted (core.call callee args k at) s = valued_counted (core.call callee args k at) s
  changed_counted (core.unary op arg k at) s = valued_counted (core.unary op arg k at) s
  changed_counted (core.binary op left right k at) s = valued_counted (core.binary op left right k at) s
  changed_counted (core.choice test left right k at colon) s = valued_counted (core.choice test left right k at colon) s
  changed_counted (core.cast to arg) s = valued_counted (core.cast to arg) s
  changed_counted (core.comma left right) s = valued_counted (core.comma left right) s

  action_counted : (a : CoreActionTree) (s : State) → IsCounted s (action g c a s)
  action_counted (core.change e) s = changed_counted e s
  action_counted (core.value e) s = valued_counted e s

  actions_counted : (list : List CoreActionTree) (s : State) → IsCounted s (actions g c list s)
  unfolding actions
  actions_counted [] s = counted_gives tt s
  actions_counted (a ∷ rest) s =
      let x = action g c a s in
      counted_then s x (λ u s1. actions g c rest s1) (action_counted a s) (actions_counted rest x.state)

  -- ---- declarations

  item_counted : (item : Option CoreTree) (s : State) → IsCounted s (item_value g c item s)
  item_counted None s = counted_gives _ s
  item_counted (Some e) s = expression_counted g c callees e s

  filled_counted : (array : ArrayId) (lengths : List ℕ) (n : ℕ) (items : List (Option CoreTree)) (s : State) → IsCounted s (filled g c array lengths n items s)
  filled_counted array lengths n [] s = counted_gives tt s
  filled_counted array lengths n (item ∷ items) s =
      let x = item_value g c item s in
      let e = emit (tree.put array (subscripts_at lengths n) x.value c.body_at) x.state in
      counted_then s x (λ x1 s1. then_ (emit (tree.put array (subscripts_at lengths n) x1 c.body_at) s1) (λ u s2. filled g c array lengths (n + 1) items s2)) (item_counted item s)
      (counted_then x.state e (λ u s2. filled g c array lengths (n + 1) items s2) (counted_emit _ _) (filled_counted array lengths (n + 1) items e.state))

  initialised_counted : (array : ArrayId) (lengths : List ℕ) (init : CoreInitTree) (s : State) → IsCounted s (initialised g c array lengths init s)
  initialised_counted array lengths core.unwritten s = counted_gives tt s
  initialised_counted array lengths (core.single v) s = counted_gives tt s
  initialised_counted array lengths (core.elements items) s = filled_counted array lengths 0 items s

  scalar_counted : (name : VarId) (init : CoreInitTree) (s : State) → IsCounted s (scalar_declared g c name init s)
  scalar_counted name core.unwritten s = counted_declared 1 s
  scalar_counted name (core.single v) s = counted_then s (expression g c v s) (λ x s1. emit (tree.set name x) s1) (expression_counted g c callees v s) (counted_emit _ _)
  scalar_counted name (core.elements items) s = counted_gives tt s

  declared_counted : (at : Option Home) (object : Option CoreObjectTree) (init : CoreInitTree) (s : State) → IsCounted s (declared_as g c at object init s)
  declared_counted (Some (home.Variable name)) object init s = scalar_counted name init s
  declared_counted (Some (home.Local slot)) (Some o) init s =
      let d = declared (array_weight o.lengths) s in
      let a = local_array o s in
      let n = note_array slot a.value a.state in
      counted_then s a (λ array s1. then_ (note_array slot array s1) (λ u s2. initialised g c array o.lengths init s2))
      (counted_then s d (λ u s1. add_array (array_like o None None false) s1) (counted_declared _ _) (counted_array _ _))
      (counted_then a.state n (λ u s2. initialised g c a.value o.lengths init s2) (counted_note slot a.value a.state) (initialised_counted a.value o.lengths init n.state))
  declared_counted (Some (home.Local slot)) None init s = counted_gives tt s
  declared_counted (Some (home.Array array)) object init s = counted_gives tt s
  declared_counted (Some (home.Constant word)) object init s = counted_gives tt s
  declared_counted None object init s = counted_gives tt s

  -- ---- loops and returns

  tested_counted : (test : Option CoreTree) (s : State) → IsCounted s (tested g c test s)
  tested_counted None s = counted_gives one s
  tested_counted (Some e) s = expression_counted g c callees e s

  stepped_counted : (list : List CoreActionTree) (at : Place) (s : State) → IsCounted s (stepped g c list at s)
  unfolding stepped
  stepped_counted [] at s = counted_gives tt s
  stepped_counted (a ∷ rest) at s = counted_then s (marked c point.Step at s) (λ u s1. actions g c (a ∷ rest) s1) (counted_emit _ _) (actions_counted (a ∷ rest) _)

  -- behind a mark, in a list of their own
  arm_counted : {A : Type 0} (kind : PointKind) (at : Place) (part : State → Part A) (s : State) → ((s1 : State) → IsCounted s1 (part s1)) → IsCounted s (inside (λ s0. then_ (marked c kind at s0) (λ u s1. part s1)) s)
  arm_counted kind at part s h = counted_inside (λ s0. then_ (marked c kind at s0) (λ u s1. part s1)) s (λ s0. counted_then s0 (marked c kind at s0) (λ u s1. part s1) (counted_emit _ _) (h _))

  repeat_counted : (post : Bool) (test : Option CoreTree) (body : State → Part (Unit {0})) (steps : List CoreActionTree) (at : Place) (s : State) → ((s1 : State) → IsCounted s1 (body s1)) → IsCounted s (repeat g c post test body steps at s)
  repeat_counted post test body steps at s hb =
      let id = next_loop s in
      let before = inside (λ s0. then_ (marked c point.Test at s0) (λ u s5. tested g c test s5)) id.state in
      let main = loop_body c at body before.state in
      let last = inside (stepped g c steps at) main.state in
      counted_then s id _ (counted_loop s)
      (counted_then id.state before _ (arm_counted point.Test at (λ s5. tested g c test s5) id.state (λ s1. tested_counted test s1))
      (counted_then before.state main _ (arm_counted point.Body at body before.state hb)
      (counted_then main.state last _ (counted_inside (stepped g c steps at) main.state (λ s0. stepped_counted steps at s0)) (counted_emit _ _))))

  result_counted : (value : Option CoreTree) (s : State) → IsCounted s (result_set g c value s)
  result_counted None s = counted_gives tt s
  result_counted (Some e) s = counted_then s (expression g c e s) (λ x s1. emit (tree.set (result_variable c.result) x) s1) (expression_counted g c callees e s) (counted_emit _ _)

  returned_counted : (value : Option CoreTree) (tail : Bool) (s : State) → IsCounted s (returned g c value tail s)
  returned_counted value tail s =
      let r = result_set g c value s in
      counted_then s r (λ u s1. if tail then gives tt s1 else emit (tree.leave c.call) s1) (result_counted value s) (counted_if tail (gives tt r.state) (emit (tree.leave c.call) r.state) r.state (counted_gives _ _) (counted_emit _ _))

  -- ---- statements

  mutual
    pub statement_counted : (b : CoreStmtTree) (tail : Bool) (s : State) → IsUnlabelled b → IsCounted s (statement g c b tail s)
    statement_counted (core.block objects body) tail s h = statements_counted body tail s h
    statement_counted (core.declare object init) tail s h = declared_counted (slice_get c.homes object) (slice_get c.objects object) init s
    statement_counted (core.act list) tail s h = actions_counted list s
    statement_counted (core.if_ test body other at) tail s h =
        let x = expression g c test s in
        let first = branch c at (statement g c body tail) x.state in
        let second = other_branch g c other tail first.state in
        counted_then s x _ (expression_counted g c callees test s)
        (counted_then x.state first _ (arm_counted point.Arm at (statement g c body tail) x.state (λ s1. statement_counted body tail s1 h.0))
        (counted_then first.state second _ (other_counted other tail first.state h.1) (counted_emit _ _)))
    statement_counted (core.switch_ test objects body at) tail s h =
        let x = expression g c test s in
        let main = inside_switch (statements g c body false) x.state in
        counted_then s x _ (expression_counted g c callees test s) (counted_then x.state main _ (counted_switch (statements g c body false) x.state) (counted_emit _ _))
    statement_counted (core.case_ value body at) tail s h = absurd h
    statement_counted (core.while_ test body at) tail s h = repeat_counted false (Some test) (statement g c body false) [] at s (λ s1. statement_counted body false s1 h)
    statement_counted (core.do_ body test at) tail s h = repeat_counted true (Some test) (statement g c body false) [] at s (λ s1. statement_counted body false s1 h)
    statement_counted (core.for_ objects init test steps body at) tail s h =
        let i = statements g c init false s in
        counted_then s i (λ u s1. repeat g c false test (statement g c body false) steps at s1) (statements_counted init false s h.0) (repeat_counted false test (statement g c body false) steps at i.state (λ s1. statement_counted body false s1 h.1))
    statement_counted core.break_ tail s h = counted_emit _ s
    statement_counted core.continue_ tail s h = counted_emit _ s
    statement_counted (core.return_ value) tail s h = returned_counted value tail s

    other_counted : (other : CoreElseTree) (tail : Bool) (s : State) → ElseUnlabelled other → IsCounted s (other_branch g c other tail s)
    other_counted core.no_else tail s h = counted_inside (λ s0. gives tt s0) s (λ s0. counted_gives tt s0)
    other_counted (core.else_ at body) tail s h = arm_counted point.Arm at (statement g c body tail) s (λ s1. statement_counted body tail s1 h)

    pub statements_counted : (body : CoreStmtTrees) (tail : Bool) (s : State) → AreUnlabelled body → IsCounted s (statements g c body tail s)
    statements_counted core.no_stmt tail s h = counted_gives tt s
    statements_counted (core.more_stmts first rest) tail s h =
        let x = statement g c first (tail && is_empty rest) s in
        counted_then s x (λ u s1. statements g c rest tail s1) (statement_counted first (tail && is_empty rest) s h.0) (statements_counted rest tail x.state h.1)
