-- The loops of what statements become.
use Rattle.std.proofs.Common.{◌≡◌, ℕ, ◌+◌, Bool, true, false, ◌&&◌, refl, ap, sym, List, [], ◌∷◌, Option, Some, None, slice_get, if◌then◌else◌}
use Rattle.hls_base.specs.declared.place.Place.{Place}
use Rattle.hls_base.specs.declared.number.VarId.{VarId}
use Rattle.hls_base.specs.declared.number.ArrayId.{ArrayId}
use Rattle.hls_base.specs.declared.point.Point.{Point}
use Rattle.hls_base.specs.declared.point.PointKind.{PointKind}
use Rattle.hls_base.specs.declared.point.PointKind.TheVariants as point
use Rattle.pieces.specs.Resolved.Core as core
use Rattle.pieces.specs.Resolved.Core.{CoreTree, CoreObjectTree, CoreInitTree, CoreActionTree, CoreStmtTree, CoreStmtTrees, CoreElseTree}
use Rattle.pieces.specs.Trees as tree
use Rattle.pieces.specs.Trees.{piece_row}
use Rattle.piece_making.specs.declared.frame.Home.{Home}
use Rattle.piece_making.specs.declared.frame.Home.TheVariants as home
use Rattle.piece_making.specs.Acting.{no_effects, effects}
use Rattle.piece_making.specs.Making.{State, Part, gives, then_, emit, inside, inside_switch, label, declared, next_loop, note_array}
use Rattle.piece_making.specs.Leaving.{is_empty}
use Rattle.piece_making.specs.Objects.{local_array, array_weight, array_like}
use Rattle.piece_making.specs.Calls.{Call, point_in}
use Rattle.piece_making.specs.Assigning.{step, one, apply}
use Rattle.c_expand.specs.Expressions.{Callee, expression, targeted, discarded, is_call}
use Rattle.c_expand.specs.Statements.{marked, valued, changed, action, actions, subscripts_at, item_value, filled, initialised, scalar_declared, declared_as, declare, tested, stepped, loop_body, repeat, result_variable, result_set, returned, branch, labelled, statement, other_branch, statements}
use Rattle.passes.specs.Lowering.Shapes.{first_point, or_at}
use Rattle.report_rows.specs.Costs.{end_of}
use Rattle.expanded_pieces.proofs.ApartPoints.Quiet.{QuietThere, quiet_then, array_quiet, note_quiet, loop_quiet, declared_quiet, label_quiet, inside_quiet, switch_quiet, apply_quiet}
use Rattle.expanded_pieces.proofs.ApartPoints.Expressions.{discarded_quiet}
use Rattle.source_answers.proofs.EndedLoops.Parts.{RowEnds, Ends, EndsThere, EndsWithin, then_ends, emit_ends, quiet_ends}
use Rattle.source_answers.proofs.EndedLoops.Expressions.{CalleesEnd, expression_ends, target_ends}

module _ (g : Callee) (callees : CalleesEnd g) (c : Call) where
  pub marked_ends : (kind : PointKind) (at : Place) → EndsThere (marked c kind at)
  marked_ends kind at s = emit_ends (tree.mark (point_in c kind at)) s tt

  -- ---- actions

  valued_ends : (e : CoreTree) → EndsThere (valued g c e)
  unfolding valued
  valued_ends e s =
      let x = expression g c e s in
      let u = discarded (is_call e) x.value x.state in
      then_ends x _ (expression_ends c g callees e s) (quiet_ends u (discarded_quiet (is_call e) x.value x.state))

  changed_ends : (e : CoreTree) → EndsThere (changed g c e)
  unfolding changed
  changed_ends (core.assign left op value at) s =
      let t = targeted g c left (effects value) op at s in
      let by = expression g c value t.state in
      let last = apply c t.value by.value by.state in
      then_ends t _ (target_ends c g callees left (effects value) op at s) (then_ends by _ (expression_ends c g callees value t.state) (quiet_ends last (apply_quiet c t.value by.value by.state)))
  changed_ends (core.bump left up post at) s =
      let t = targeted g c left no_effects (step up) at s in
      let last = apply c t.value one t.state in
      then_ends t _ (target_ends c g callees left no_effects (step up) at s) (quiet_ends last (apply_quiet c t.value one t.state))
  changed_ends (core.number v k) s = valued_ends (core.number v k) s
  changed_ends (core.scalar cell k at) s = valued_ends (core.scalar cell k at) s
  changed_ends (core.element name subscripts k at) s = valued_ends (core.element name subscripts k at) s
  changed_ends (core.call callee args k at) s = valued_ends (core.call callee args k at) s
  changed_ends (core.unary op arg k at) s = valued_ends (core.unary op arg k at) s
  changed_ends (core.binary op left right k at) s = valued_ends (core.binary op left right k at) s
  changed_ends (core.choice test left right k at colon) s = valued_ends (core.choice test left right k at colon) s
  changed_ends (core.cast to arg) s = valued_ends (core.cast to arg) s
  changed_ends (core.comma left right) s = valued_ends (core.comma left right) s

  action_ends : (x : CoreActionTree) → EndsThere (action g c x)
  action_ends (core.change e) s = changed_ends e s
  action_ends (core.value e) s = valued_ends e s

  actions_end : (list : List CoreActionTree) → EndsThere (actions g c list)
  unfolding actions
  actions_end [] s = tt
  actions_end (x ∷ rest) s = let first = action g c x s in then_ends first _ (action_ends x s) (actions_end rest first.state)

  -- ---- declarations

  item_ends : (item : Option CoreTree) → EndsThere (item_value g c item)
  item_ends None s = tt
  item_ends (Some e) s = expression_ends c g callees e s

  filled_ends : (array : ArrayId) (lengths : List ℕ) (i : ℕ) (items : List (Option CoreTree)) → EndsThere (filled g c array lengths i items)
  filled_ends array lengths i [] s = tt
  filled_ends array lengths i (item ∷ items) s =
      let x = item_value g c item s in
      let put = tree.put array (subscripts_at lengths i) x.value c.body_at in
      let u = emit put x.state in
      then_ends x _ (item_ends item s) (then_ends u _ (emit_ends put x.state tt) (filled_ends array lengths (i + 1) items u.state))

  initialised_ends : (array : ArrayId) (lengths : List ℕ) (init : CoreInitTree) → EndsThere (initialised g c array lengths init)
  initialised_ends array lengths core.unwritten s = tt
  initialised_ends array lengths (core.single v) s = tt
  initialised_ends array lengths (core.elements items) s = filled_ends array lengths 0 items s

  scalar_ends : (name : VarId) (init : CoreInitTree) → EndsThere (scalar_declared g c name init)
  scalar_ends name core.unwritten s = quiet_ends (declared 1 s) (declared_quiet 1 s)
  scalar_ends name (core.single v) s = let x = expression g c v s in then_ends x _ (expression_ends c g callees v s) (emit_ends (tree.set name x.value) x.state tt)
  scalar_ends name (core.elements items) s = tt

  local_quiet : (o : CoreObjectTree) → QuietThere (local_array o)
  local_quiet o s = quiet_then _ _ (declared_quiet (array_weight o.lengths) s) (λ u s1. array_quiet (array_like o None None false) s1)

  declared_as_ends : (at : Option Home) (object : Option CoreObjectTree) (init : CoreInitTree) → EndsThere (declared_as g c at object init)
  declared_as_ends (Some (home.Variable name)) object init s = scalar_ends name init s
  declared_as_ends (Some (home.Local slot)) (Some o) init s =
      let array = local_array o s in
      let noted = note_array slot array.value array.state in
      then_ends array _ (quiet_ends array (local_quiet o s)) (then_ends noted _ (quiet_ends noted (note_quiet slot array.value array.state)) (initialised_ends array.value o.lengths init noted.state))
  declared_as_ends (Some (home.Local slot)) None init s = tt
  declared_as_ends (Some (home.Array array)) object init s = tt
  declared_as_ends (Some (home.Constant word)) object init s = tt
  declared_as_ends None object init s = tt

  declare_ends : (object : ℕ) (init : CoreInitTree) → EndsThere (declare g c object init)
  declare_ends object init s = declared_as_ends (slice_get c.homes object) (slice_get c.objects object) init s

  -- ---- loops

  -- pieces in a list of their own, behind a mark
  marked_within : {A : Type 0} (kind : PointKind) (at : Place) (part : State → Part A) → EndsThere part → (s : State) → EndsWithin (inside (λ s0. then_ (marked c kind at s0) (λ u s1. part s1)) s)
  unfolding inside then_ emit
  marked_within kind at part h s = (tt, h (marked c kind at (record s { made = 0 })).state)

  within : {A : Type 0} (part : State → Part A) → EndsThere part → (s : State) → EndsWithin (inside part s)
  unfolding inside
  within part h s = h (record s { made = 0 })

  tested_ends : (test : Option CoreTree) → EndsThere (tested g c test)
  tested_ends None s = tt
  tested_ends (Some e) s = expression_ends c g callees e s

  stepped_ends : (list : List CoreActionTree) (at : Place) → EndsThere (stepped g c list at)
  unfolding stepped
  stepped_ends [] at s = tt
  stepped_ends (x ∷ rest) at s = let m = marked c point.Step at s in then_ends m _ (marked_ends point.Step at s) (actions_end (x ∷ rest) m.state)

  -- the body begins at its own point
  body_first : (at : Place) (body : State → Part (Unit {0})) (s : State) (end : Point) → or_at end (first_point (piece_row (loop_body c at body s).value.pieces)) ≡ point_in c point.Body at
  unfolding inside then_ emit
  body_first at body s end = refl

  repeat_ends : (post : Bool) (test : Option CoreTree) (body : State → Part (Unit {0})) (steps : List CoreActionTree) (at : Place) → EndsThere body → EndsThere (repeat g c post test body steps at)
  repeat_ends post test body steps at h s =
      let id = next_loop s in
      let before = inside (λ s0. then_ (marked c point.Test at s0) (λ u s5. tested g c test s5)) id.state in
      let main = loop_body c at body before.state in
      let last = inside (stepped g c steps at) main.state in
      let end = point_in c point.End at in
      let piece = tree.repeat_ id.value post (piece_row before.value.pieces) before.value.value (piece_row main.value.pieces) (piece_row last.value.pieces) end in
      then_ends id _ (quiet_ends id (loop_quiet s))
      (then_ends before _ (quiet_ends before (inside_quiet _ id.state))
      (then_ends main _ (quiet_ends main (inside_quiet _ before.state))
      (then_ends last _ (quiet_ends last (inside_quiet _ main.state))
      (emit_ends piece last.state (
        sym (ap end_of (body_first at body before.state end)),
        marked_within point.Test at (λ s5. tested g c test s5) (λ s5. tested_ends test s5) id.state,
        marked_within point.Body at body h before.state,
        within (stepped g c steps at) (stepped_ends steps at) main.state,
      )))))

  -- ---- returns

  result_ends : (value : Option CoreTree) → EndsThere (result_set g c value)
  result_ends None s = tt
  result_ends (Some e) s = let x = expression g c e s in then_ends x _ (expression_ends c g callees e s) (emit_ends (tree.set (result_variable c.result) x.value) x.state tt)

  left_ends : (tail : Bool) (s : State) → Ends (if tail then gives tt s else emit (tree.leave c.call) s)
  left_ends true s = tt
  left_ends false s = emit_ends (tree.leave c.call) s tt

  returned_ends : (value : Option CoreTree) (tail : Bool) → EndsThere (returned g c value tail)
  returned_ends value tail s = let r = result_set g c value s in then_ends r _ (result_ends value s) (left_ends tail r.state)

  -- ---- statements

  switch_within : (body : State → Part (Unit {0})) → EndsThere body → (s : State) → RowEnds (inside_switch body s).value.0
  unfolding inside_switch inside
  switch_within body h s = h (record s { made = 0 })

  mutual
    pub statement_ends : (stmt : CoreStmtTree) (tail : Bool) → EndsThere (statement g c stmt tail)
    statement_ends (core.block objects body) tail s = statements_end body tail s
    statement_ends (core.declare object init) tail s = declare_ends object init s
    statement_ends (core.act list) tail s = actions_end list s
    statement_ends (core.if_ test body other at) tail s =
        let x = expression g c test s in
        let first = branch c at (statement g c body tail) x.state in
        let second = other_branch g c other tail first.state in
        let fork = tree.fork x.value (piece_row first.value.pieces) (piece_row second.value.pieces) (point_in c point.End at) in
        let ends = other_ends other tail first.state in
        then_ends x _ (expression_ends c g callees test s)
        (then_ends first _ (quiet_ends first (inside_quiet _ x.state))
        (then_ends second _ ends.0
        (emit_ends fork second.state (marked_within point.Arm at (statement g c body tail) (λ s1. statement_ends body tail s1) x.state, ends.1))))
    statement_ends (core.switch_ test objects body at) tail s =
        let x = expression g c test s in
        let main = inside_switch (statements g c body false) x.state in
        let pick = tree.pick x.value main.value.1 (piece_row main.value.0) (point_in c point.End at) in
        then_ends x _ (expression_ends c g callees test s)
        (then_ends main _ (quiet_ends main (switch_quiet _ x.state)) (emit_ends pick main.state (switch_within (statements g c body false) (λ s1. statements_end body false s1) x.state)))
    statement_ends (core.case_ value body at) tail s =
        let named = labelled c value at s in
        let l = label value s in
        then_ends named _ (then_ends l (λ u s1. marked c point.Arm at s1) (quiet_ends l (label_quiet value s)) (marked_ends point.Arm at l.state)) (statement_ends body false named.state)
    statement_ends (core.while_ test body at) tail s = repeat_ends false (Some test) (statement g c body false) [] at (λ s1. statement_ends body false s1) s
    statement_ends (core.do_ body test at) tail s = repeat_ends true (Some test) (statement g c body false) [] at (λ s1. statement_ends body false s1) s
    statement_ends (core.for_ objects init test steps body at) tail s =
        let before = statements g c init false s in
        then_ends before _ (statements_end init false s) (repeat_ends false test (statement g c body false) steps at (λ s1. statement_ends body false s1) before.state)
    statement_ends core.break_ tail s = emit_ends tree.break_ s tt
    statement_ends core.continue_ tail s = emit_ends tree.next_ s tt
    statement_ends (core.return_ value) tail s = returned_ends value tail s

    -- around and within the branch
    other_ends : (other : CoreElseTree) (tail : Bool) (s : State) → Ends (other_branch g c other tail s) × EndsWithin (other_branch g c other tail s)
    other_ends core.no_else tail s =
        let part = inside (λ s0. gives tt s0) s in
        (quiet_ends part (inside_quiet (λ s0. gives tt s0) s), within (λ s0. gives tt s0) (λ s0. tt) s)
    other_ends (core.else_ at body) tail s =
        let part = branch c at (statement g c body tail) s in
        (quiet_ends part (inside_quiet _ s), marked_within point.Arm at (statement g c body tail) (λ s1. statement_ends body tail s1) s)

    pub statements_end : (body : CoreStmtTrees) (tail : Bool) → EndsThere (statements g c body tail)
    statements_end core.no_stmt tail s = tt
    statements_end (core.more_stmts first rest) tail s =
        let x = statement g c first (tail && is_empty rest) s in
        then_ends x _ (statement_ends first (tail && is_empty rest) s) (statements_end rest tail x.state)
