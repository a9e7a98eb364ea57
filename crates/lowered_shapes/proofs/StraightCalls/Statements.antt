-- No call ends among straight pieces of statements, where none does in the calls in them.
use Rattle.std.proofs.Common.{ℕ, ◌+◌, Bool, true, false, ◌&&◌, List, [], ◌∷◌, Option, Some, None, slice_get}
use Rattle.hls_base.specs.declared.place.Place.{Place}
use Rattle.hls_base.specs.declared.number.VarId.{VarId}
use Rattle.hls_base.specs.declared.number.ArrayId.{ArrayId}
use Rattle.hls_base.specs.declared.point.PointKind.{PointKind}
use Rattle.hls_base.specs.declared.point.PointKind.TheVariants as point
use Rattle.pieces.specs.Resolved.Core as core
use Rattle.pieces.specs.Resolved.Core.{CoreTree, CoreObjectTree, CoreInitTree, CoreActionTree, CoreStmtTree, CoreStmtTrees, CoreElseTree}
use Rattle.pieces.specs.Trees as tree
use Rattle.pieces.specs.Trees.{PureTree, piece_row}
use Rattle.piece_making.specs.declared.frame.Home.{Home}
use Rattle.piece_making.specs.declared.frame.Home.TheVariants as home
use Rattle.piece_making.specs.Acting.{no_effects, effects}
use Rattle.piece_making.specs.Making.{State, Part, gives, then_, emit, inside, inside_switch, label, declared, next_loop, note_array}
use Rattle.piece_making.specs.Objects.{local_array}
use Rattle.piece_making.specs.Calls.{Call, point_in}
use Rattle.piece_making.specs.Assigning.{Change, step, one, apply, new_value, target_read}
use Rattle.piece_making.specs.Leaving.{is_empty}
use Rattle.c_expand.specs.Expressions.{Callee, expression, targeted, is_call}
use Rattle.c_expand.specs.Statements.{marked, valued, changed, action, actions, item_value, filled, initialised, scalar_declared, declared_as, declare, tested, stepped, loop_body, repeat, result_variable, result_set, returned, subscripts_at, branch, labelled, statement, other_branch, statements}
use Rattle.lowered_shapes.proofs.StraightCalls.Parts.{IsApart, ApartThere, fork_apart, repeat_apart, pick_apart, nothing_apart, then_at, then_apart, emit_apart, set_apart, put_apart, mark_apart, if_apart, label_apart, declared_apart, array_apart, note_apart, loop_apart, inside_apart, inner_apart, switch_apart, arms_apart}
use Rattle.lowered_shapes.proofs.StraightCalls.Expressions.{CalleesApart, expression_apart, target_apart, store_apart, discarded_apart}

module _ (g : Callee) (callees : CalleesApart g) (c : Call) where
  pub marked_apart : (kind : PointKind) (at : Place) → ApartThere (marked c kind at)
  marked_apart kind at s = mark_apart (point_in c kind at) s

  -- ---- actions

  valued_apart : (e : CoreTree) → ApartThere (valued g c e)
  unfolding valued
  valued_apart e s = then_apart (expression g c e s) _ (expression_apart g callees c e s) (λ x s1. discarded_apart (is_call e) x s1)

  apply_apart : (t : Change) (by : PureTree) → ApartThere (apply c t by)
  apply_apart t by s = store_apart c t (new_value t (target_read c t s) by) s

  changed_apart : (e : CoreTree) → ApartThere (changed g c e)
  unfolding changed
  changed_apart (core.assign left op value at) s =
      then_apart (targeted g c left (effects value) op at s) _ (target_apart g callees c left (effects value) op at s) (λ t s1. then_apart (expression g c value s1) _ (expression_apart g callees c value s1) (λ by s2. apply_apart t by s2))
  changed_apart (core.bump left up post at) s = then_apart (targeted g c left no_effects (step up) at s) _ (target_apart g callees c left no_effects (step up) at s) (λ t s1. apply_apart t one s1)
  changed_apart (core.number v k) s = valued_apart (core.number v k) s
  changed_apart (core.scalar cell k at) s = valued_apart (core.scalar cell k at) s
  changed_apart (core.element name subscripts k at) s = valued_apart (core.element name subscripts k at) s
  changed_apart (core.call callee args k at) s = valued_apart (core.call callee args k at) s
  changed_apart (core.unary op arg k at) s = valued_apart (core.unary op arg k at) s
  changed_apart (core.binary op left right k at) s = valued_apart (core.binary op left right k at) s
  changed_apart (core.choice test left right k at colon) s = valued_apart (core.choice test left right k at colon) s
  changed_apart (core.cast to arg) s = valued_apart (core.cast to arg) s
  changed_apart (core.comma left right) s = valued_apart (core.comma left right) s

  action_apart : (a : CoreActionTree) → ApartThere (action g c a)
  action_apart (core.change e) s = changed_apart e s
  action_apart (core.value e) s = valued_apart e s

  actions_apart : (list : List CoreActionTree) → ApartThere (actions g c list)
  unfolding actions
  actions_apart [] s = nothing_apart
  actions_apart (a ∷ rest) s = then_apart (action g c a s) _ (action_apart a s) (λ u s1. actions_apart rest s1)

  -- ---- declarations

  item_apart : (item : Option CoreTree) → ApartThere (item_value g c item)
  item_apart None s = nothing_apart
  item_apart (Some e) s = expression_apart g callees c e s

  filled_apart : (array : ArrayId) (lengths : List ℕ) (i : ℕ) (items : List (Option CoreTree)) → ApartThere (filled g c array lengths i items)
  filled_apart array lengths i [] s = nothing_apart
  filled_apart array lengths i (item ∷ items) s =
      then_apart (item_value g c item s) _ (item_apart item s)
      (λ x s1. then_apart (emit (tree.put array (subscripts_at lengths i) x c.body_at) s1) _ (put_apart array (subscripts_at lengths i) x c.body_at s1) (λ u s2. filled_apart array lengths (i + 1) items s2))

  initialised_apart : (array : ArrayId) (lengths : List ℕ) (init : CoreInitTree) → ApartThere (initialised g c array lengths init)
  initialised_apart array lengths core.unwritten s = nothing_apart
  initialised_apart array lengths (core.single v) s = nothing_apart
  initialised_apart array lengths (core.elements items) s = filled_apart array lengths 0 items s

  scalar_apart : (name : VarId) (init : CoreInitTree) → ApartThere (scalar_declared g c name init)
  scalar_apart name core.unwritten s = declared_apart 1 s
  scalar_apart name (core.single v) s = then_apart (expression g c v s) _ (expression_apart g callees c v s) (λ x s1. set_apart name x s1)
  scalar_apart name (core.elements items) s = nothing_apart

  local_apart : (o : CoreObjectTree) → ApartThere (local_array o)
  local_apart o s = then_apart (declared _ s) _ (declared_apart _ s) (λ u s1. array_apart _ s1)

  declared_as_apart : (at : Option Home) (object : Option CoreObjectTree) (init : CoreInitTree) → ApartThere (declared_as g c at object init)
  declared_as_apart (Some (home.Variable name)) object init s = scalar_apart name init s
  declared_as_apart (Some (home.Local slot)) (Some o) init s =
      then_apart (local_array o s) _ (local_apart o s) (λ array s1. then_apart (note_array slot array s1) _ (note_apart slot array s1) (λ u s2. initialised_apart array o.lengths init s2))
  declared_as_apart (Some (home.Local slot)) None init s = nothing_apart
  declared_as_apart (Some (home.Array array)) object init s = nothing_apart
  declared_as_apart (Some (home.Constant word)) object init s = nothing_apart
  declared_as_apart None object init s = nothing_apart

  declare_apart : (object : ℕ) (init : CoreInitTree) → ApartThere (declare g c object init)
  declare_apart object init s = declared_as_apart (slice_get c.homes object) (slice_get c.objects object) init s

  -- ---- loops

  tested_apart : (test : Option CoreTree) → ApartThere (tested g c test)
  tested_apart None s = nothing_apart
  tested_apart (Some e) s = expression_apart g callees c e s

  stepped_apart : (list : List CoreActionTree) (at : Place) → ApartThere (stepped g c list at)
  unfolding stepped
  stepped_apart [] at s = nothing_apart
  stepped_apart (a ∷ rest) at s = then_apart (marked c point.Step at s) _ (marked_apart point.Step at s) (λ u s1. actions_apart (a ∷ rest) s1)

  -- a part with a mark before it
  marked_inner : {A : Type 0} (kind : PointKind) (at : Place) (part : State → Part A) → ApartThere part → (s : State) → IsApart (inside (λ s0. then_ (marked c kind at s0) (λ u s1. part s1)) s).value.pieces
  marked_inner kind at part h s = inner_apart (λ s0. then_ (marked c kind at s0) (λ u s1. part s1)) (λ s0. then_apart (marked c kind at s0) (λ u s1. part s1) (marked_apart kind at s0) (λ u s1. h s1)) s

  pub repeat_fine : (post : Bool) (test : Option CoreTree) (body : State → Part (Unit {0})) (steps : List CoreActionTree) (at : Place) → ApartThere body → ApartThere (repeat g c post test body steps at)
  repeat_fine post test body steps at h s =
      let id = next_loop s in
      let before = inside (λ s0. then_ (marked c point.Test at s0) (λ u s5. tested g c test s5)) id.state in
      let main = loop_body c at body before.state in
      let last = inside (stepped g c steps at) main.state in
      then_at id _ (loop_apart s)
      (then_at before _ (inside_apart _ id.state)
      (then_at main _ (inside_apart _ before.state)
      (then_at last _ (inside_apart _ main.state)
      (emit_apart (tree.repeat_ id.value post (piece_row before.value.pieces) before.value.value (piece_row main.value.pieces) (piece_row last.value.pieces) (point_in c point.End at))
      (repeat_apart id.value post before.value.pieces before.value.value main.value.pieces last.value.pieces (point_in c point.End at) (marked_inner point.Test at (λ s5. tested g c test s5) (λ s5. tested_apart test s5) id.state)
      (marked_inner point.Body at body h before.state) (inner_apart (stepped g c steps at) (λ s0. stepped_apart steps at s0) main.state)) last.state))))

  -- ---- returns

  result_set_apart : (value : Option CoreTree) → ApartThere (result_set g c value)
  result_set_apart None s = nothing_apart
  result_set_apart (Some e) s = then_apart (expression g c e s) _ (expression_apart g callees c e s) (λ x s1. set_apart (result_variable c.result) x s1)

  jump_apart : (piece : tree.PieceTree) → IsApart (piece ∷ []) → ApartThere (emit piece)
  jump_apart piece h = emit_apart piece h

  returned_apart : (value : Option CoreTree) (tail : Bool) → ApartThere (returned g c value tail)
  returned_apart value tail s =
      then_apart (result_set g c value s) _ (result_set_apart value s)
      (λ u s1. if_apart tail (gives tt s1) (emit (tree.leave c.call) s1) (nothing_apart) (jump_apart (tree.leave c.call) (record { whole = λ e. absurd cc; within = (tt, tt) }) s1))

  -- ---- statements

  labelled_apart : (value : Option ℕ) (at : Place) → ApartThere (labelled c value at)
  labelled_apart value at s = then_apart (label value s) _ (label_apart value s) (λ u s1. marked_apart point.Arm at s1)

  mutual
    pub statement_apart : (stmt : CoreStmtTree) (tail : Bool) → ApartThere (statement g c stmt tail)
    statement_apart (core.block objects body) tail s = statements_apart body tail s
    statement_apart (core.declare object init) tail s = declare_apart object init s
    statement_apart (core.act list) tail s = actions_apart list s
    statement_apart (core.if_ test body other at) tail s =
        let x = expression g c test s in
        let first = branch c at (statement g c body tail) x.state in
        let second = other_branch g c other tail first.state in
        then_at x _ (expression_apart g callees c test s)
        (then_at first _ (inside_apart _ x.state)
        (then_at second _ (other_outside other tail first.state)
        (emit_apart (tree.fork x.value (piece_row first.value.pieces) (piece_row second.value.pieces) (point_in c point.End at))
        (fork_apart x.value first.value.pieces second.value.pieces (point_in c point.End at) (marked_inner point.Arm at (statement g c body tail) (λ s1. statement_apart body tail s1) x.state) (other_apart other tail first.state)) second.state)))
    statement_apart (core.switch_ test objects body at) tail s =
        let x = expression g c test s in
        let main = inside_switch (statements g c body false) x.state in
        then_at x _ (expression_apart g callees c test s)
        (then_at main _ (switch_apart _ x.state)
        (emit_apart (tree.pick x.value main.value.1 (piece_row main.value.0) (point_in c point.End at)) (pick_apart x.value main.value.1 main.value.0 (point_in c point.End at) (arms_apart (statements g c body false) (λ s1. statements_apart body false s1) x.state)) main.state))
    statement_apart (core.case_ value body at) tail s = then_apart (labelled c value at s) _ (labelled_apart value at s) (λ u s1. statement_apart body false s1)
    statement_apart (core.while_ test body at) tail s = repeat_fine false (Some test) (statement g c body false) [] at (λ s1. statement_apart body false s1) s
    statement_apart (core.do_ body test at) tail s = repeat_fine true (Some test) (statement g c body false) [] at (λ s1. statement_apart body false s1) s
    statement_apart (core.for_ objects init test steps body at) tail s =
        then_apart (statements g c init false s) _ (statements_apart init false s) (λ u s1. repeat_fine false test (statement g c body false) steps at (λ s2. statement_apart body false s2) s1)
    statement_apart core.break_ tail s = jump_apart tree.break_ (record { whole = λ e. absurd cc; within = (tt, tt) }) s
    statement_apart core.continue_ tail s = jump_apart tree.next_ (record { whole = λ e. absurd cc; within = (tt, tt) }) s
    statement_apart (core.return_ value) tail s = returned_apart value tail s

    other_outside : (other : CoreElseTree) (tail : Bool) → ApartThere (other_branch g c other tail)
    other_outside core.no_else tail s = inside_apart _ s
    other_outside (core.else_ at body) tail s = inside_apart _ s

    other_apart : (other : CoreElseTree) (tail : Bool) (s : State) → IsApart (other_branch g c other tail s).value.pieces
    other_apart core.no_else tail s = inner_apart (λ s0. gives tt s0) (λ s0. nothing_apart) s
    other_apart (core.else_ at body) tail s = marked_inner point.Arm at (statement g c body tail) (λ s1. statement_apart body tail s1) s

    pub statements_apart : (body : CoreStmtTrees) (tail : Bool) → ApartThere (statements g c body tail)
    statements_apart core.no_stmt tail s = nothing_apart
    statements_apart (core.more_stmts first rest) tail s = then_apart (statement g c first (tail && is_empty rest) s) _ (statement_apart first (tail && is_empty rest) s) (λ u s1. statements_apart rest tail s1)
