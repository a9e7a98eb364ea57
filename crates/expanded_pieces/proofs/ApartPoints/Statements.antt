-- The points of a statement stand at its own place and at those of its parts.
use Rattle.std.proofs.Common.{◌≡◌, ◌≢◌, ◌∙◌, ℕ, ◌+◌, Bool, true, false, ◌&&◌, refl, sym, ap, subst, inr, append-nil, List, [], ◌∷◌, ◌++◌, Option, Some, None, slice_get, if◌then◌else◌}
use Rattle.hls_base.specs.declared.place.Place.{Place}
use Rattle.hls_base.specs.declared.number.VarId.{VarId}
use Rattle.hls_base.specs.declared.number.ArrayId.{ArrayId}
use Rattle.hls_base.specs.declared.point.Point.{Point}
use Rattle.hls_base.specs.declared.point.PointKind.{PointKind}
use Rattle.hls_base.specs.declared.point.PointKind.TheVariants as point
use Rattle.pieces.specs.Resolved.Core as core
use Rattle.pieces.specs.Resolved.Core.{CoreTree, CoreObjectTree, CoreInitTree, CoreActionTree, CoreStmtTree, CoreStmtTrees, CoreElseTree}
use Rattle.pieces.specs.Trees as tree
use Rattle.pieces.specs.Trees.{PureTree, PieceTree, piece_row}
use Rattle.piece_making.specs.declared.frame.Home.{Home}
use Rattle.piece_making.specs.declared.frame.Home.TheVariants as home
use Rattle.piece_making.specs.Acting.{no_effects, effects}
use Rattle.piece_making.specs.Making.{State, Part, gives, then_, emit, inside, inside_switch, label, declared, next_loop}
use Rattle.piece_making.specs.Leaving.{is_empty}
use Rattle.piece_making.specs.Objects.{local_array, array_weight, array_like}
use Rattle.piece_making.specs.Calls.{Call, point_in}
use Rattle.piece_making.specs.Assigning.{step, one}
use Rattle.c_expand.specs.Expressions.{Callee, expression, targeted, is_call}
use Rattle.c_expand.specs.Statements.{marked, valued, changed, action, actions, subscripts_at, item_value, filled, initialised, scalar_declared, declared_as, declare, tested, stepped, loop_body, repeat, result_variable, result_set, returned, branch, labelled, statement, other_branch, statements}
use Rattle.expanded_pieces.specs.ApartPoints.Apart.{AreApart}
use Rattle.expanded_pieces.specs.ApartPoints.Points.{all_points, own_points}
use Rattle.expanded_pieces.specs.ApartPoints.Places.{places, target_places, optional_places, item_places, init_places, action_places, actions_places, stmt_places, else_places, body_places}
use Rattle.expanded_pieces.proofs.ApartPoints.Apart.{IsIn, Covers, away_at, away_from, split, moved_in, behind_first, behind_same, to_front, swapped, swapped_in, swapped_last, swapped_last_in}
use Rattle.expanded_pieces.proofs.ApartPoints.Standing.{Stand, Around, point_at, stand_none, stand_empty, stand_more, around_stand, around_end, around_inner, around_own, around_only, around_more}
use Rattle.expanded_pieces.proofs.ApartPoints.Quiet.{points_of, Quiet, QuietThere, points_then, quiet_then, stands_behind, stands_before, stands_both, emitted_points, set_quiet, put_quiet, array_quiet, note_quiet, loop_quiet, declared_quiet, label_quiet, inside_quiet, switch_quiet, apply_quiet}
use Rattle.expanded_pieces.proofs.ApartPoints.Expressions.{CalleesStand, inner_points, discarded_quiet, arm_differs_end, expression_stands, target_stands}

pub stands_quiet : {A : Type 0} (path list : List Place) (part : Part A) → Quiet part → Stand path list (points_of part)
stands_quiet path list part h = subst (Stand path list) (sym h) (stand_empty path list)

-- ---- kinds

module _ where
  test_differs : (point.Test ≢ point.Body) × (point.Test ≢ point.Step) × (point.Test ≢ point.End)
  test_differs = (λ e. cc, λ e. cc, λ e. cc)

  body_differs : (point.Body ≢ point.Step) × (point.Body ≢ point.End)
  body_differs = (λ e. cc, λ e. cc)

  step_differs : point.Step ≢ point.End
  step_differs e = cc

-- ---- places in another order

module _ (at : Place) (xs ys : List Place) where
  no_steps : AreApart (at ∷ (xs ++ ys)) → AreApart (at ∷ (xs ++ (ys ++ [])))
  no_steps a = subst (λ l. AreApart (at ∷ (xs ++ l))) (sym (append-nil ys)) a

  steps_away : Covers (at ∷ (xs ++ ys)) (at ∷ (xs ++ (ys ++ [])))
  steps_away x i = subst (λ l. IsIn x (at ∷ (xs ++ l))) (append-nil ys) i

  turned_in : Covers (at ∷ (xs ++ ys)) (at ∷ (ys ++ xs))
  turned_in = behind_same at (xs ++ ys) (ys ++ xs) (swapped_in ys xs)

  turned_round : AreApart (at ∷ (xs ++ ys)) → AreApart (at ∷ (ys ++ xs))
  turned_round a = (away_from at (ys ++ xs) (λ i. away_at at (xs ++ ys) a.0 (swapped_in ys xs at i)), swapped xs ys a.1)

module _ (g : Callee) (callees : CalleesStand g) (c : Call) where
  abbrev pub StandsIn : List Place → {A : Type 0} → (State → Part A) → Type 0
  StandsIn list part = (s : State) → Stand c.path list (points_of (part s))

  pub marked_points : (kind : PointKind) (at : Place) (s : State) → points_of (marked c kind at s) ≡ point_at c.path at kind ∷ []
  marked_points kind at s = emitted_points (tree.mark (point_in c kind at)) s

  -- ---- actions

  valued_stands : (e : CoreTree) → AreApart (places e) → StandsIn (places e) (valued g c e)
  unfolding valued
  valued_stands e a s = let x = expression g c e s in stands_before x _ c.path (places e) (expression_stands c g callees e a s) (discarded_quiet (is_call e) x.value x.state)

  changed_stands : (e : CoreTree) → AreApart (places e) → StandsIn (places e) (changed g c e)
  unfolding changed
  changed_stands (core.assign left op value at) a s =
      let parts = split (target_places left) (places value) a in
      let t = targeted g c left (effects value) op at s in
      let by = expression g c value t.state in
      stands_both t _ c.path (target_places left) (places value) a (target_stands c g callees left (effects value) op at parts.left s)
      (stands_before by _ c.path (places value) (expression_stands c g callees value parts.right t.state) (apply_quiet c t.value by.value by.state))
  changed_stands (core.bump left up post at) a s =
      let t = targeted g c left no_effects (step up) at s in
      stands_before t _ c.path (target_places left) (target_stands c g callees left no_effects (step up) at a s) (apply_quiet c t.value one t.state)
  changed_stands (core.number v k) a s = valued_stands (core.number v k) a s
  changed_stands (core.scalar cell k at) a s = valued_stands (core.scalar cell k at) a s
  changed_stands (core.element name subscripts k at) a s = valued_stands (core.element name subscripts k at) a s
  changed_stands (core.call callee args k at) a s = valued_stands (core.call callee args k at) a s
  changed_stands (core.unary op arg k at) a s = valued_stands (core.unary op arg k at) a s
  changed_stands (core.binary op left right k at) a s = valued_stands (core.binary op left right k at) a s
  changed_stands (core.choice test left right k at colon) a s = valued_stands (core.choice test left right k at colon) a s
  changed_stands (core.cast to arg) a s = valued_stands (core.cast to arg) a s
  changed_stands (core.comma left right) a s = valued_stands (core.comma left right) a s

  action_stands : (x : CoreActionTree) → AreApart (action_places x) → StandsIn (action_places x) (action g c x)
  action_stands (core.change e) a s = changed_stands e a s
  action_stands (core.value e) a s = valued_stands e a s

  actions_stand : (list : List CoreActionTree) → AreApart (actions_places list) → StandsIn (actions_places list) (actions g c list)
  unfolding actions
  actions_stand [] a s = stand_none c.path
  actions_stand (x ∷ rest) a s =
      let parts = split (action_places x) (actions_places rest) a in
      let first = action g c x s in
      stands_both first _ c.path (action_places x) (actions_places rest) a (action_stands x parts.left s) (actions_stand rest parts.right first.state)

  -- ---- declarations

  optional_stands : (item : Option CoreTree) → AreApart (optional_places item) → StandsIn (optional_places item) (item_value g c item)
  optional_stands None a s = stand_none c.path
  optional_stands (Some e) a s = expression_stands c g callees e a s

  filled_stands : (array : ArrayId) (lengths : List ℕ) (i : ℕ) (items : List (Option CoreTree)) → AreApart (item_places items) → StandsIn (item_places items) (filled g c array lengths i items)
  filled_stands array lengths i [] a s = stand_none c.path
  filled_stands array lengths i (item ∷ items) a s =
      let parts = split (optional_places item) (item_places items) a in
      let x = item_value g c item s in
      let u = emit (tree.put array (subscripts_at lengths i) x.value c.body_at) x.state in
      stands_both x _ c.path (optional_places item) (item_places items) a (optional_stands item parts.left s)
      (stands_behind u _ c.path (item_places items) (put_quiet array (subscripts_at lengths i) x.value c.body_at x.state) (filled_stands array lengths (i + 1) items parts.right u.state))

  initialised_stands : (array : ArrayId) (lengths : List ℕ) (init : CoreInitTree) → AreApart (init_places init) → StandsIn (init_places init) (initialised g c array lengths init)
  initialised_stands array lengths core.unwritten a s = stand_none c.path
  initialised_stands array lengths (core.single v) a s = stand_empty c.path (places v)
  initialised_stands array lengths (core.elements items) a s = filled_stands array lengths 0 items a s

  scalar_stands : (name : VarId) (init : CoreInitTree) → AreApart (init_places init) → StandsIn (init_places init) (scalar_declared g c name init)
  scalar_stands name core.unwritten a s = stands_quiet c.path [] (declared 1 s) (declared_quiet 1 s)
  scalar_stands name (core.single v) a s = let x = expression g c v s in stands_before x _ c.path (places v) (expression_stands c g callees v a s) (set_quiet name x.value x.state)
  scalar_stands name (core.elements items) a s = stand_empty c.path (item_places items)

  local_quiet : (o : CoreObjectTree) → QuietThere (local_array o)
  local_quiet o s = quiet_then _ _ (declared_quiet (array_weight o.lengths) s) (λ u s1. array_quiet (array_like o None None false) s1)

  declared_as_stands : (at : Option Home) (object : Option CoreObjectTree) (init : CoreInitTree) → AreApart (init_places init) → StandsIn (init_places init) (declared_as g c at object init)
  declared_as_stands (Some (home.Variable name)) object init a s = scalar_stands name init a s
  declared_as_stands (Some (home.Local slot)) (Some o) init a s =
      let array = local_array o s in
      stands_behind array _ c.path (init_places init) (local_quiet o s)
      (stands_behind _ _ c.path (init_places init) (note_quiet slot array.value array.state) (initialised_stands array.value o.lengths init a _))
  declared_as_stands (Some (home.Local slot)) None init a s = stand_empty c.path (init_places init)
  declared_as_stands (Some (home.Array array)) object init a s = stand_empty c.path (init_places init)
  declared_as_stands (Some (home.Constant word)) object init a s = stand_empty c.path (init_places init)
  declared_as_stands None object init a s = stand_empty c.path (init_places init)

  declare_stands : (object : ℕ) (init : CoreInitTree) → AreApart (init_places init) → StandsIn (init_places init) (declare g c object init)
  declare_stands object init a s = declared_as_stands (slice_get c.homes object) (slice_get c.objects object) init a s

  -- ---- loops

  abbrev behind_mark : PointKind → Place → State → State
  behind_mark kind at s = (marked c kind at (record s { made = 0 })).state

  -- pieces in a list of their own, behind a mark
  marked_inside : {A : Type 0} (kind : PointKind) (at : Place) (part : State → Part A) (s : State)
      → inner_points (inside (λ s0. then_ (marked c kind at s0) (λ u s1. part s1)) s) ≡ point_at c.path at kind ∷ points_of (part (behind_mark kind at s))
  unfolding inside then_ emit
  marked_inside kind at part s = refl

  tested_stands : (test : Option CoreTree) → AreApart (optional_places test) → StandsIn (optional_places test) (tested g c test)
  tested_stands None a s = stand_none c.path
  tested_stands (Some e) a s = expression_stands c g callees e a s

  stepped_around : (list : List CoreActionTree) (at : Place) → AreApart (at ∷ actions_places list) → (s : State)
      → Around c.path at (point.Step ∷ point.End ∷ []) (actions_places list) (inner_points (inside (stepped g c list at) s) ++ point_at c.path at point.End ∷ [])
  unfolding stepped inside
  stepped_around [] at a s = around_more c.path at (point.End ∷ []) (point.Step ∷ point.End ∷ []) [] (point_at c.path at point.End ∷ []) (λ k i. inr i) (around_end c.path at point.End [] [] a (stand_none c.path))
  stepped_around (x ∷ rest) at a s =
      let steps = actions g c (x ∷ rest) (behind_mark point.Step at s) in
      let end = point_at c.path at point.End ∷ [] in
      let ps = actions_places (x ∷ rest) in
      subst (λ l. Around c.path at (point.Step ∷ point.End ∷ []) ps (l ++ end)) (sym (marked_inside point.Step at (actions g c (x ∷ rest)) s))
      (around_own c.path at point.Step (point.End ∷ []) ps (points_of steps ++ end) (step_differs, tt) a.0 (around_end c.path at point.End ps (points_of steps) a (actions_stand (x ∷ rest) a.1 (behind_mark point.Step at s))))

  repeat_stands : (post : Bool) (test : Option CoreTree) (body : State → Part (Unit {0})) (steps : List CoreActionTree) (at : Place) (bs list : List Place)
      → AreApart (at ∷ (optional_places test ++ (bs ++ actions_places steps))) → Covers list (at ∷ (optional_places test ++ (bs ++ actions_places steps))) → StandsIn bs body → StandsIn list (repeat g c post test body steps at)
  repeat_stands post test body steps at bs list a covers h s =
      let ts = optional_places test in
      let ss = actions_places steps in
      let id = next_loop s in
      let before = inside (λ s0. then_ (marked c point.Test at s0) (λ u s5. tested g c test s5)) id.state in
      let main = loop_body c at body before.state in
      let last = inside (stepped g c steps at) main.state in
      let end = point_in c point.End at in
      let piece = tree.repeat_ id.value post (piece_row before.value.pieces) before.value.value (piece_row main.value.pieces) (piece_row last.value.pieces) end in
      let tests = points_of (tested g c test (behind_mark point.Test at id.state)) in
      let bodies = points_of (body (behind_mark point.Body at before.state)) in
      let closing = inner_points last ++ end ∷ [] in
      let all : Stand c.path (at ∷ (ts ++ (bs ++ ss))) (point_at c.path at point.Test ∷ (tests ++ (point_at c.path at point.Body ∷ (bodies ++ closing)))) =
      whole tests bodies closing (tested_stands test (split ts (bs ++ ss) a.1).left (behind_mark point.Test at id.state)) (h (behind_mark point.Body at before.state)) (stepped_around steps at (behind_first at bs ss (behind_first at ts (bs ++ ss) a)) main.state) in
      let same : own_points piece ≡ point_at c.path at point.Test ∷ (tests ++ (point_at c.path at point.Body ∷ (bodies ++ closing))) =
      λ i. marked_inside point.Test at (λ s5. tested g c test s5) id.state i ++ (marked_inside point.Body at body before.state i ++ closing) in
      stand_more c.path (at ∷ (ts ++ (bs ++ ss))) list _ covers
      (stands_behind id _ c.path (at ∷ (ts ++ (bs ++ ss))) (loop_quiet s)
      (stands_behind before _ c.path (at ∷ (ts ++ (bs ++ ss))) (inside_quiet _ id.state)
      (stands_behind main _ c.path (at ∷ (ts ++ (bs ++ ss))) (inside_quiet _ before.state)
      (stands_behind last _ c.path (at ∷ (ts ++ (bs ++ ss))) (inside_quiet _ main.state) (subst (Stand c.path (at ∷ (ts ++ (bs ++ ss)))) (sym (emitted_points piece last.state ∙ same)) all)))))
    where
      whole : (tests bodies closing : List Point) → Stand c.path (optional_places test) tests → Stand c.path bs bodies → Around c.path at (point.Step ∷ point.End ∷ []) (actions_places steps) closing
          → Stand c.path (at ∷ (optional_places test ++ (bs ++ actions_places steps))) (point_at c.path at point.Test ∷ (tests ++ (point_at c.path at point.Body ∷ (bodies ++ closing))))
      whole tests bodies closing t b r =
          let later = behind_first at (optional_places test) (bs ++ actions_places steps) a in
          let looped = around_own c.path at point.Body (point.Step ∷ point.End ∷ []) (bs ++ actions_places steps) (bodies ++ closing) (body_differs.0, (body_differs.1, tt)) later.0 (around_inner c.path at (point.Step ∷ point.End ∷ []) bs (actions_places steps) bodies closing later b r) in
          let rest = point_at c.path at point.Body ∷ (bodies ++ closing) in
          around_stand c.path at (point.Test ∷ point.Body ∷ point.Step ∷ point.End ∷ []) (optional_places test ++ (bs ++ actions_places steps)) (point_at c.path at point.Test ∷ (tests ++ rest))
          (around_own c.path at point.Test (point.Body ∷ point.Step ∷ point.End ∷ []) (optional_places test ++ (bs ++ actions_places steps)) (tests ++ rest) (test_differs.0, (test_differs.1, (test_differs.2, tt))) a.0
          (around_inner c.path at (point.Body ∷ point.Step ∷ point.End ∷ []) (optional_places test) (bs ++ actions_places steps) tests rest a t looped))

  -- ---- returns

  result_stands : (value : Option CoreTree) → AreApart (optional_places value) → StandsIn (optional_places value) (result_set g c value)
  result_stands None a s = stand_none c.path
  result_stands (Some e) a s = let x = expression g c e s in stands_before x _ c.path (places e) (expression_stands c g callees e a s) (set_quiet (result_variable c.result) x.value x.state)

  left_quiet : (tail : Bool) (s : State) → Quiet (if tail then gives tt s else emit (tree.leave c.call) s)
  unfolding emit
  left_quiet true s = refl
  left_quiet false s = refl

  returned_stands : (value : Option CoreTree) (tail : Bool) → AreApart (optional_places value) → StandsIn (optional_places value) (returned g c value tail)
  returned_stands value tail a s = let r = result_set g c value s in stands_before r _ c.path (optional_places value) (result_stands value a s) (left_quiet tail r.state)

  -- ---- statements

  jump_quiet : (p : PieceTree) → own_points p ≡ [] → QuietThere (emit p)
  jump_quiet p h s = emitted_points p s ∙ h

  switch_points : (body : State → Part (Unit {0})) (s : State) → all_points (piece_row (inside_switch body s).value.0) ≡ points_of (body (record s { made = 0 }))
  unfolding inside_switch inside
  switch_points body s = refl

  labelled_points : (value : Option ℕ) (at : Place) (s : State) → points_of (labelled c value at s) ≡ point_at c.path at point.Arm ∷ []
  labelled_points value at s =
      let l = label value s in
      points_then l (λ u s1. marked c point.Arm at s1) ∙ ap (λ x. x ++ points_of (marked c point.Arm at l.state)) (label_quiet value s) ∙ marked_points point.Arm at l.state

  fork_stands : (at : Place) (xs ys : List Place) (qs rs : List Point) → AreApart (at ∷ (xs ++ ys)) → Stand c.path xs qs → Stand c.path ys rs
      → Stand c.path (at ∷ (xs ++ ys)) (point_at c.path at point.Arm ∷ (qs ++ (rs ++ point_at c.path at point.End ∷ [])))
  fork_stands at xs ys qs rs a q r =
      let closing = rs ++ point_at c.path at point.End ∷ [] in
      around_stand c.path at (point.Arm ∷ point.End ∷ []) (xs ++ ys) (point_at c.path at point.Arm ∷ (qs ++ closing))
      (around_own c.path at point.Arm (point.End ∷ []) (xs ++ ys) (qs ++ closing) (arm_differs_end, tt) a.0
      (around_inner c.path at (point.End ∷ []) xs ys qs closing a q (around_end c.path at point.End ys rs (behind_first at xs ys a) r)))

  nothing_inside : (s : State) → inner_points {A = Unit {0}} (inside (λ s0. gives tt s0) s) ≡ []
  unfolding inside
  nothing_inside s = refl

  other_quiet : (other : CoreElseTree) (tail : Bool) → QuietThere (other_branch g c other tail)
  other_quiet core.no_else tail s = inside_quiet (λ s0. gives tt s0) s
  other_quiet (core.else_ at body) tail s = inside_quiet (λ s0. then_ (marked c point.Arm at s0) (λ u s1. statement g c body tail s1)) s

  mutual
    pub statement_stands : (stmt : CoreStmtTree) (tail : Bool) → AreApart (stmt_places stmt) → StandsIn (stmt_places stmt) (statement g c stmt tail)
    statement_stands (core.block objects body) tail a s = statements_stand body tail a s
    statement_stands (core.declare object init) tail a s = declare_stands object init a s
    statement_stands (core.act list) tail a s = actions_stand list a s
    statement_stands (core.if_ test body other at) tail a s =
        let ts = places test in
        let bs = stmt_places body in
        let os = else_places other in
        let parts = split ts (bs ++ os) a.1 in
        let sides = split bs os parts.right in
        let x = expression g c test s in
        let first = branch c at (statement g c body tail) x.state in
        let second = other_branch g c other tail first.state in
        let fork = tree.fork x.value (piece_row first.value.pieces) (piece_row second.value.pieces) (point_in c point.End at) in
        let one = points_of (statement g c body tail (behind_mark point.Arm at x.state)) in
        let same : own_points fork ≡ point_at c.path at point.Arm ∷ (one ++ (inner_points second ++ point_at c.path at point.End ∷ [])) =
        λ i. marked_inside point.Arm at (statement g c body tail) x.state i ++ (inner_points second ++ point_at c.path at point.End ∷ []) in
        let own = fork_stands at bs os one (inner_points second) (behind_first at ts (bs ++ os) a) (statement_stands body tail sides.left (behind_mark point.Arm at x.state)) (other_stands other tail sides.right first.state) in
        stand_more c.path (ts ++ at ∷ (bs ++ os)) (at ∷ (ts ++ (bs ++ os))) _ (to_front at ts (bs ++ os))
        (stands_both x _ c.path ts (at ∷ (bs ++ os)) (moved_in at ts (bs ++ os) a) (expression_stands c g callees test parts.left s)
        (stands_behind first _ c.path (at ∷ (bs ++ os)) (inside_quiet _ x.state)
        (stands_behind second _ c.path (at ∷ (bs ++ os)) (other_quiet other tail first.state)
        (subst (Stand c.path (at ∷ (bs ++ os))) (sym (emitted_points fork second.state ∙ same)) own))))
    statement_stands (core.switch_ test objects body at) tail a s =
        let ts = places test in
        let bs = body_places body in
        let parts = split ts bs a.1 in
        let x = expression g c test s in
        let main = inside_switch (statements g c body false) x.state in
        let pick = tree.pick x.value main.value.1 (piece_row main.value.0) (point_in c point.End at) in
        let inner = points_of (statements g c body false (record x.state { made = 0 })) in
        let own = around_stand c.path at (point.End ∷ []) bs (inner ++ point_at c.path at point.End ∷ []) (around_end c.path at point.End bs inner (behind_first at ts bs a) (statements_stand body false parts.right (record x.state { made = 0 }))) in
        stand_more c.path (ts ++ at ∷ bs) (at ∷ (ts ++ bs)) _ (to_front at ts bs)
        (stands_both x _ c.path ts (at ∷ bs) (moved_in at ts bs a) (expression_stands c g callees test parts.left s)
        (stands_behind main _ c.path (at ∷ bs) (switch_quiet _ x.state)
        (subst (Stand c.path (at ∷ bs)) (sym (emitted_points pick main.state ∙ ap (λ l. l ++ point_at c.path at point.End ∷ []) (switch_points (statements g c body false) x.state))) own)))
    statement_stands (core.case_ value body at) tail a s =
        let bs = stmt_places body in
        let named = labelled c value at s in
        let inner = points_of (statement g c body false named.state) in
        subst (Stand c.path (at ∷ bs)) (sym (points_then named (λ u s1. statement g c body false s1) ∙ ap (λ l. l ++ inner) (labelled_points value at s)))
        (around_stand c.path at (point.Arm ∷ []) bs (point_at c.path at point.Arm ∷ inner) (around_own c.path at point.Arm [] bs inner tt a.0 (around_only c.path at bs inner (statement_stands body false a.1 named.state))))
    statement_stands (core.while_ test body at) tail a s =
        let bs = stmt_places body in
        repeat_stands false (Some test) (statement g c body false) [] at bs (at ∷ (places test ++ bs)) (no_steps at (places test) bs a) (steps_away at (places test) bs)
        (λ s1. statement_stands body false (split (places test) bs a.1).right s1) s
    statement_stands (core.do_ body test at) tail a s =
        let bs = stmt_places body in
        repeat_stands true (Some test) (statement g c body false) [] at bs (at ∷ (bs ++ places test)) (no_steps at (places test) bs (turned_round at bs (places test) a)) (λ x i. turned_in at bs (places test) x (steps_away at (places test) bs x i))
        (λ s1. statement_stands body false (split bs (places test) a.1).left s1) s
    statement_stands (core.for_ objects init test steps body at) tail a s =
        let is = body_places init in
        let ts = optional_places test in
        let ss = actions_places steps in
        let bs = stmt_places body in
        let parts = split is (ts ++ (ss ++ bs)) a.1 in
        let later = behind_first at is (ts ++ (ss ++ bs)) a in
        let before = statements g c init false s in
        stand_more c.path (is ++ at ∷ (ts ++ (ss ++ bs))) (at ∷ (is ++ (ts ++ (ss ++ bs)))) _ (to_front at is (ts ++ (ss ++ bs)))
        (stands_both before _ c.path is (at ∷ (ts ++ (ss ++ bs))) (moved_in at is (ts ++ (ss ++ bs)) a) (statements_stand init false parts.left s)
        (repeat_stands false test (statement g c body false) steps at bs (at ∷ (ts ++ (ss ++ bs))) (swapped_last at ts ss bs later) (behind_same at (ts ++ (ss ++ bs)) (ts ++ (bs ++ ss)) (swapped_last_in ts bs ss))
        (λ s1. statement_stands body false (split ss bs (split ts (ss ++ bs) later.1).right).right s1) before.state))
    statement_stands core.break_ tail a s = stands_quiet c.path [] (emit tree.break_ s) (jump_quiet tree.break_ refl s)
    statement_stands core.continue_ tail a s = stands_quiet c.path [] (emit tree.next_ s) (jump_quiet tree.next_ refl s)
    statement_stands (core.return_ value) tail a s = returned_stands value tail a s

    other_stands : (other : CoreElseTree) (tail : Bool) → AreApart (else_places other) → (s : State) → Stand c.path (else_places other) (inner_points (other_branch g c other tail s))
    other_stands core.no_else tail a s = subst (Stand c.path []) (sym (nothing_inside s)) (stand_none c.path)
    other_stands (core.else_ at body) tail a s =
        let bs = stmt_places body in
        let inner = points_of (statement g c body tail (behind_mark point.Arm at s)) in
        subst (Stand c.path (at ∷ bs)) (sym (marked_inside point.Arm at (statement g c body tail) s))
        (around_stand c.path at (point.Arm ∷ []) bs (point_at c.path at point.Arm ∷ inner) (around_own c.path at point.Arm [] bs inner tt a.0 (around_only c.path at bs inner (statement_stands body tail a.1 (behind_mark point.Arm at s)))))

    pub statements_stand : (body : CoreStmtTrees) (tail : Bool) → AreApart (body_places body) → StandsIn (body_places body) (statements g c body tail)
    statements_stand core.no_stmt tail a s = stand_none c.path
    statements_stand (core.more_stmts first rest) tail a s =
        let parts = split (stmt_places first) (body_places rest) a in
        let x = statement g c first (tail && is_empty rest) s in
        stands_both x _ c.path (stmt_places first) (body_places rest) a (statement_stands first (tail && is_empty rest) parts.left s) (statements_stand rest tail parts.right x.state)
