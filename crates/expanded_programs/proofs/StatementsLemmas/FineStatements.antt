-- What the pieces of a statement keep.
use Rattle.std.proofs.Common.{◌≡◌, ◌≢◌, ℕ, ◌≤◌, ◌<◌, ◌⊎◌, inl, inr, ◌∙◌, sym, refl, ap, subst, ℤ, Bool, true, false, ◌&&◌, List, [], ◌∷◌, ◌++◌, length, slice_get, Option, Some, None, le_refl, le_trans, arith, if◌then◌else◌}
use Rattle.std.specs.Prelude.{zero, suc, ◌+◌, slice_set}
use Rattle.std.proofs.lemmas.List.{length-append}
use Rattle.hls_base.specs.declared.place.Place.{Place}
use Rattle.hls_base.specs.declared.number.VarId.{VarId}
use Rattle.hls_base.specs.declared.number.ArrayId.{ArrayId}
use Rattle.hls_base.specs.declared.point.PointKind.{PointKind}
use Rattle.hls_base.specs.declared.point.PointKind.TheVariants as point
use Rattle.pieces.specs.declared.resolved.expression.Cell.{Cell}
use Rattle.pieces.specs.Resolved.Core as core
use Rattle.pieces.specs.Resolved.Core.{CoreTree, CoreTrees, ArgumentTrees, CoreObjectTree, CoreInitTree, CoreActionTree, CoreStmtTree, CoreStmtTrees, CoreElseTree, binary}
use Rattle.pieces.specs.Trees as tree
use Rattle.pieces.specs.Trees.{PureTree, PureTrees, PieceTree, piece_row, row}
use Rattle.piece_making.specs.declared.frame.Home.{Home}
use Rattle.piece_making.specs.declared.frame.Home.TheVariants as home
use Rattle.piece_making.specs.declared.work.Slot.{Slot}
use Rattle.piece_making.specs.Acting.{no_effects, effects}
use Rattle.piece_making.specs.Making.{State, Part, Inner, gives, then_, emit, inside, inside_switch, label, declared, next_loop, note_array, add_array, fresh}
use Rattle.piece_making.specs.Leaving.{is_empty}
use Rattle.piece_making.specs.Objects.{local_array, array_like}
use Rattle.piece_making.specs.Calls.{Call, variable, point_in}
use Rattle.piece_making.specs.Assigning.{Change, change, step, one, apply, new_value, target_read}
use Rattle.c_meaning.specs.PieceRuns.Values.{Store}
use Rattle.c_meaning.specs.PieceRuns.Pieces.{Frame}
use Rattle.c_expand.specs.Expressions.{Callee, expression, operands, targeted, discarded, is_call}
use Rattle.c_expand.specs.Statements.{marked, valued, changed, action, actions, item_value, filled, initialised, scalar_declared, declared_as, declare, tested, stepped, loop_body, repeat, result_variable, result_set, returned, branch, labelled, switched, statement, other_branch, statements, subscripts_at}
use Rattle.expand_runs.specs.Growing.{Begins, IsLater, IsGrown, LandFrom, LandsFrom}
use Rattle.expand_runs.specs.Sound.{Changes, AnyChanges}
use Rattle.expand_runs.specs.Fitting.{CallsFit, AllFit}
use Rattle.expanded_programs.specs.Statements.Each.{IfThere, EachItem, InInit, EachAction, InStmt, InElse, InStmts, IfReturned, ReturnsIn, ElseReturnsIn, AllReturnIn}
use Rattle.expand_runs.proofs.Growing.{later_same, later_emit, begins_more, grown_later, grown_both, slots_there, slots_length}
use Rattle.expand_runs.proofs.Fine.{Sets, Puts, AreAllowed, allowed_behind, lands_behind, lands_less, IsFine, fine_gives, fine_then, fine_emit, fine_set, fine_put}
use Rattle.expand_runs.proofs.FineExpressions.{Permits, CalleesFine, expression_fine, operands_fine, target_fine, discarded_fine, store_fine, some_given}
use Rattle.c_token.specs.declared.ctype.CType.{CType}
use Rattle.c_meaning.specs.CoreRuns.Statements.{action_tree}
use Rattle.piece_making.specs.declared.effects.Effects.{Effects}
use Rattle.c_tree.specs.declared.operator.Binary.{Binary}

module _ (f : Frame) (I : Store → Type 0) (P : ℕ → Type 0) where
  -- a part that grows the state, keeps these slots, and whose pieces keep what I says
  pub record Keeps {A : Type 0} (s : State) (part : Part A) : Type 0 where
    pub grown : IsGrown P s part.state
    pub allowed : AreAllowed f I part.pieces
    pub lands : LandsFrom s.calls part.pieces

  pub keeps_fine : {A : Type 0} (s : State) (part : Part A) → IsFine f I s part → Keeps s part
  keeps_fine s part h = record { grown = grown_later P s part.state h.later; allowed = h.allowed; lands = h.lands }

  pub keeps_gives : {A : Type 0} (x : A) (s : State) → Keeps s (gives x s)
  keeps_gives x s = keeps_fine s (gives x s) (fine_gives f I x s)

  pub keeps_then : {A B : Type 0} (s : State) (first : Part A) (next : A → State → Part B) → Keeps s first → Keeps first.state (next first.value first.state) → Keeps s (then_ first next)
  unfolding then_
  keeps_then s first next h g = record {
    grown = grown_both P s first.state (next first.value first.state).state h.grown g.grown;
    allowed = allowed_behind f I first.pieces (next first.value first.state).pieces h.allowed g.allowed;
    lands = lands_behind s.calls first.pieces (next first.value first.state).pieces h.lands (lands_less s.calls first.state.calls h.grown.calls (next first.value first.state).pieces g.lands);
  }

  -- pieces in a list of their own
  pub record KeepsWithin {A : Type 0} (s : State) (part : Part (Inner A)) : Type 0 where
    pub outside : Keeps s part
    pub inner : AreAllowed f I part.value.pieces

  pub keeps_inside : {A : Type 0} (part : State → Part A) (s : State) → ((s1 : State) → s1.variables ≡ s.variables → Keeps s1 (part s1)) → KeepsWithin s (inside part s)
  unfolding inside
  keeps_inside part s h =
      let q = h (record s { made = 0 }) refl in
      record {
        outside = record {
          grown = record { variables = q.grown.variables; more = q.grown.more; arrays = q.grown.arrays; more_arrays = q.grown.more_arrays; slots = q.grown.slots; more_slots = q.grown.more_slots; calls = q.grown.calls };
          allowed = tt;
          lands = tt;
        };
        inner = q.allowed;
      }

  pub keeps_switch : {A : Type 0} (part : State → Part A) (s : State) → ((s1 : State) → s1.variables ≡ s.variables → Keeps s1 (part s1)) → Keeps s (inside_switch part s) × AreAllowed f I (inside_switch part s).value.0
  unfolding inside_switch inside
  keeps_switch part s h =
      let q = h (record s { made = 0 }) refl in (
        record {
          grown = record { variables = q.grown.variables; more = q.grown.more; arrays = q.grown.arrays; more_arrays = q.grown.more_arrays; slots = q.grown.slots; more_slots = q.grown.more_slots; calls = q.grown.calls };
          allowed = tt;
          lands = tt;
        },
        q.allowed,
      )

  keeps_declared : (weight : ℕ) (s : State) → Keeps s (declared weight s)
  unfolding declared
  keeps_declared weight s = record { grown = grown_later P s s (later_same s); allowed = tt; lands = tt }

  keeps_label : (value : Option ℕ) (s : State) → Keeps s (label value s)
  unfolding label
  keeps_label value s = record { grown = grown_later P s s (later_same s); allowed = tt; lands = tt }

  keeps_loop : (s : State) → Keeps s (next_loop s)
  unfolding next_loop
  keeps_loop s = record { grown = record { variables = λ i x e. e; more = le_refl _; arrays = λ i x e. e; more_arrays = le_refl _; slots = λ i x p e. e; more_slots = le_refl _; calls = le_refl _ }; allowed = tt; lands = tt }

  keeps_array : (o : CoreObjectTree) (s : State) → Keeps s (local_array o s)
  unfolding then_ declared add_array
  keeps_array o s = record {
    grown = record {
      variables = λ i x e. e;
      more = le_refl _;
      arrays = begins_more s.arrays (_ ∷ []);
      more_arrays = let e = length-append s.arrays (array_like o None None false ∷ []) in omega (arith, e);
      slots = λ i x p e. e;
      more_slots = le_refl _;
      calls = le_refl _;
    };
    allowed = tt;
    lands = tt;
  }

  keeps_note : (slot : Slot) (a : ArrayId) (s : State) → (P slot.0 → ⊥) → Keeps s (note_array slot a s)
  unfolding note_array
  keeps_note slot a s h = record {
    grown = record { variables = λ i x e. e; more = le_refl _; arrays = λ i x e. e; more_arrays = le_refl _; slots = λ i x p e. slots_there s.slots slot.0 i (Some a) (λ z. h (subst P (sym z) p)) ∙ e; more_slots = (let q = slots_length s.slots slot.0 (Some a) in omega (arith, q)); calls = le_refl _ };
    allowed = tt;
    lands = tt;
  }

  module _ (low : ℕ) (own : (i : ℕ) → low ≤ i → Sets f I i) (g : Callee) (c : Call) (F : ℕ → ArgumentTrees → Type 0) (callees : CalleesFine f I low own g c F)
      (file : (i : ℕ) → i < c.file_variables → Sets f I i) (puts : Puts f I) where
    further : {A : Type 0} (s : State) (part : Part A) → Keeps s part → low ≤ length s.variables → low ≤ length part.state.variables
    further s part h le = le_trans le h.grown.more

    -- calls in the expression are such, and what it changes may be set
    abbrev pub May : CoreTree → Type 0
    May e = CallsFit F e × ((x : Cell) → Changes x e → Sets f I (variable c x).0)

    -- The object is no array whose slot is kept, and its variable may be set.
    abbrev pub MayDeclare : ℕ → Type 0
    MayDeclare object = ((slot : Slot) → slice_get c.homes object ≡ Some (home.Local slot) → P slot.0 → ⊥) × ((name : VarId) → slice_get c.homes object ≡ Some (home.Variable name) → Sets f I name.0)

    pub keeps_expression : (e : CoreTree) (s : State) → low ≤ length s.variables → May e → Keeps s (expression g c e s)
    keeps_expression e s le h = keeps_fine s (expression g c e s) (expression_fine f I low own g c F callees e s le h.0 (record { cells = h.1; calls = λ z. file; puts = λ z. puts }))

    keeps_set : (name : VarId) (v : PureTree) (s : State) → Sets f I name.0 → Keeps s (emit (tree.set name v) s)
    keeps_set name v s h = keeps_fine s (emit (tree.set name v) s) (fine_set f I name v s h)

    keeps_mark : (kind : PointKind) (at : Place) (s : State) → Keeps s (marked c kind at s)
    keeps_mark kind at s = keeps_fine s (marked c kind at s) (fine_emit f I (tree.mark _) s tt tt)

    -- ---- actions

    valued_keeps : (e : CoreTree) (s : State) → low ≤ length s.variables → May e → Keeps s (valued g c e s)
    unfolding valued
    valued_keeps e s le h =
        let x = expression g c e s in
        let q = keeps_expression e s le h in
        keeps_then s x (λ y s1. discarded (is_call e) y s1) q (keeps_fine x.state (discarded (is_call e) x.value x.state) (discarded_fine f I low own (is_call e) x.value x.state (further s x q le)))

    -- a target whose subscripts are made
    target_keeps : (cell : Cell) (subscripts : CoreTrees) (kd : CType) (place : Place) (later : Effects) (op : Option Binary) (at : Place) (s : State) → low ≤ length s.variables → AllFit F subscripts → ((x : Cell) → AnyChanges x subscripts → Sets f I (variable c x).0)
        → Keeps s (targeted g c (core.target cell subscripts kd place) later op at s)
    target_keeps cell subscripts kd place later op at s le fit cells =
        keeps_fine s (targeted g c (core.target cell subscripts kd place) later op at s) (target_fine f I low own g c F callees cell subscripts kd place later op at s
        (operands_fine f I low own g c F callees subscripts later [] s le fit (record { cells = cells; calls = λ z. file; puts = λ z. puts })))

    apply_keeps : (t : Change) (by : PureTree) (s : State) → (t.subscripts ≡ tree.none → Sets f I (variable c t.cell).0) → Keeps s (apply c t by s)
    apply_keeps t by s h = keeps_fine s (apply c t by s) (store_fine f I low own c t.cell t.target_at t.subscripts (new_value t (target_read c t s) by) s h puts)

    changed_keeps : (e : CoreTree) (s : State) → low ≤ length s.variables → May e → Keeps s (changed g c e s)
    unfolding changed then_
    changed_keeps (core.assign (core.target cell core.none kd place) op v at) s le h =
        let t = targeted g c (core.target cell core.none kd place) (effects v) op at s in
        let q = target_keeps cell core.none kd place (effects v) op at s le tt (λ x d. absurd d) in
        let by = expression g c v t.state in
        let r = keeps_expression v t.state (further s t q le) (h.0.1, λ x d. h.1 x (inr d)) in
        keeps_then s t (λ t1 s1. then_ (expression g c v s1) (λ by s2. apply c t1 by s2)) q
        (keeps_then t.state by (λ by1 s2. apply c t.value by1 s2) r (apply_keeps t.value by.value by.state (λ z. h.1 cell (inl refl))))
    changed_keeps (core.assign (core.target cell (core.more first rest) kd place) op v at) s le h =
        let subscripts = core.more first rest in
        let t = targeted g c (core.target cell subscripts kd place) (effects v) op at s in
        let q = target_keeps cell subscripts kd place (effects v) op at s le h.0.0 (λ x d. h.1 x (inl d)) in
        let by = expression g c v t.state in
        let r = keeps_expression v t.state (further s t q le) (h.0.1, λ x d. h.1 x (inr d)) in
        keeps_then s t (λ t1 s1. then_ (expression g c v s1) (λ by s2. apply c t1 by s2)) q
        (keeps_then t.state by (λ by1 s2. apply c t.value by1 s2) r (apply_keeps t.value by.value by.state (λ z. absurd (some_given f I low own g c F callees first rest (effects v) s z))))
    changed_keeps (core.bump (core.target cell core.none kd place) up post at) s le h =
        let t = targeted g c (core.target cell core.none kd place) no_effects (step up) at s in
        let q = target_keeps cell core.none kd place no_effects (step up) at s le tt (λ x d. absurd d) in
        keeps_then s t (λ t1 s1. apply c t1 one s1) q (apply_keeps t.value one t.state (λ z. h.1 cell refl))
    changed_keeps (core.bump (core.target cell (core.more first rest) kd place) up post at) s le h =
        let t = targeted g c (core.target cell (core.more first rest) kd place) no_effects (step up) at s in
        let q = target_keeps cell (core.more first rest) kd place no_effects (step up) at s le h.0 (λ x d. h.1 x d) in
        keeps_then s t (λ t1 s1. apply c t1 one s1) q (apply_keeps t.value one t.state (λ z. absurd (some_given f I low own g c F callees first rest no_effects s z)))
    changed_keeps (core.number v k) s le h = valued_keeps (core.number v k) s le h
    changed_keeps (core.scalar cell k at) s le h = valued_keeps (core.scalar cell k at) s le h
    changed_keeps (core.element name subscripts k at) s le h = valued_keeps (core.element name subscripts k at) s le h
    changed_keeps (core.call callee args k at) s le h = valued_keeps (core.call callee args k at) s le h
    changed_keeps (core.unary op arg k at) s le h = valued_keeps (core.unary op arg k at) s le h
    changed_keeps (core.binary op left right k at) s le h = valued_keeps (core.binary op left right k at) s le h
    changed_keeps (core.choice test left right k at colon) s le h = valued_keeps (core.choice test left right k at colon) s le h
    changed_keeps (core.cast to arg) s le h = valued_keeps (core.cast to arg) s le h
    changed_keeps (core.comma left right) s le h = valued_keeps (core.comma left right) s le h

    pub action_keeps : (a : CoreActionTree) (s : State) → low ≤ length s.variables → May (action_tree a) → Keeps s (action g c a s)
    action_keeps (core.change e) s le h = changed_keeps e s le h
    action_keeps (core.value e) s le h = valued_keeps e s le h

    pub actions_keep : (list : List CoreActionTree) (s : State) → low ≤ length s.variables → EachAction May MayDeclare list → Keeps s (actions g c list s)
    unfolding actions
    actions_keep [] s le h = keeps_gives tt s
    actions_keep (a ∷ rest) s le h =
        let x = action g c a s in
        let q = action_keeps a s le h.0 in
        keeps_then s x (λ u s1. actions g c rest s1) q (actions_keep rest x.state (further s x q le) h.1)

    -- ---- declarations

    item_keeps : (item : Option CoreTree) (s : State) → low ≤ length s.variables → IfThere May MayDeclare item → Keeps s (item_value g c item s)
    item_keeps None s le h = keeps_gives _ s
    item_keeps (Some e) s le h = keeps_expression e s le h

    pub filled_keeps : (array : ArrayId) (lengths : List ℕ) (n : ℕ) (items : List (Option CoreTree)) (s : State) → low ≤ length s.variables → EachItem May MayDeclare items → Keeps s (filled g c array lengths n items s)
    filled_keeps array lengths n [] s le h = keeps_gives tt s
    filled_keeps array lengths n (item ∷ items) s le h =
        let x = item_value g c item s in
        let q = item_keeps item s le h.0 in
        let e = emit (tree.put array (subscripts_at lengths n) x.value c.body_at) x.state in
        let r = keeps_fine x.state e (fine_put f I array (subscripts_at lengths n) x.value c.body_at x.state puts) in
        keeps_then s x (λ x1 s1. then_ (emit (tree.put array (subscripts_at lengths n) x1 c.body_at) s1) (λ u s2. filled g c array lengths (n + 1) items s2)) q
        (keeps_then x.state e (λ u s2. filled g c array lengths (n + 1) items s2) r (filled_keeps array lengths (n + 1) items e.state (further x.state e r (further s x q le)) h.1))

    pub initialised_keeps : (array : ArrayId) (lengths : List ℕ) (init : CoreInitTree) (s : State) → low ≤ length s.variables → InInit May MayDeclare init → Keeps s (initialised g c array lengths init s)
    initialised_keeps array lengths core.unwritten s le h = keeps_gives tt s
    initialised_keeps array lengths (core.single v) s le h = keeps_gives tt s
    initialised_keeps array lengths (core.elements items) s le h = filled_keeps array lengths 0 items s le h

    scalar_keeps : (name : VarId) (init : CoreInitTree) (s : State) → low ≤ length s.variables → Sets f I name.0 → InInit May MayDeclare init → Keeps s (scalar_declared g c name init s)
    scalar_keeps name core.unwritten s le set_ h = keeps_declared 1 s
    scalar_keeps name (core.single v) s le set_ h =
        let x = expression g c v s in
        keeps_then s x (λ y s1. emit (tree.set name y) s1) (keeps_expression v s le h) (keeps_set name x.value x.state set_)
    scalar_keeps name (core.elements items) s le set_ h = keeps_gives tt s

    declared_keeps : (at : Option Home) (object : Option CoreObjectTree) (init : CoreInitTree) (s : State) → low ≤ length s.variables → ((slot : Slot) → at ≡ Some (home.Local slot) → P slot.0 → ⊥) → ((name : VarId) → at ≡ Some (home.Variable name) → Sets f I name.0)
        → InInit May MayDeclare init → Keeps s (declared_as g c at object init s)
    declared_keeps (Some (home.Variable name)) object init s le slots names h = scalar_keeps name init s le (names name refl) h
    declared_keeps (Some (home.Local slot)) (Some o) init s le slots names h =
        let a = local_array o s in
        let q = keeps_array o s in
        let n = note_array slot a.value a.state in
        let r = keeps_note slot a.value a.state (slots slot refl) in
        keeps_then s a (λ array s1. then_ (note_array slot array s1) (λ u s2. initialised g c array o.lengths init s2)) q
        (keeps_then a.state n (λ u s2. initialised g c a.value o.lengths init s2) r (initialised_keeps a.value o.lengths init n.state (further a.state n r (further s a q le)) h))
    declared_keeps (Some (home.Local slot)) None init s le slots names h = keeps_gives tt s
    declared_keeps (Some (home.Array array)) object init s le slots names h = keeps_gives tt s
    declared_keeps (Some (home.Constant word)) object init s le slots names h = keeps_gives tt s
    declared_keeps None object init s le slots names h = keeps_gives tt s

    -- ---- loops

    tested_keeps : (test : Option CoreTree) (s : State) → low ≤ length s.variables → IfThere May MayDeclare test → Keeps s (tested g c test s)
    tested_keeps None s le h = keeps_gives one s
    tested_keeps (Some e) s le h = keeps_expression e s le h

    stepped_keeps : (list : List CoreActionTree) (at : Place) (s : State) → low ≤ length s.variables → EachAction May MayDeclare list → Keeps s (stepped g c list at s)
    unfolding stepped
    stepped_keeps [] at s le h = keeps_gives tt s
    stepped_keeps (a ∷ rest) at s le h =
        let m = marked c point.Step at s in
        let q = keeps_mark point.Step at s in
        keeps_then s m (λ u s1. actions g c (a ∷ rest) s1) q (actions_keep (a ∷ rest) m.state (further s m q le) h)

    abbrev KeepsThere : {A : Type 0} → (State → Part A) → Type 0
    KeepsThere part = (s : State) → low ≤ length s.variables → Keeps s (part s)

    low_inside : (s s0 : State) → s0.variables ≡ s.variables → low ≤ length s.variables → low ≤ length s0.variables
    low_inside s s0 e le = let z = ap length e in omega (arith, le, z)

    behind_mark : {A : Type 0} (kind : PointKind) (at : Place) (part : State → Part A) (s : State) → low ≤ length s.variables → KeepsThere part → KeepsWithin s (inside (λ s0. then_ (marked c kind at s0) (λ u s1. part s1)) s)
    behind_mark kind at part s le h = keeps_inside (λ s0. then_ (marked c kind at s0) (λ u s1. part s1)) s (λ s0 e.
        let m = marked c kind at s0 in
        let q = keeps_mark kind at s0 in
        keeps_then s0 m (λ u s1. part s1) q (h m.state (further s0 m q (low_inside s s0 e le))))

    pub repeat_keeps : (post : Bool) (test : Option CoreTree) (body : State → Part (Unit {0})) (steps : List CoreActionTree) (at : Place) (s : State) → low ≤ length s.variables → IfThere May MayDeclare test → EachAction May MayDeclare steps → KeepsThere body
        → Keeps s (repeat g c post test body steps at s)
    repeat_keeps post test body steps at s le ht hs hb =
        let id = next_loop s in
        let s1 = id.state in
        let q1 = keeps_loop s in
        let le1 = further s id q1 le in
        let before = inside (λ s0. then_ (marked c point.Test at s0) (λ u s5. tested g c test s5)) s1 in
        let q2 = behind_mark point.Test at (λ s5. tested g c test s5) s1 le1 (λ s5 le5. tested_keeps test s5 le5 ht) in
        let le2 = further s1 before q2.outside le1 in
        let main = loop_body c at body before.state in
        let q3 = behind_mark point.Body at body before.state le2 hb in
        let le3 = further before.state main q3.outside le2 in
        let last = inside (stepped g c steps at) main.state in
        let q4 = keeps_inside (stepped g c steps at) main.state (λ s0 e. stepped_keeps steps at s0 (low_inside main.state s0 e le3) hs) in
        keeps_then s id _ q1
        (keeps_then s1 before _ q2.outside
        (keeps_then before.state main _ q3.outside
        (keeps_then main.state last _ q4.outside
        (keeps_fine last.state _ (fine_emit f I (tree.repeat_ id.value post (piece_row before.value.pieces) before.value.value (piece_row main.value.pieces) (piece_row last.value.pieces) (point_in c point.End at)) last.state (q2.inner, q3.inner, q4.inner) tt)))))

    -- ---- statements

    returned_keeps : (value : Option CoreTree) (tail : Bool) (s : State) → low ≤ length s.variables → IfReturned (Sets f I (result_variable c.result).0) value → IfThere May MayDeclare value → Keeps s (returned g c value tail s)
    returned_keeps value tail s le set_ h =
        let r = result_set g c value s in
        keeps_then s r (λ u s1. if tail then gives tt s1 else emit (tree.leave c.call) s1) (result_keeps value set_ h) (left_keeps tail r.state)
      where
        result_keeps : (value : Option CoreTree) → IfReturned (Sets f I (result_variable c.result).0) value → IfThere May MayDeclare value → Keeps s (result_set g c value s)
        result_keeps None set_ h = keeps_gives tt s
        result_keeps (Some e) set_ h =
            let x = expression g c e s in
            keeps_then s x (λ y s1. emit (tree.set (result_variable c.result) y) s1) (keeps_expression e s le h) (keeps_set (result_variable c.result) x.value x.state set_)

        left_keeps : (tail : Bool) (s1 : State) → Keeps s1 (if tail then gives tt s1 else emit (tree.leave c.call) s1)
        left_keeps true s1 = keeps_gives tt s1
        left_keeps false s1 = keeps_fine s1 (emit (tree.leave c.call) s1) (fine_emit f I (tree.leave c.call) s1 tt tt)

    -- Where a value is returned, the variable of the result may be set.
    abbrev pub SetsResult : Type 0
    SetsResult = Sets f I (result_variable c.result).0

    mutual
      pub statement_keeps : (b : CoreStmtTree) (tail : Bool) (s : State) → low ≤ length s.variables → ReturnsIn SetsResult b → InStmt May MayDeclare b → Keeps s (statement g c b tail s)
      statement_keeps (core.block objects body) tail s le v h = statements_keep body tail s le v h
      statement_keeps (core.declare object init) tail s le v h = declared_keeps (slice_get c.homes object) (slice_get c.objects object) init s le h.0.0 h.0.1 h.1
      statement_keeps (core.act list) tail s le v h = actions_keep list s le h
      statement_keeps (core.if_ test body other at) tail s le v h =
          let x = expression g c test s in
          let q1 = keeps_expression test s le h.0 in
          let le1 = further s x q1 le in
          let first = branch c at (statement g c body tail) x.state in
          let q2 = behind_mark point.Arm at (statement g c body tail) x.state le1 (λ s1 le1. statement_keeps body tail s1 le1 v.0 h.1) in
          let le2 = further x.state first q2.outside le1 in
          let second = other_branch g c other tail first.state in
          let q3 = other_keeps other tail first.state le2 v.1 h.2 in
          keeps_then s x _ q1
          (keeps_then x.state first _ q2.outside
          (keeps_then first.state second _ q3.outside
          (keeps_fine second.state _ (fine_emit f I (tree.fork x.value (piece_row first.value.pieces) (piece_row second.value.pieces) (point_in c point.End at)) second.state (q2.inner, q3.inner) tt))))
      statement_keeps (core.switch_ test objects body at) tail s le v h =
          let x = expression g c test s in
          let q1 = keeps_expression test s le h.0 in
          let le1 = further s x q1 le in
          let main = inside_switch (statements g c body false) x.state in
          let q2 = keeps_switch (statements g c body false) x.state (λ s0 e. statements_keep body false s0 (low_inside x.state s0 e le1) v h.1) in
          keeps_then s x _ q1
          (keeps_then x.state main _ q2.0
          (keeps_fine main.state _ (fine_emit f I (tree.pick x.value main.value.1 (piece_row main.value.0) (point_in c point.End at)) main.state q2.1 tt)))
      statement_keeps (core.case_ value body at) tail s le v h =
          let l = labelled c value at s in
          let m = label value s in
          let q = keeps_then s m (λ u s1. marked c point.Arm at s1) (keeps_label value s) (keeps_mark point.Arm at m.state) in
          keeps_then s l (λ u s1. statement g c body false s1) q (statement_keeps body false l.state (further s l q le) v h)
      statement_keeps (core.while_ test body at) tail s le v h = repeat_keeps false (Some test) (statement g c body false) [] at s le h.0 tt (λ s1 le1. statement_keeps body false s1 le1 v h.1)
      statement_keeps (core.do_ body test at) tail s le v h = repeat_keeps true (Some test) (statement g c body false) [] at s le h.0 tt (λ s1 le1. statement_keeps body false s1 le1 v h.1)
      statement_keeps (core.for_ objects init test steps body at) tail s le v h =
          let i = statements g c init false s in
          let q = statements_keep init false s le v.0 h.0 in
          keeps_then s i (λ u s1. repeat g c false test (statement g c body false) steps at s1) q
          (repeat_keeps false test (statement g c body false) steps at i.state (further s i q le) h.1 h.2 (λ s1 le1. statement_keeps body false s1 le1 v.1 h.3))
      statement_keeps core.break_ tail s le v h = keeps_fine s (emit tree.break_ s) (fine_emit f I tree.break_ s tt tt)
      statement_keeps core.continue_ tail s le v h = keeps_fine s (emit tree.next_ s) (fine_emit f I tree.next_ s tt tt)
      statement_keeps (core.return_ value) tail s le v h = returned_keeps value tail s le v h

      other_keeps : (other : CoreElseTree) (tail : Bool) (s : State) → low ≤ length s.variables → ElseReturnsIn SetsResult other → InElse May MayDeclare other → KeepsWithin s (other_branch g c other tail s)
      other_keeps core.no_else tail s le v h = keeps_inside (λ s0. gives tt s0) s (λ s0 e. keeps_gives tt s0)
      other_keeps (core.else_ at body) tail s le v h = behind_mark point.Arm at (statement g c body tail) s le (λ s1 le1. statement_keeps body tail s1 le1 v h)

      pub statements_keep : (body : CoreStmtTrees) (tail : Bool) (s : State) → low ≤ length s.variables → AllReturnIn SetsResult body → InStmts May MayDeclare body → Keeps s (statements g c body tail s)
      statements_keep core.no_stmt tail s le v h = keeps_gives tt s
      statements_keep (core.more_stmts first rest) tail s le v h =
          let x = statement g c first (tail && is_empty rest) s in
          let q = statement_keeps first (tail && is_empty rest) s le v.0 h.0 in
          keeps_then s x (λ u s1. statements g c rest tail s1) q (statements_keep rest tail x.state (further s x q le) v.1 h.1)
