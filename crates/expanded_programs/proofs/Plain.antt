-- All arrays that are made for the text of functions are arrays of declarations.
use Rattle.std.proofs.Common.{◌≡◌, ℕ, zero, suc, ◌+◌, ◌∙◌, sym, refl, ap, Bool, true, false, ◌&&◌, List, [], ◌∷◌, ◌++◌, drop, slice_get, Option, Some, None, if◌then◌else◌}
use Rattle.std.proofs.lemmas.List.{append_assoc, append-nil}
use Rattle.hls_base.specs.declared.place.Place.{Place}
use Rattle.hls_base.specs.declared.point.PointKind.{PointKind}
use Rattle.hls_base.specs.declared.point.PointKind.TheVariants as point
use Rattle.hls_base.specs.declared.number.VarId.{VarId}
use Rattle.hls_base.specs.declared.number.ArrayId.{ArrayId}
use Rattle.c_token.specs.declared.ctype.CType.{CType}
use Rattle.c_tree.specs.declared.operator.Binary.{Binary}
use Rattle.pieces.specs.Resolved.Core as core
use Rattle.pieces.specs.Resolved.Core.{CoreTree, CoreTargetTree, CoreTrees, ArgumentTree, ArgumentTrees, CoreObjectTree, CoreInitTree, CoreActionTree, CoreStmtTree, CoreStmtTrees, CoreElseTree, CoreFunctionTree}
use Rattle.pieces.specs.Trees as tree
use Rattle.pieces.specs.Trees.{PureTree, PureTrees, PieceTree}
use Rattle.pieces.specs.Program.{ArrayTree}
use Rattle.piece_making.specs.declared.frame.Home.{Home}
use Rattle.piece_making.specs.declared.frame.Home.TheVariants as home
use Rattle.piece_making.specs.declared.effects.Effects.{Effects}
use Rattle.piece_making.specs.declared.work.Slot.{Slot}
use Rattle.piece_making.specs.Making.{State, Part, gives, then_, emit, inside, inside_switch, label, declared, next_loop, note_array, next_call, new_slot, fresh, fresh_result, add_array, set_own}
use Rattle.piece_making.specs.Calls.{Call}
use Rattle.piece_making.specs.Objects.{local, local_of, local_array, array_like}
use Rattle.piece_making.specs.Saving.{saved, all_saved, saved_if, save, is_logical}
use Rattle.piece_making.specs.Acting.{spoils, acts, no_effects, either, effects, effects_of_all, effects_of_arguments}
use Rattle.piece_making.specs.Leaving.{is_empty}
use Rattle.piece_making.specs.Assigning.{Change, step, store, store_at, assigned, bumped}
use Rattle.c_expand.specs.Expressions as e
use Rattle.c_expand.specs.Expressions.{Given, Callee, comma_left, discarded, set_unused, arm, decided, fork_of, forked, operated, chosen, expression, operands, targeted, argument, arguments, is_call}
use Rattle.c_expand.specs.Statements.{marked, valued, changed, action, actions, item_value, filled, initialised, scalar_declared, declared_as, tested, stepped, loop_body, repeat, result_set, branch, labelled, statement, other_branch, statements}
use Rattle.c_expand.specs.Expansion.{parameter, parameters, locals, homes_for, run_through, within, opened_as, calls}

-- no table, nothing kept, and not reached by the host
pub record IsPlain (a : ArrayTree) : Type 0 where
  pub table : a.table ≡ None
  pub initial : a.initial ≡ None
  pub host : a.host ≡ false

abbrev pub ArePlain : List ArrayTree → Type 0
ArePlain [] = Unit {0}
ArePlain (a ∷ as1) = IsPlain a × ArePlain as1

both_plain : (xs ys : List ArrayTree) → ArePlain xs → ArePlain ys → ArePlain (xs ++ ys)
both_plain [] ys h g = g
both_plain (x ∷ xs) ys h g = (h.0, both_plain xs ys h.1 g)

-- plain arrays are added
pub record Adds (s s' : State) : Type 0 where
  pub more : List ArrayTree
  pub arrays : s'.arrays ≡ s.arrays ++ more
  pub plain : ArePlain more

pub adds_same : (s s' : State) → s'.arrays ≡ s.arrays → Adds s s'
adds_same s s' e1 = record { more = []; arrays = e1 ∙ sym (append-nil s.arrays); plain = tt }

pub adds_both : (s s1 s2 : State) → Adds s s1 → Adds s1 s2 → Adds s s2
adds_both s s1 s2 h g = record { more = h.more ++ g.more; arrays = g.arrays ∙ ap (λ z. z ++ g.more) h.arrays ∙ append_assoc s.arrays h.more g.more; plain = both_plain h.more g.more h.plain g.plain }

-- parts, one after another
abbrev pub AddsIn : {A : Type 0} → State → Part A → Type 0
AddsIn s part = Adds s part.state

pub adds_then : {A B : Type 0} (s : State) (first : Part A) (next : A → State → Part B) → AddsIn s first → AddsIn first.state (next first.value first.state) → AddsIn s (then_ first next)
unfolding then_
adds_then s first next h g = adds_both s first.state (next first.value first.state).state h g

stays : (s : State) → Adds s s
stays s = adds_same s s refl

adds_emit : (p : PieceTree) (s : State) → AddsIn s (emit p s)
unfolding emit
adds_emit p s = adds_same s _ refl

adds_fresh : (k : CType) (s : State) → AddsIn s (fresh k s)
unfolding fresh
adds_fresh k s = adds_same s _ refl

adds_own : (k : CType) (x : PureTree) (s : State) → AddsIn s (set_own k x s)
unfolding set_own then_ fresh emit
adds_own k x s = adds_same s _ refl

adds_inside : {A : Type 0} (part : State → Part A) (s : State) → ((s1 : State) → s1.arrays ≡ s.arrays → AddsIn s1 (part s1)) → AddsIn s (inside part s)
unfolding inside
adds_inside part s h = (let q = h (record s { made = 0 }) refl in record { more = q.more; arrays = q.arrays; plain = q.plain })

adds_switch : {A : Type 0} (part : State → Part A) (s : State) → ((s1 : State) → s1.arrays ≡ s.arrays → AddsIn s1 (part s1)) → AddsIn s (inside_switch part s)
unfolding inside_switch inside
adds_switch part s h = (let q = h (record s { made = 0 }) refl in record { more = q.more; arrays = q.arrays; plain = q.plain })

adds_if : {A : Type 0} (b : Bool) (x y : Part A) (s : State) → AddsIn s x → AddsIn s y → AddsIn s (if b then x else y)
adds_if true x y s h g = h
adds_if false x y s h g = g

-- ---- saved values

adds_saved_if : (whole : Bool) (x : PureTree) (parts : State → Part PureTree) (s : State) → AddsIn s (parts s) → AddsIn s (saved_if whole x parts s)
adds_saved_if true x parts s h = adds_own _ x s
adds_saved_if false x parts s h = h

mutual
  adds_saved : (n : ℕ) (b : Bool) (x : PureTree) (s : State) → AddsIn s (saved n b x s)
  adds_saved n b (tree.number v k) s = stays s
  adds_saved n b (tree.variable name k) s = adds_saved_if _ (tree.variable name k) (λ s1. gives (tree.variable name k) s1) s (stays s)
  adds_saved n b (tree.element array subscripts k at) s =
      adds_then s (all_saved n b subscripts [] s) _ (adds_all_saved n b subscripts [] s) (adds_own k _ (all_saved n b subscripts [] s).state)
  adds_saved n b (tree.unary op arg k at) s = adds_then s (saved n b arg s) _ (adds_saved n b arg s) (stays _)
  adds_saved n b (tree.binary op left right k at) s =
      let x = saved n b left s in
      adds_then s x _ (adds_saved n b left s)
      (adds_saved_if _ (tree.binary op x.value right k at) (λ s1. then_ (saved n b right s1) (λ y s2. gives (tree.binary op x.value y k at) s2)) x.state
      (adds_then x.state (saved n b right x.state) _ (adds_saved n b right x.state) (stays _)))
  adds_saved n b (tree.choice test left right k) s =
      let t = saved n b test s in
      let x = saved n b left t.state in
      adds_then s t _ (adds_saved n b test s)
      (adds_saved_if _ (tree.choice t.value left right k) (λ s1. then_ (saved n b left s1) (λ x1 s2. then_ (saved n b right s2) (λ y s3. gives (tree.choice t.value x1 y k) s3))) t.state
      (adds_then t.state x _ (adds_saved n b left t.state) (adds_then x.state (saved n b right x.state) _ (adds_saved n b right x.state) (stays _))))
  adds_saved n b (tree.cast to arg) s = adds_then s (saved n b arg s) _ (adds_saved n b arg s) (stays _)

  adds_all_saved : (n : ℕ) (b : Bool) (xs : PureTrees) (before : List PureTree) (s : State) → AddsIn s (all_saved n b xs before s)
  adds_all_saved n b tree.none before s = stays s
  adds_all_saved n b (tree.more first rest) before s =
      let x = saved n b first s in
      adds_then s x _ (adds_saved n b first s) (adds_all_saved n b rest (before ++ x.value ∷ []) x.state)

adds_save : (n : ℕ) (x : PureTree) (later : Effects) (s : State) → AddsIn s (save n x later s)
adds_save n x later s = adds_if (spoils later) (saved n later.calls x s) (gives x s) s (adds_saved n later.calls x s) (stays s)

adds_discarded : (b : Bool) (x : PureTree) (s : State) → AddsIn s (discarded b x s)
adds_discarded true x s = stays s
adds_discarded false x s = adds_then s (set_own _ x s) _ (adds_own _ x s) (stays _)

adds_comma_left : (n : ℕ) (left : CoreTree) (x : PureTree) (later : Effects) (s : State) → AddsIn s (comma_left n left x later s)
adds_comma_left n left x later s =
    let y = save n x later s in
    adds_if (is_call left) (gives tt s) (then_ y (λ z s1. discarded (e.may_be_unused left) z s1)) s (stays s) (adds_then s y _ (adds_save n x later s) (adds_discarded (e.may_be_unused left) y.value y.state))

-- ---- changes

adds_store : (c : Call) (t : Change) (v : PureTree) (s : State) → AddsIn s (store c t v s)
adds_store c t v s = store_in t.subscripts
  where
    store_in : (subscripts : PureTrees) → AddsIn s (store_at c t.cell t.target_at subscripts v s)
    store_in tree.none = adds_emit _ s
    store_in (tree.more first rest) = adds_emit _ s

adds_assigned : (c : Call) (t : Change) (by : PureTree) (s : State) → AddsIn s (assigned c t by s)
adds_assigned c t by s =
    let o = fresh t.kind s in
    adds_then s o _ (adds_fresh t.kind s) (adds_then o.state (emit _ o.state) _ (adds_emit _ o.state) (adds_then _ (store c t _ _) _ (adds_store c t _ _) (stays _)))

adds_bumped : (c : Call) (t : Change) (post : Bool) (s : State) → AddsIn s (bumped c t post s)
adds_bumped c t false s = adds_assigned c t _ s
adds_bumped c t true s =
    let o = fresh t.kind s in
    adds_then s o _ (adds_fresh t.kind s) (adds_then o.state (emit _ o.state) _ (adds_emit _ o.state) (adds_then _ (store c t _ _) _ (adds_store c t _ _) (stays _)))

-- ---- forks

adds_arm : (c : Call) (at : Place) (operand : State → Part PureTree) (converted : PureTree → PureTree) (own : VarId) (s : State) → ((s1 : State) → AddsIn s1 (operand s1)) → AddsIn s (arm c at operand converted own s)
adds_arm c at operand converted own s h = adds_inside _ s (λ s0 e1. adds_then s0 (emit _ s0) _ (adds_emit _ s0) (adds_then _ (operand _) _ (h _) (adds_emit _ _)))

adds_decided : (b : Bool) (own : VarId) (s : State) → AddsIn s (decided b own s)
adds_decided b own s = adds_inside _ s (λ s0 e1. adds_emit _ s0)

adds_fork : (c : Call) (at : Place) (test : PureTree) (left right : List PieceTree) (own : VarId) (k : CType) (s : State) → AddsIn s (fork_of c at test left right own k s)
adds_fork c at test left right own k s = adds_then s (emit _ s) _ (adds_emit _ s) (stays _)

adds_forked : (c : Call) (op : Binary) (k : CType) (at : Place) (test : PureTree) (right : State → Part PureTree) (s : State) → ((s1 : State) → AddsIn s1 (right s1)) → AddsIn s (forked c op k at test right s)
adds_forked c op k at test right s h =
    let o = fresh k s in
    let a = arm c at right e.to_bool o.value o.state in
    let d = decided (e.is_or op) o.value a.state in
    adds_then s o _ (adds_fresh k s) (adds_then o.state a _ (adds_arm c at right e.to_bool o.value o.state h) (adds_then a.state d _ (adds_decided (e.is_or op) o.value a.state)
    (adds_if (e.is_or op) (fork_of c at test d.value.pieces a.value.pieces o.value k d.state) (fork_of c at test a.value.pieces d.value.pieces o.value k d.state) d.state (adds_fork c at test d.value.pieces a.value.pieces o.value k d.state) (adds_fork c at test a.value.pieces d.value.pieces o.value k d.state))))

adds_operated : (c : Call) (op : Binary) (k : CType) (at : Place) (x : PureTree) (later : Effects) (right : State → Part PureTree) (s : State) → ((s1 : State) → AddsIn s1 (right s1)) → AddsIn s (operated c op k at x later right s)
adds_operated c op k at x later right s h =
    let l = save c.file_variables x later s in
    adds_then s l _ (adds_save c.file_variables x later s)
    (adds_if (is_logical op && acts later) (forked c op k at l.value right l.state) (then_ (right l.state) (λ y s2. gives (tree.binary op l.value y k at) s2)) l.state
    (adds_forked c op k at l.value right l.state h) (adds_then l.state (right l.state) _ (h l.state) (stays _)))

adds_chosen : (c : Call) (k : CType) (at colon : Place) (test : PureTree) (later : Effects) (left right : State → Part PureTree) (s : State) → ((s1 : State) → AddsIn s1 (left s1)) → ((s1 : State) → AddsIn s1 (right s1)) → AddsIn s (chosen c k at colon test later left right s)
unfolding chosen
adds_chosen c k at colon test later left right s h g =
    let t = save c.file_variables test later s in
    let o = fresh k t.state in
    let a = arm c at left e.same o.value o.state in
    let b = arm c colon right e.same o.value a.state in
    let x = left s in
    adds_if (acts later)
    (then_ t (λ t s1. then_ (fresh k s1) (λ own s2. then_ (arm c at left e.same own s2) (λ first s3. then_ (arm c colon right e.same own s3) (λ second s4. fork_of c at t first.pieces second.pieces own k s4)))))
    (then_ x (λ x s1. then_ (right s1) (λ y s2. gives (tree.choice test x y k) s2))) s
    (adds_then s t _ (adds_save c.file_variables test later s) (adds_then t.state o _ (adds_fresh k t.state) (adds_then o.state a _ (adds_arm c at left e.same o.value o.state h)
    (adds_then a.state b _ (adds_arm c colon right e.same o.value a.state g) (adds_fork c at t.value a.value.pieces b.value.pieces o.value k b.state)))))
    (adds_then s x _ (h s) (adds_then x.state (right x.state) _ (g x.state) (stays _)))

module _ (f : Callee) (c : Call) (callees : (callee : ℕ) (given : List Given) (at : Place) (s : State) → AddsIn s (f callee given c at s)) where
  -- ---- expressions

  mutual
    pub expression_adds : (x : CoreTree) (s : State) → AddsIn s (expression f c x s)
    expression_adds (core.number value k) s = stays s
    expression_adds (core.scalar cell k at) s = stays s
    expression_adds (core.element name subscripts k at) s = adds_then s (operands f c subscripts no_effects [] s) _ (operands_add subscripts no_effects [] s) (stays _)
    expression_adds (core.call callee args k at) s =
        let a = arguments f c args [] s in
        let v = then_ a (λ given s1. f callee given c at s1) in
        adds_then s v _ (adds_then s a (λ given s1. f callee given c at s1) (arguments_add args [] s) (callees callee a.value at a.state)) (stays _)
    expression_adds (core.unary op arg k at) s = adds_then s (expression f c arg s) _ (expression_adds arg s) (stays _)
    expression_adds (core.binary op left right k at) s =
        let x = expression f c left s in
        adds_then s x _ (expression_adds left s) (adds_operated c op k at x.value (effects right) (expression f c right) x.state (λ s1. expression_adds right s1))
    expression_adds (core.choice test left right k at colon) s =
        let t = expression f c test s in
        adds_then s t _ (expression_adds test s) (adds_chosen c k at colon t.value (either (effects left) (effects right)) (expression f c left) (expression f c right) t.state (λ s1. expression_adds left s1) (λ s1. expression_adds right s1))
    expression_adds (core.cast to arg) s = adds_then s (expression f c arg s) _ (expression_adds arg s) (stays _)
    expression_adds (core.assign left op value at) s =
        let t = targeted f c left (effects value) op at s in
        adds_then s t _ (targeted_adds left (effects value) op at s) (adds_then t.state (expression f c value t.state) _ (expression_adds value t.state) (adds_assigned c t.value _ _))
    expression_adds (core.bump left up post at) s =
        let t = targeted f c left no_effects (step up) at s in
        adds_then s t _ (targeted_adds left no_effects (step up) at s) (adds_bumped c t.value post t.state)
    expression_adds (core.comma left right) s =
        let x = expression f c left s in
        let d = comma_left c.file_variables left x.value (effects right) x.state in
        adds_then s x _ (expression_adds left s) (adds_then x.state d _ (adds_comma_left c.file_variables left x.value (effects right) x.state) (expression_adds right d.state))

    operands_add : (xs : CoreTrees) (later : Effects) (before : List PureTree) (s : State) → AddsIn s (operands f c xs later before s)
    operands_add core.none later before s = stays s
    operands_add (core.more first rest) later before s =
        let x = expression f c first s in
        let y = save c.file_variables x.value (either (effects_of_all rest) later) x.state in
        adds_then s x _ (expression_adds first s) (adds_then x.state y _ (adds_save c.file_variables x.value (either (effects_of_all rest) later) x.state) (operands_add rest later (before ++ y.value ∷ []) y.state))

    targeted_adds : (t : CoreTargetTree) (later : Effects) (op : Option Binary) (at : Place) (s : State) → AddsIn s (targeted f c t later op at s)
    targeted_adds (core.target cell subscripts k place) later op at s = adds_then s (operands f c subscripts later [] s) _ (operands_add subscripts later [] s) (stays _)

    argument_adds : (a : ArgumentTree) (later : Effects) (s : State) → AddsIn s (argument f c a later s)
    argument_adds (core.given v) later s =
        let x = expression f c v s in
        adds_then s x _ (expression_adds v s) (adds_then x.state (save c.file_variables x.value later x.state) _ (adds_save c.file_variables x.value later x.state) (stays _))
    argument_adds (core.array cell) later s = stays s

    arguments_add : (args : ArgumentTrees) (before : List Given) (s : State) → AddsIn s (arguments f c args before s)
    arguments_add core.no_argument before s = stays s
    arguments_add (core.more_arguments first rest) before s =
        let g = argument f c first (effects_of_arguments rest) s in
        adds_then s g _ (argument_adds first (effects_of_arguments rest) s) (arguments_add rest (before ++ g.value ∷ []) g.state)

  -- ---- actions and declarations

  adds_marked : (kind : PointKind) (at : Place) (s : State) → AddsIn s (marked c kind at s)
  adds_marked kind at s = adds_emit _ s

  adds_valued : (x : CoreTree) (s : State) → AddsIn s (valued f c x s)
  unfolding valued
  adds_valued x s = (let y = expression f c x s in adds_then s y _ (expression_adds x s) (adds_discarded (is_call x) y.value y.state))

  adds_changed : (x : CoreTree) (s : State) → AddsIn s (changed f c x s)
  unfolding changed
  adds_changed (core.assign left op value at) s =
      let t = targeted f c left (effects value) op at s in
      adds_then s t _ (targeted_adds left (effects value) op at s) (adds_then t.state (expression f c value t.state) _ (expression_adds value t.state) (adds_store c t.value _ _))
  adds_changed (core.bump left up post at) s =
      let t = targeted f c left no_effects (step up) at s in
      adds_then s t _ (targeted_adds left no_effects (step up) at s) (adds_store c t.value _ t.state)
  adds_changed (core.number v k) s = adds_valued (core.number v k) s
  adds_changed (core.scalar cell k at) s = adds_valued (core.scalar cell k at) s
  adds_changed (core.element name subscripts k at) s = adds_valued (core.element name subscripts k at) s
  adds_changed (core.call callee args k at) s = adds_valued (core.call callee args k at) s
  adds_changed (core.unary op arg k at) s = adds_valued (core.unary op arg k at) s
  adds_changed (core.binary op left right k at) s = adds_valued (core.binary op left right k at) s
  adds_changed (core.choice test left right k at colon) s = adds_valued (core.choice test left right k at colon) s
  adds_changed (core.cast to arg) s = adds_valued (core.cast to arg) s
  adds_changed (core.comma left right) s = adds_valued (core.comma left right) s

  adds_action : (a : CoreActionTree) (s : State) → AddsIn s (action f c a s)
  adds_action (core.change x) s = adds_changed x s
  adds_action (core.value x) s = adds_valued x s

  adds_actions : (list : List CoreActionTree) (s : State) → AddsIn s (actions f c list s)
  unfolding actions
  adds_actions [] s = stays s
  adds_actions (a ∷ rest) s = adds_then s (action f c a s) _ (adds_action a s) (adds_actions rest _)

  adds_item : (item : Option CoreTree) (s : State) → AddsIn s (item_value f c item s)
  adds_item None s = stays s
  adds_item (Some x) s = expression_adds x s

  adds_filled : (array : ArrayId) (lengths : List ℕ) (n : ℕ) (items : List (Option CoreTree)) (s : State) → AddsIn s (filled f c array lengths n items s)
  adds_filled array lengths n [] s = stays s
  adds_filled array lengths n (item ∷ items) s =
      let x = item_value f c item s in
      adds_then s x _ (adds_item item s) (adds_then x.state (emit _ x.state) _ (adds_emit _ x.state) (adds_filled array lengths (n + 1) items _))

  adds_initialised : (array : ArrayId) (lengths : List ℕ) (init : CoreInitTree) (s : State) → AddsIn s (initialised f c array lengths init s)
  adds_initialised array lengths core.unwritten s = stays s
  adds_initialised array lengths (core.single v) s = stays s
  adds_initialised array lengths (core.elements items) s = adds_filled array lengths 0 items s

  adds_scalar : (own : VarId) (init : CoreInitTree) (s : State) → AddsIn s (scalar_declared f c own init s)
  unfolding declared
  adds_scalar own core.unwritten s = adds_same s s refl
  adds_scalar own (core.single v) s = adds_then s (expression f c v s) _ (expression_adds v s) (adds_emit _ _)
  adds_scalar own (core.elements items) s = stays s

  adds_array : (o : CoreObjectTree) (s : State) → AddsIn s (local_array o s)
  unfolding then_ declared add_array
  adds_array o s = record { more = array_like o None None false ∷ []; arrays = refl; plain = (record { table = refl; initial = refl; host = refl }, tt) }

  adds_note : (slot : Slot) (a : ArrayId) (s : State) → AddsIn s (note_array slot a s)
  unfolding note_array
  adds_note slot a s = adds_same s _ refl

  adds_declared : (at : Option Home) (o : Option CoreObjectTree) (init : CoreInitTree) (s : State) → AddsIn s (declared_as f c at o init s)
  adds_declared (Some (home.Variable own)) o init s = adds_scalar own init s
  adds_declared (Some (home.Local slot)) (Some o) init s =
      let a = local_array o s in
      adds_then s a _ (adds_array o s) (adds_then a.state (note_array slot a.value a.state) _ (adds_note slot a.value a.state) (adds_initialised a.value o.lengths init _))
  adds_declared (Some (home.Local slot)) None init s = stays s
  adds_declared (Some (home.Array a)) o init s = stays s
  adds_declared (Some (home.Constant word)) o init s = stays s
  adds_declared None o init s = stays s

  -- ---- loops

  adds_tested : (test : Option CoreTree) (s : State) → AddsIn s (tested f c test s)
  adds_tested None s = stays s
  adds_tested (Some x) s = expression_adds x s

  adds_stepped : (list : List CoreActionTree) (at : Place) (s : State) → AddsIn s (stepped f c list at s)
  unfolding stepped
  adds_stepped [] at s = stays s
  adds_stepped (a ∷ rest) at s = adds_then s (marked c _ at s) _ (adds_marked _ at s) (adds_actions (a ∷ rest) _)

  behind_mark : {A : Type 0} (kind : PointKind) (at : Place) (part : State → Part A) (s : State) → ((s1 : State) → AddsIn s1 (part s1)) → AddsIn s (inside (λ s0. then_ (marked c kind at s0) (λ u s1. part s1)) s)
  behind_mark kind at part s h = adds_inside (λ s0. then_ (marked c kind at s0) (λ u s1. part s1)) s (λ s0 e1. adds_then s0 (marked c kind at s0) (λ u s1. part s1) (adds_marked kind at s0) (h _))

  adds_next : (s : State) → AddsIn s (next_loop s)
  unfolding next_loop
  adds_next s = adds_same s _ refl

  adds_repeat : (post : Bool) (test : Option CoreTree) (body : State → Part (Unit {0})) (steps : List CoreActionTree) (at : Place) (s : State) → ((s1 : State) → AddsIn s1 (body s1)) → AddsIn s (repeat f c post test body steps at s)
  adds_repeat post test body steps at s h =
      let n = next_loop s in
      let b = inside (λ s0. then_ (marked c point.Test at s0) (λ u s5. tested f c test s5)) n.state in
      let m = loop_body c at body b.state in
      let l = inside (stepped f c steps at) m.state in
      adds_then s n _ (adds_next s) (adds_then n.state b _ (behind_mark point.Test at (λ s5. tested f c test s5) n.state (λ s1. adds_tested test s1)) (adds_then b.state m _ (behind_mark point.Body at body b.state h)
      (adds_then m.state l _ (adds_inside (stepped f c steps at) m.state (λ s0 e1. adds_stepped steps at s0)) (adds_emit _ l.state))))

  -- ---- statements

  adds_result : (value : Option CoreTree) (s : State) → AddsIn s (result_set f c value s)
  adds_result None s = stays s
  adds_result (Some x) s = adds_then s (expression f c x s) _ (expression_adds x s) (adds_emit _ _)

  adds_left : (tail : Bool) (s : State) → AddsIn s (if tail then gives tt s else emit (tree.leave c.call) s)
  adds_left true s = stays s
  adds_left false s = adds_emit _ s

  adds_label : (value : Option ℕ) (s : State) → AddsIn s (label value s)
  unfolding label
  adds_label value s = adds_same s s refl

  mutual
    pub statement_adds : (b : CoreStmtTree) (tail : Bool) (s : State) → AddsIn s (statement f c b tail s)
    statement_adds (core.block objects body) tail s = statements_add body tail s
    statement_adds (core.declare object init) tail s = adds_declared (slice_get c.homes object) (slice_get c.objects object) init s
    statement_adds (core.act list) tail s = adds_actions list s
    statement_adds (core.if_ test body other at) tail s =
        let x = expression f c test s in
        let a = branch c at (statement f c body tail) x.state in
        let b = other_branch f c other tail a.state in
        adds_then s x _ (expression_adds test s) (adds_then x.state a _ (behind_mark point.Arm at (statement f c body tail) x.state (λ s1. statement_adds body tail s1)) (adds_then a.state b _ (other_adds other tail a.state) (adds_emit _ b.state)))
    statement_adds (core.switch_ test objects body at) tail s =
        let x = expression f c test s in
        let m = inside_switch (statements f c body false) x.state in
        adds_then s x _ (expression_adds test s) (adds_then x.state m _ (adds_switch (statements f c body false) x.state (λ s0 e1. statements_add body false s0)) (adds_emit _ m.state))
    statement_adds (core.case_ value body at) tail s =
        let l = labelled c value at s in
        adds_then s l _ (adds_then s (label value s) _ (adds_label value s) (adds_marked _ at _)) (statement_adds body false l.state)
    statement_adds (core.while_ test body at) tail s = adds_repeat false (Some test) (statement f c body false) [] at s (λ s1. statement_adds body false s1)
    statement_adds (core.do_ body test at) tail s = adds_repeat true (Some test) (statement f c body false) [] at s (λ s1. statement_adds body false s1)
    statement_adds (core.for_ objects init test steps body at) tail s =
        let i = statements f c init false s in
        adds_then s i _ (statements_add init false s) (adds_repeat false test (statement f c body false) steps at i.state (λ s1. statement_adds body false s1))
    statement_adds core.break_ tail s = adds_emit _ s
    statement_adds core.continue_ tail s = adds_emit _ s
    statement_adds (core.return_ value) tail s = adds_then s (result_set f c value s) _ (adds_result value s) (adds_left tail _)

    other_adds : (other : CoreElseTree) (tail : Bool) (s : State) → AddsIn s (other_branch f c other tail s)
    other_adds core.no_else tail s = adds_inside (λ s0. gives tt s0) s (λ s0 e1. stays s0)
    other_adds (core.else_ at body) tail s = behind_mark point.Arm at (statement f c body tail) s (λ s1. statement_adds body tail s1)

    pub statements_add : (body : CoreStmtTrees) (tail : Bool) (s : State) → AddsIn s (statements f c body tail s)
    statements_add core.no_stmt tail s = stays s
    statements_add (core.more_stmts first rest) tail s =
        let x = statement f c first (tail && is_empty rest) s in
        adds_then s x _ (statement_adds first (tail && is_empty rest) s) (statements_add rest tail x.state)

  pub run_adds : (fn : CoreFunctionTree) (s : State) → AddsIn s (run_through f c fn s)
  run_adds fn s =
      let m = marked c point.Begin fn.at s in
      let b = statements f c fn.body true m.state in
      adds_then s m _ (adds_marked point.Begin fn.at s) (adds_then m.state b _ (statements_add fn.body true m.state) (adds_emit _ b.state))

-- ---- calls

adds_parameter : (o : CoreObjectTree) (g : Given) (s : State) → AddsIn s (parameter o g s)
adds_parameter o (e.value_given x) s = adds_then s (fresh o.kind s) _ (adds_fresh o.kind s) (adds_then _ (emit _ _) _ (adds_emit _ _) (stays _))
adds_parameter o (e.array_given a) s = stays s

adds_parameters : (os : List CoreObjectTree) (given : List Given) (before : List Home) (s : State) → AddsIn s (parameters os given before s)
adds_parameters [] given before s = stays s
adds_parameters (o ∷ os) [] before s = stays s
adds_parameters (o ∷ os) (g ∷ given) before s = (let p = parameter o g s in adds_then s p _ (adds_parameter o g s) (adds_parameters os given (before ++ p.value ∷ []) p.state))

adds_local : (lengths : List ℕ) (k : CType) (s : State) → AddsIn s (local_of lengths k s)
unfolding then_ fresh new_slot
adds_local [] k s = adds_same s _ refl
adds_local (len ∷ lengths) k s = adds_same s _ refl

pub adds_locals : (os : List CoreObjectTree) (before : List Home) (s : State) → AddsIn s (locals os before s)
adds_locals [] before s = stays s
adds_locals (o ∷ os) before s = (let p = local o s in adds_then s p _ (adds_local o.lengths o.kind s) (adds_locals os (before ++ p.value ∷ []) p.state))

pub adds_call : (s : State) → AddsIn s (next_call s)
unfolding next_call
adds_call s = adds_same s _ refl

pub adds_fresh_result : (r : Option CType) (s : State) → AddsIn s (fresh_result r s)
unfolding fresh_result then_ fresh
adds_fresh_result None s = adds_same s s refl
adds_fresh_result (Some k) s = adds_same s _ refl

adds_homes : (fn : CoreFunctionTree) (given : List Given) (s : State) → AddsIn s (homes_for fn given s)
adds_homes fn given s = (let p = parameters fn.objects given [] s in adds_then s p _ (adds_parameters fn.objects given [] s) (adds_locals (drop fn.params fn.objects) p.value p.state))

adds_opened : (at_callee : Option CoreFunctionTree) (g : Callee) (given : List Given) (c : Call) (at : Place) (s : State) → ((c1 : Call) (callee : ℕ) (given1 : List Given) (at1 : Place) (s1 : State) → AddsIn s1 (g callee given1 c1 at1 s1)) → AddsIn s (opened_as at_callee g given c at s)
adds_opened None g given c at s h = stays s
adds_opened (Some fn) g given c at s h =
    let hs = homes_for fn given s in
    let n = next_call hs.state in
    let r = fresh_result fn.result n.state in
    let c1 = within c fn hs.value (c.path ++ at ∷ []) n.value r.value in
    let run = run_through g c1 fn r.state in
    adds_then s hs _ (adds_homes fn given s) (adds_then hs.state n _ (adds_call hs.state) (adds_then n.state r _ (adds_fresh_result fn.result n.state) (adds_then r.state run _ (run_adds g c1 (h c1) fn r.state) (stays run.state))))

-- Calls make arrays of declarations alone.
pub calls_add : (functions : List CoreFunctionTree) (n : ℕ) (c : Call) (callee : ℕ) (given : List Given) (at : Place) (s : State) → AddsIn s (calls functions n callee given c at s)
calls_add functions zero c callee given at s = stays s
calls_add functions (suc n) c callee given at s = adds_opened (slice_get functions callee) (calls functions n) given c at s (λ c1 callee1 given1 at1 s1. calls_add functions n c1 callee1 given1 at1 s1)
