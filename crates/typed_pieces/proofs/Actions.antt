-- Actions, declarations and returns make typed pieces.
use Rattle.std.proofs.Common.{◌≡◌, ◌∙◌, ◌<◌, ◌≤◌, inl, inr, ℕ, ◌+◌, ◌^◌, ◌/◌, ◌%◌, Bool, false, ap, sym, subst, arith, List, [], ◌∷◌, map, length, slice_get, Option, Some, None}
use Rattle.std.proofs.Math.Nat.{div-le_self, mod-le}
use Rattle.hls_base.specs.ArrayAddress.{element_count}
use Rattle.hls_base.specs.declared.place.Place.{Place}
use Rattle.hls_base.specs.declared.number.VarId.{VarId}
use Rattle.hls_base.specs.declared.number.ArrayId.{ArrayId}
use Rattle.hls_base.specs.declared.point.PointKind.{PointKind}
use Rattle.hls_base.specs.declared.point.PointKind.TheVariants as point
use Rattle.c_token.specs.declared.ctype.CType.{CType}
use Rattle.pieces.specs.Resolved.Core as core
use Rattle.pieces.specs.Resolved.Core.{CoreTree, CoreObjectTree, CoreInitTree, CoreActionTree}
use Rattle.c_meaning.specs.CoreRuns.Statements.{action_tree}
use Rattle.c_meaning.specs.CoreRuns.Kinds.{kind_of}
use Rattle.pieces.specs.Trees as tree
use Rattle.pieces.specs.Trees.{PureTree, PureTrees}
use Rattle.piece_making.specs.declared.frame.Home.{Home}
use Rattle.piece_making.specs.declared.frame.Home.TheVariants as home
use Rattle.piece_making.specs.declared.work.Slot.{Slot}
use Rattle.piece_making.specs.Acting.{no_effects, effects}
use Rattle.piece_making.specs.Making.{State, gives, emit}
use Rattle.piece_making.specs.Objects.{local_array, array_like}
use Rattle.piece_making.specs.Calls.{Call, point_in}
use Rattle.piece_making.specs.Assigning.{Change, step, one, apply, new_value, target_read}
use Rattle.c_expand.specs.Expressions.{Callee, expression, is_call}
use Rattle.c_expand.specs.Statements.{marked, valued, changed, action, actions, item_value, filled, initialised, scalar_declared, declared_as, declare, tested, stepped, result_variable, result_set, returned, subscripts_at, at_least_one}
use Rattle.expanded_programs.specs.Statements.Scopes.{Setting, Reach, IsArray, IsSoundIn, TestSound, ReturnSound, ActionsSound, ItemsSound, InitSound, objects_in, reach}
use Rattle.expanded_programs.specs.Statements.Each.{IfThere, EachItem, InInit, EachAction}
use Rattle.pass_runs.specs.LowerRuns.Holding.{IsThere}
use Rattle.typed_pieces.specs.Typed.{IsTyped, AreTyped}
use Rattle.typed_pieces.specs.Types.{HasTypes}
use Rattle.typed_pieces.specs.Worlds.{World, Knows, Makes, Anything, Value, HasArray, IsNoted, frame_at}
use Rattle.typed_pieces.specs.Standing.{OwnFits, Stands, CallsTyped}
use Rattle.typed_pieces.proofs.Parts.{later_both, array_later, then_makes, gives_makes, known, if_makes, emit_makes, declared_makes, array_makes, note_makes}
use Rattle.typed_pieces.proofs.Changes.{IsChange, change_later, int_typed, store_makes, new_typed, discarded_makes}
use Rattle.typed_pieces.proofs.Expressions.{expression_makes, target_makes}
use Rattle.typed_pieces.proofs.Names.{names, stands_later}

abbrev pub Nowhere : ℕ → Type 0
Nowhere i = Unit {0}

-- subscripts are numbers of int
subscripts_typed : (s : State) (lengths : List ℕ) (n : ℕ) → n < 2 ^ 31 → AreTyped (frame_at s) (subscripts_at lengths n)
subscripts_typed s [] n h = (tt, tt)
subscripts_typed s (len ∷ lengths) n h =
    let count = element_count (map at_least_one lengths) in
    let d = div-le_self n count in
    let m = mod-le (n / count) (at_least_one len) in
    let x = int_typed s ((n / count) % at_least_one len) (omega (arith, h, d, m)) in
    let rest = subscripts_typed s lengths n h in
    ((x.0, rest.0), (x.1, rest.1))

pub marked_makes : (c : Call) (kind : PointKind) (at : Place) (s : State) (w : World s) → Makes Anything s w (marked c kind at s)
marked_makes c kind at s w = emit_makes (tree.mark (point_in c kind at)) s w tt

-- calls become typed pieces wherever statements of the call stand
abbrev pub CalleesTyped : Setting → Call → Callee → Type 1
CalleesTyped S c g = (r : Reach) → CallsTyped (objects_in S r) c (Stands S c r) g

module _ (S : Setting) (c : Call) (g : Callee) (calls : CalleesTyped S c g) where
  -- what names stand for behind a part
  abbrev pub StandsAt : Reach → Knows (Unit {0})
  StandsAt r s w u = Stands S c r s w

  pub evaluated : (r : Reach) (x : CoreTree) (s : State) (w : World s) → Stands S c r s w → IsSoundIn S r x → HasTypes x → Makes (Value (kind_of x)) s w (expression g c x s)
  evaluated r x s w h sound t = expression_makes (objects_in S r) c (Stands S c r) (names S c r) g (calls r) x s w h sound t

  -- ---- actions

  valued_makes : (r : Reach) (x : CoreTree) (s : State) (w : World s) → Stands S c r s w → IsSoundIn S r x → HasTypes x → Makes Anything s w (valued g c x s)
  unfolding valued
  valued_makes r x s w h sound t = then_makes (evaluated r x s w h sound t) (λ y s1 w1 l v. discarded_makes (is_call x) y s1 w1 v.typed)

  apply_makes : (r : Reach) (t : Change) (by : PureTree) (s : State) (w : World s) → Stands S c r s w → IsChange (objects_in S r) c (Stands S c r) (names S c r) s t → IsTyped (frame_at s) by → Makes Anything s w (apply c t by s)
  apply_makes r t by s w h change v =
      store_makes (objects_in S r) c (Stands S c r) (names S c r) t (new_value t (target_read c t s) by) s w h change (new_typed (objects_in S r) c (Stands S c r) (names S c r) t by s w h change v)

  changed_makes : (r : Reach) (x : CoreTree) (s : State) (w : World s) → Stands S c r s w → IsSoundIn S r x → HasTypes x → Makes Anything s w (changed g c x s)
  unfolding changed
  changed_makes r (core.assign (core.target cell subscripts k place) op value at) s w h sound t =
      then_makes (target_makes (objects_in S r) c (Stands S c r) (names S c r) g (calls r) cell subscripts k place (effects value) op at s w h sound.0 sound.1 t.0)
      (λ t1 s1 w1 l v. then_makes (evaluated r value s1 w1 (stands_later S c r s w s1 w1 h l) sound.2 t.1)
      (λ by s2 w2 l2 u. apply_makes r t1 by s2 w2 (stands_later S c r s w s2 w2 h (later_both l l2)) (change_later (objects_in S r) c (Stands S c r) (names S c r) l2 v.change) u.typed))
  changed_makes r (core.bump (core.target cell subscripts k place) up post at) s w h sound t =
      then_makes (target_makes (objects_in S r) c (Stands S c r) (names S c r) g (calls r) cell subscripts k place no_effects (step up) at s w h sound.0 sound.1 t)
      (λ t1 s1 w1 l v. apply_makes r t1 one s1 w1 (stands_later S c r s w s1 w1 h l) v.change (int_typed s1 1 (omega arith)))
  changed_makes r (core.number v k) s w h sound t = valued_makes r (core.number v k) s w h sound t
  changed_makes r (core.scalar cell k at) s w h sound t = valued_makes r (core.scalar cell k at) s w h sound t
  changed_makes r (core.element name subscripts k at) s w h sound t = valued_makes r (core.element name subscripts k at) s w h sound t
  changed_makes r (core.call callee args k at) s w h sound t = valued_makes r (core.call callee args k at) s w h sound t
  changed_makes r (core.unary op arg k at) s w h sound t = valued_makes r (core.unary op arg k at) s w h sound t
  changed_makes r (core.binary op left right k at) s w h sound t = valued_makes r (core.binary op left right k at) s w h sound t
  changed_makes r (core.choice test left right k at colon) s w h sound t = valued_makes r (core.choice test left right k at colon) s w h sound t
  changed_makes r (core.cast to arg) s w h sound t = valued_makes r (core.cast to arg) s w h sound t
  changed_makes r (core.comma left right) s w h sound t = valued_makes r (core.comma left right) s w h sound t

  action_makes : (r : Reach) (a : CoreActionTree) (s : State) (w : World s) → Stands S c r s w → IsSoundIn S r (action_tree a) → HasTypes (action_tree a) → Makes Anything s w (action g c a s)
  action_makes r (core.change x) s w h sound t = changed_makes r x s w h sound t
  action_makes r (core.value x) s w h sound t = valued_makes r x s w h sound t

  pub actions_make : (r : Reach) (list : List CoreActionTree) (s : State) (w : World s) → Stands S c r s w → ActionsSound S r list → EachAction HasTypes Nowhere list → Makes Anything s w (actions g c list s)
  unfolding actions
  actions_make r [] s w h sound t = gives_makes tt
  actions_make r (a ∷ rest) s w h sound t = then_makes (action_makes r a s w h sound.0 t.0) (λ u s1 w1 l v. actions_make r rest s1 w1 (stands_later S c r s w s1 w1 h l) sound.1 t.1)

  -- ---- declarations

  item_makes : (r : Reach) (item : Option CoreTree) (s : State) (w : World s) → Stands S c r s w → TestSound S r item → IfThere HasTypes Nowhere item → Makes (λ s1 w1 x. IsTyped (frame_at s1) x) s w (item_value g c item s)
  item_makes r None s w h sound t = gives_makes (int_typed s 0 (omega arith))
  item_makes r (Some x) s w h sound t = known (evaluated r x s w h sound t) (λ s1 w1 l v. v.typed)

  filled_makes : (r : Reach) (array : ArrayId) (k : CType) (lengths : List ℕ) (n : ℕ) (items : List (Option CoreTree)) (s : State) (w : World s) → Stands S c r s w → HasArray (frame_at s) array k → n + length items ≤ 2 ^ 31 → ItemsSound S r items → EachItem HasTypes Nowhere items
      → Makes Anything s w (filled g c array lengths n items s)
  filled_makes r array k lengths n [] s w h a le sound t = gives_makes tt
  filled_makes r array k lengths n (item ∷ items) s w h a le sound t =
      then_makes (item_makes r item s w h sound.0 t.0)
      (λ x s1 w1 l v.
      (let a1 = array_later l array k a in
      then_makes (emit_makes (tree.put array (subscripts_at lengths n) x c.body_at) s1 w1 ((a1.0, a1.1), subscripts_typed s1 lengths n (omega (arith, le)), v))
      (λ u s2 w2 l2 b. filled_makes r array k lengths (n + 1) items s2 w2 (stands_later S c r s w s2 w2 h (later_both l l2)) (array_later l2 array k a1) (omega (arith, le)) sound.1 t.1)))

  initialised_makes : (r : Reach) (array : ArrayId) (o : CoreObjectTree) (init : CoreInitTree) (s : State) (w : World s) → Stands S c r s w → HasArray (frame_at s) array o.kind → InitSound S r o init → InInit HasTypes Nowhere init → Makes Anything s w (initialised g c array o.lengths init s)
  initialised_makes r array o core.unwritten s w h a sound t = gives_makes tt
  initialised_makes r array o (core.single value) s w h a sound t = gives_makes tt
  initialised_makes r array o (core.elements items) s w h a sound t = filled_makes r array o.kind o.lengths 0 items s w h a (let le = sound.1 in let most = sound.3 in omega (arith, le, most)) sound.2 t

  scalar_makes : (r : Reach) (own : VarId) (o : CoreObjectTree) (init : CoreInitTree) (s : State) (w : World s) → Stands S c r s w → IsThere (frame_at s) own → InitSound S r o init → InInit HasTypes Nowhere init → Makes Anything s w (scalar_declared g c own init s)
  scalar_makes r own o core.unwritten s w h there sound t = declared_makes 1 s w
  scalar_makes r own o (core.single value) s w h there sound t =
      then_makes (evaluated r value s w h sound.1 t) (λ x s1 w1 l v. emit_makes (tree.set own x) s1 w1 ((there.0, l.variables own.0 there.0 there.1), v.typed))
  scalar_makes r own o (core.elements items) s w h there sound t = gives_makes tt

  -- its declaration is reached where it has no place for an array, or where its array is noted
  reached : (r : Reach) (object : ℕ) (s : State) (w : World s) → Stands S c r s w → ((slot : Slot) → slice_get c.homes object ≡ Some (home.Local slot) → IsNoted s slot.0) → Stands S c (reach object r) s w
  reached r object s w h n = record {
    file = h.file;
    own = h.own;
    ready = λ i slot at is_. elim is_ [ inl e ↦ n slot (subst (λ j. slice_get c.homes j ≡ Some (home.Local slot)) e at) | inr ready ↦ h.ready i slot at ready ];
    result = h.result;
    objects = h.objects;
  }

  abbrev slot_in : Option Home → Slot → Slot
  slot_in (Some (home.Local slot)) other = slot
  slot_in _ other = other

  declared_makes_at : (r : Reach) (object : ℕ) (o : CoreObjectTree) (h : Home) (init : CoreInitTree) (s : State) (w : World s) → Stands S c r s w → slice_get c.homes object ≡ Some h → OwnFits S.params s w object h o → InitSound S (reach object r) o init
      → InInit HasTypes Nowhere init → Makes (StandsAt (reach object r)) s w (declared_as g c (Some h) (Some o) init s)
  declared_makes_at r object o (home.Variable own) init s w stands at f sound t =
      let now = reached r object s w stands (λ slot e. absurd (not_slot own slot (sym at ∙ e))) in
      known (scalar_makes (reach object r) own o init s w now (o.kind, f.1) sound t) (λ s1 w1 l u. stands_later S c (reach object r) s w s1 w1 now l) where
        not_slot : (v : VarId) (slot : Slot) → Some (home.Variable v) ≡ Some (home.Local slot) → ⊥
        not_slot v slot e = absurd cc
  declared_makes_at r object o (home.Local slot) init s w stands at f sound t =
      then_makes (local_makes o f.0 s w)
      (λ array s1 w1 l a. then_makes (note_makes slot array o.kind s1 w1 (l.kinds slot.0 o.kind f.2) a)
      (λ u s2 w2 l2 n.
      (let now = reached r object s2 w2 (stands_later S c r s w s2 w2 stands (later_both l l2)) (λ other e. subst (λ (z : Slot). IsNoted s2 z.0) (same_slot slot other (sym at ∙ e)) n) in
      known (initialised_makes (reach object r) array o init s2 w2 now (array_later l2 array o.kind a) sound t) (λ s3 w3 l3 v. stands_later S c (reach object r) s2 w2 s3 w3 now l3)))) where
        same_slot : (a b : Slot) → Some (home.Local a) ≡ Some (home.Local b) → a ≡ b
        same_slot a b e = ap (λ x. slot_in x a) e

        local_makes : (p : CoreObjectTree) → IsArray p → (t : State) (v : World t) → Makes (λ s1 w1 array. HasArray (frame_at s1) array p.kind) t v (local_array p t)
        local_makes p some t v = then_makes (declared_makes _ t v) (λ u s1 w1 l a. array_makes (array_like p None None false) s1 w1 some)
  declared_makes_at r object o (home.Array a) init s w stands at f sound t = gives_makes (reached r object s w stands (λ slot e. absurd (not_slot a slot (sym at ∙ e)))) where
    not_slot : (v : ArrayId) (slot : Slot) → Some (home.Array v) ≡ Some (home.Local slot) → ⊥
    not_slot v slot e = absurd cc
  declared_makes_at r object o (home.Constant word) init s w stands at f sound t = absurd f

  pub declare_makes : (r : Reach) (object : ℕ) (init : CoreInitTree) (s : State) (w : World s) → Stands S c r s w → ((o : CoreObjectTree) × (slice_get S.objects object ≡ Some o) × InitSound S (reach object r) o init) → InInit HasTypes Nowhere init
      → Makes (StandsAt (reach object r)) s w (declare g c object init s)
  declare_makes r object init s w stands d t =
      let f = stands.own object d.0 d.1 in
      let part : Makes (StandsAt (reach object r)) s w (declared_as g c (Some f.1.0) (Some d.0) init s) = declared_makes_at r object d.0 f.1.0 init s w stands f.1.1 f.1.2 d.2 t in
      subst (λ m. Makes (StandsAt (reach object r)) s w (declared_as g c m (slice_get c.objects object) init s)) (sym f.1.1)
      (subst (λ m. Makes (StandsAt (reach object r)) s w (declared_as g c (Some f.1.0) m init s)) (sym (ap (λ os. slice_get os object) stands.objects ∙ d.1)) part)

  -- ---- tests and steps of loops

  pub tested_makes : (r : Reach) (test : Option CoreTree) (s : State) (w : World s) → Stands S c r s w → TestSound S r test → IfThere HasTypes Nowhere test → Makes (λ s1 w1 x. IsTyped (frame_at s1) x) s w (tested g c test s)
  tested_makes r None s w h sound t = gives_makes (int_typed s 1 (omega arith))
  tested_makes r (Some x) s w h sound t = known (evaluated r x s w h sound t) (λ s1 w1 l v. v.typed)

  pub stepped_makes : (r : Reach) (list : List CoreActionTree) (at : Place) (s : State) (w : World s) → Stands S c r s w → ActionsSound S r list → EachAction HasTypes Nowhere list → Makes Anything s w (stepped g c list at s)
  unfolding stepped
  stepped_makes r [] at s w h sound t = gives_makes tt
  stepped_makes r (a ∷ rest) at s w h sound t = then_makes (marked_makes c point.Step at s w) (λ u s1 w1 l v. actions_make r (a ∷ rest) s1 w1 (stands_later S c r s w s1 w1 h l) sound t)

  -- ---- returns

  result_set_makes : (r : Reach) (value : Option CoreTree) (s : State) (w : World s) → Stands S c r s w → ReturnSound S r value → IfThere HasTypes Nowhere value → Makes Anything s w (result_set g c value s)
  result_set_makes r None s w h sound t = gives_makes tt
  result_set_makes r (Some x) s w h sound t =
      let own = h.result sound.0.0 sound.0.1 in
      let there : IsThere (frame_at s) (result_variable c.result) = (sound.0.0, ap (λ o. slice_get s.variables (result_variable o).0) own.1 ∙ own.2) in
      then_makes (evaluated r x s w h sound.1 t) (λ y s1 w1 l v. emit_makes (tree.set (result_variable c.result) y) s1 w1 ((there.0, l.variables (result_variable c.result).0 there.0 there.1), v.typed))

  pub returned_makes : (r : Reach) (value : Option CoreTree) (tail : Bool) (s : State) (w : World s) → Stands S c r s w → ReturnSound S r value → IfThere HasTypes Nowhere value → Makes Anything s w (returned g c value tail s)
  returned_makes r value tail s w h sound t =
      then_makes (result_set_makes r value s w h sound t) (λ u s1 w1 l v. if_makes tail (gives tt s1) (emit (tree.leave c.call) s1) s1 w1 (gives_makes tt) (emit_makes (tree.leave c.call) s1 w1 tt))
