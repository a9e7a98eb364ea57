-- Actions, declarations and returns become pieces that set no table.
use Rattle.std.proofs.Common.{◌≡◌, ◌∙◌, inl, inr, ℕ, ◌+◌, Bool, false, refl, ap, sym, subst, arith, List, [], ◌∷◌, slice_get, Option, Some, None}
use Rattle.hls_base.specs.declared.place.Place.{Place}
use Rattle.hls_base.specs.declared.number.VarId.{VarId}
use Rattle.hls_base.specs.declared.number.ArrayId.{ArrayId}
use Rattle.hls_base.specs.declared.point.PointKind.{PointKind}
use Rattle.hls_base.specs.declared.point.PointKind.TheVariants as point
use Rattle.pieces.specs.Resolved.Core as core
use Rattle.pieces.specs.Resolved.Core.{CoreTree, CoreObjectTree, CoreInitTree, CoreActionTree}
use Rattle.c_meaning.specs.CoreRuns.Statements.{action_tree}
use Rattle.pieces.specs.Trees as tree
use Rattle.pieces.specs.Trees.{PureTree, PureTrees}
use Rattle.piece_making.specs.declared.frame.Home.{Home}
use Rattle.piece_making.specs.declared.frame.Home.TheVariants as home
use Rattle.piece_making.specs.declared.work.Slot.{Slot}
use Rattle.piece_making.specs.Acting.{no_effects, effects}
use Rattle.piece_making.specs.Making.{State, gives, emit}
use Rattle.piece_making.specs.Objects.{local_array, array_like}
use Rattle.piece_making.specs.Calls.{Call, point_in}
use Rattle.piece_making.specs.Assigning.{Change, step, one, apply, new_value, target_read}
use Rattle.c_expand.specs.Expressions.{Callee, expression, is_call}
use Rattle.c_expand.specs.Statements.{marked, valued, changed, action, actions, item_value, filled, initialised, scalar_declared, declared_as, declare, tested, stepped, result_variable, result_set, returned, subscripts_at}
use Rattle.expanded_programs.specs.Statements.Scopes.{Setting, Reach, IsSoundIn, TestSound, ReturnSound, ActionsSound, ItemsSound, InitSound, objects_in, reach}
use Rattle.expanded_programs.specs.Statements.Each.{IfThere, EachItem, InInit, EachAction}
use Rattle.source_validity.specs.KeptTables.Programs.{KeepsConstants}
use Rattle.source_validity.specs.KeptTables.Worlds.{World, Knows, Makes, Whatever, IsStored, IsNoted}
use Rattle.source_validity.specs.KeptTables.Standing.{OwnKept, Stands, CallsKeep, constant_at}
use Rattle.source_validity.proofs.KeptTables.Parts.{put_keeps, later_both, array_later, then_makes, gives_makes, known, if_makes, emit_makes, declared_makes, array_makes, note_makes}
use Rattle.source_validity.proofs.KeptTables.Changes.{IsChange, set_makes, store_makes, discarded_makes}
use Rattle.source_validity.proofs.KeptTables.Expressions.{expression_makes, target_makes}
use Rattle.source_validity.proofs.KeptTables.Names.{names, stands_later}

abbrev pub Nowhere : ℕ → Type 0
Nowhere i = Unit {0}

pub marked_makes : (c : Call) (kind : PointKind) (at : Place) (s : State) → World s → Makes Whatever s (marked c kind at s)
marked_makes c kind at s w = emit_makes (tree.mark (point_in c kind at)) s w (λ more b. tt)

-- calls become such pieces wherever statements of the call stand
abbrev pub CalleesKeep : Setting → Call → Callee → Type 1
CalleesKeep S c g = (r : Reach) → CallsKeep S.functions (constant_at S) (objects_in S r) c (Stands S c r) g

abbrev pub KeepsIn : Setting → CoreTree → Type 0
KeepsIn S x = KeepsConstants S.functions (constant_at S) x

module _ (S : Setting) (c : Call) (g : Callee) (calls : CalleesKeep S c g) where
  -- what names stand for behind a part
  abbrev pub StandsAt : Reach → Knows (Unit {0})
  StandsAt r s u = Stands S c r s

  pub evaluated : (r : Reach) (x : CoreTree) (s : State) → World s → Stands S c r s → IsSoundIn S r x → KeepsIn S x → Makes Whatever s (expression g c x s)
  evaluated r x s w h sound t = expression_makes S.functions (constant_at S) (objects_in S r) c (Stands S c r) (names S c r) g (calls r) x s w h sound t

  -- ---- actions

  valued_makes : (r : Reach) (x : CoreTree) (s : State) → World s → Stands S c r s → IsSoundIn S r x → KeepsIn S x → Makes Whatever s (valued g c x s)
  unfolding valued
  valued_makes r x s w h sound t = then_makes (evaluated r x s w h sound t) (λ y s1 w1 l v. discarded_makes (is_call x) y s1 w1)

  apply_makes : (r : Reach) (t : Change) (by : PureTree) (s : State) → World s → Stands S c r s → IsChange (constant_at S) (objects_in S r) c (Stands S c r) (names S c r) t → Makes Whatever s (apply c t by s)
  apply_makes r t by s w h change = store_makes (constant_at S) (objects_in S r) c (Stands S c r) (names S c r) t (new_value t (target_read c t s) by) s w h change

  changed_makes : (r : Reach) (x : CoreTree) (s : State) → World s → Stands S c r s → IsSoundIn S r x → KeepsIn S x → Makes Whatever s (changed g c x s)
  unfolding changed
  changed_makes r (core.assign (core.target cell subscripts k place) op value at) s w h sound t =
      then_makes (target_makes S.functions (constant_at S) (objects_in S r) c (Stands S c r) (names S c r) g (calls r) cell subscripts k place (effects value) op at s w h sound.0 sound.1 t.0.0 t.0.1)
      (λ t1 s1 w1 l v. then_makes (evaluated r value s1 w1 (stands_later S c r s s1 h l) sound.2 t.1)
      (λ by s2 w2 l2 u. apply_makes r t1 by s2 w2 (stands_later S c r s s2 h (later_both l l2)) v))
  changed_makes r (core.bump (core.target cell subscripts k place) up post at) s w h sound t =
      then_makes (target_makes S.functions (constant_at S) (objects_in S r) c (Stands S c r) (names S c r) g (calls r) cell subscripts k place no_effects (step up) at s w h sound.0 sound.1 t.0 t.1)
      (λ t1 s1 w1 l v. apply_makes r t1 one s1 w1 (stands_later S c r s s1 h l) v)
  changed_makes r (core.number v k) s w h sound t = valued_makes r (core.number v k) s w h sound t
  changed_makes r (core.scalar cell k at) s w h sound t = valued_makes r (core.scalar cell k at) s w h sound t
  changed_makes r (core.element name subscripts k at) s w h sound t = valued_makes r (core.element name subscripts k at) s w h sound t
  changed_makes r (core.call callee args k at) s w h sound t = valued_makes r (core.call callee args k at) s w h sound t
  changed_makes r (core.unary op arg k at) s w h sound t = valued_makes r (core.unary op arg k at) s w h sound t
  changed_makes r (core.binary op left right k at) s w h sound t = valued_makes r (core.binary op left right k at) s w h sound t
  changed_makes r (core.choice test left right k at colon) s w h sound t = valued_makes r (core.choice test left right k at colon) s w h sound t
  changed_makes r (core.cast to arg) s w h sound t = valued_makes r (core.cast to arg) s w h sound t
  changed_makes r (core.comma left right) s w h sound t = valued_makes r (core.comma left right) s w h sound t

  action_makes : (r : Reach) (a : CoreActionTree) (s : State) → World s → Stands S c r s → IsSoundIn S r (action_tree a) → KeepsIn S (action_tree a) → Makes Whatever s (action g c a s)
  action_makes r (core.change x) s w h sound t = changed_makes r x s w h sound t
  action_makes r (core.value x) s w h sound t = valued_makes r x s w h sound t

  pub actions_make : (r : Reach) (list : List CoreActionTree) (s : State) → World s → Stands S c r s → ActionsSound S r list → EachAction (KeepsIn S) Nowhere list → Makes Whatever s (actions g c list s)
  unfolding actions
  actions_make r [] s w h sound t = gives_makes w tt
  actions_make r (a ∷ rest) s w h sound t = then_makes (action_makes r a s w h sound.0 t.0) (λ u s1 w1 l v. actions_make r rest s1 w1 (stands_later S c r s s1 h l) sound.1 t.1)

  -- ---- declarations

  item_makes : (r : Reach) (item : Option CoreTree) (s : State) → World s → Stands S c r s → TestSound S r item → IfThere (KeepsIn S) Nowhere item → Makes Whatever s (item_value g c item s)
  item_makes r None s w h sound t = gives_makes w tt
  item_makes r (Some x) s w h sound t = evaluated r x s w h sound t

  filled_makes : (r : Reach) (array : ArrayId) (lengths : List ℕ) (n : ℕ) (items : List (Option CoreTree)) (s : State) → World s → Stands S c r s → IsStored s.arrays array → ItemsSound S r items → EachItem (KeepsIn S) Nowhere items
      → Makes Whatever s (filled g c array lengths n items s)
  filled_makes r array lengths n [] s w h a sound t = gives_makes w tt
  filled_makes r array lengths n (item ∷ items) s w h a sound t =
      then_makes (item_makes r item s w h sound.0 t.0)
      (λ x s1 w1 l v.
      (let a1 = array_later l array a in
      then_makes (emit_makes (tree.put array (subscripts_at lengths n) x c.body_at) s1 w1 (λ more q. put_keeps s1.arrays more q array a1))
      (λ u s2 w2 l2 b. filled_makes r array lengths (n + 1) items s2 w2 (stands_later S c r s s2 h (later_both l l2)) (array_later l2 array a1) sound.1 t.1)))

  initialised_makes : (r : Reach) (array : ArrayId) (o : CoreObjectTree) (init : CoreInitTree) (s : State) → World s → Stands S c r s → IsStored s.arrays array → InitSound S r o init → InInit (KeepsIn S) Nowhere init
      → Makes Whatever s (initialised g c array o.lengths init s)
  initialised_makes r array o core.unwritten s w h a sound t = gives_makes w tt
  initialised_makes r array o (core.single value) s w h a sound t = gives_makes w tt
  initialised_makes r array o (core.elements items) s w h a sound t = filled_makes r array o.lengths 0 items s w h a sound.2 t

  scalar_makes : (r : Reach) (own : VarId) (o : CoreObjectTree) (init : CoreInitTree) (s : State) → World s → Stands S c r s → InitSound S r o init → InInit (KeepsIn S) Nowhere init → Makes Whatever s (scalar_declared g c own init s)
  scalar_makes r own o core.unwritten s w h sound t = declared_makes 1 s w
  scalar_makes r own o (core.single value) s w h sound t = then_makes (evaluated r value s w h sound.1 t) (λ x s1 w1 l v. set_makes own x s1 w1)
  scalar_makes r own o (core.elements items) s w h sound t = gives_makes w tt

  -- its declaration is reached where it has no place for an array, or where its array is noted
  reached : (r : Reach) (object : ℕ) (s : State) → Stands S c r s → ((slot : Slot) → slice_get c.homes object ≡ Some (home.Local slot) → IsNoted s slot.0) → Stands S c (reach object r) s
  reached r object s h n = record {
    file = h.file;
    own = h.own;
    ready = λ i slot at is_. elim is_ [ inl e ↦ n slot (subst (λ j. slice_get c.homes j ≡ Some (home.Local slot)) e at) | inr ready ↦ h.ready i slot at ready ];
    objects = h.objects;
  }

  abbrev slot_in : Option Home → Slot → Slot
  slot_in (Some (home.Local slot)) other = slot
  slot_in _ other = other

  declared_makes_at : (r : Reach) (object : ℕ) (o : CoreObjectTree) (h : Home) (init : CoreInitTree) (s : State) → World s → Stands S c r s → slice_get c.homes object ≡ Some h → OwnKept S.params s object h o → InitSound S (reach object r) o init
      → InInit (KeepsIn S) Nowhere init → Makes (StandsAt (reach object r)) s (declared_as g c (Some h) (Some o) init s)
  declared_makes_at r object o (home.Variable own) init s w stands at f sound t =
      let now = reached r object s stands (λ slot e. absurd (not_slot own slot (sym at ∙ e))) in
      known (scalar_makes (reach object r) own o init s w now sound t) (λ s1 l u. stands_later S c (reach object r) s s1 now l) where
        not_slot : (v : VarId) (slot : Slot) → Some (home.Variable v) ≡ Some (home.Local slot) → ⊥
        not_slot v slot e = absurd cc
  declared_makes_at r object o (home.Local slot) init s w stands at f sound t =
      then_makes (local_makes o s w)
      (λ array s1 w1 l a. then_makes (note_makes slot array s1 w1 (let lt = f.1 in let le = l.slots in omega (arith, lt, le)) a)
      (λ u s2 w2 l2 n.
      (let now = reached r object s2 (stands_later S c r s s2 stands (later_both l l2)) (λ other e. subst (λ (z : Slot). IsNoted s2 z.0) (same_slot slot other (sym at ∙ e)) n) in
      known (initialised_makes (reach object r) array o init s2 w2 now (array_later l2 array a) sound t) (λ s3 l3 v. stands_later S c (reach object r) s2 s3 now l3)))) where
        same_slot : (a b : Slot) → Some (home.Local a) ≡ Some (home.Local b) → a ≡ b
        same_slot a b e = ap (λ x. slot_in x a) e

        local_makes : (p : CoreObjectTree) (t : State) → World t → Makes (λ s1 array. IsStored s1.arrays array) t (local_array p t)
        local_makes p t v = then_makes (declared_makes _ t v) (λ u s1 w1 l a. known (array_makes (array_like p None None false) s1 w1) (λ s2 l2 stored. stored refl))
  declared_makes_at r object o (home.Array a) init s w stands at f sound t = gives_makes w (reached r object s stands (λ slot e. absurd (not_slot a slot (sym at ∙ e)))) where
    not_slot : (v : ArrayId) (slot : Slot) → Some (home.Array v) ≡ Some (home.Local slot) → ⊥
    not_slot v slot e = absurd cc
  declared_makes_at r object o (home.Constant word) init s w stands at f sound t = absurd f

  pub declare_makes : (r : Reach) (object : ℕ) (init : CoreInitTree) (s : State) → World s → Stands S c r s → ((o : CoreObjectTree) × (slice_get S.objects object ≡ Some o) × InitSound S (reach object r) o init) → InInit (KeepsIn S) Nowhere init
      → Makes (StandsAt (reach object r)) s (declare g c object init s)
  declare_makes r object init s w stands d t =
      let f = stands.own object d.0 d.1 in
      let part : Makes (StandsAt (reach object r)) s (declared_as g c (Some f.0) (Some d.0) init s) = declared_makes_at r object d.0 f.0 init s w stands f.1 f.2 d.2 t in
      subst (λ m. Makes (StandsAt (reach object r)) s (declared_as g c m (slice_get c.objects object) init s)) (sym f.1)
      (subst (λ m. Makes (StandsAt (reach object r)) s (declared_as g c (Some f.0) m init s)) (sym (ap (λ os. slice_get os object) stands.objects ∙ d.1)) part)

  -- ---- tests and steps of loops

  pub tested_makes : (r : Reach) (test : Option CoreTree) (s : State) → World s → Stands S c r s → TestSound S r test → IfThere (KeepsIn S) Nowhere test → Makes Whatever s (tested g c test s)
  tested_makes r None s w h sound t = gives_makes w tt
  tested_makes r (Some x) s w h sound t = evaluated r x s w h sound t

  pub stepped_makes : (r : Reach) (list : List CoreActionTree) (at : Place) (s : State) → World s → Stands S c r s → ActionsSound S r list → EachAction (KeepsIn S) Nowhere list → Makes Whatever s (stepped g c list at s)
  unfolding stepped
  stepped_makes r [] at s w h sound t = gives_makes w tt
  stepped_makes r (a ∷ rest) at s w h sound t = then_makes (marked_makes c point.Step at s w) (λ u s1 w1 l v. actions_make r (a ∷ rest) s1 w1 (stands_later S c r s s1 h l) sound t)

  -- ---- returns

  result_set_makes : (r : Reach) (value : Option CoreTree) (s : State) → World s → Stands S c r s → ReturnSound S r value → IfThere (KeepsIn S) Nowhere value → Makes Whatever s (result_set g c value s)
  result_set_makes r None s w h sound t = gives_makes w tt
  result_set_makes r (Some x) s w h sound t = then_makes (evaluated r x s w h sound.1 t) (λ y s1 w1 l v. set_makes (result_variable c.result) y s1 w1)

  pub returned_makes : (r : Reach) (value : Option CoreTree) (tail : Bool) (s : State) → World s → Stands S c r s → ReturnSound S r value → IfThere (KeepsIn S) Nowhere value → Makes Whatever s (returned g c value tail s)
  returned_makes r value tail s w h sound t =
      then_makes (result_set_makes r value s w h sound t) (λ u s1 w1 l v. if_makes tail (gives tt s1) (emit (tree.leave c.call) s1) s1 (gives_makes w1 tt) (emit_makes (tree.leave c.call) s1 w1 (λ more q. tt)))
