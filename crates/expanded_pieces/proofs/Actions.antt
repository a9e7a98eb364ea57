-- The pieces of actions, declarations and returns.
use Rattle.std.proofs.Common.{◌≡◌, ℕ, ◌+◌, Bool, true, false, List, [], ◌∷◌, refl, ap, subst, zero, suc, Option, Some, None, slice_get, if◌then◌else◌}
use Rattle.hls_base.specs.declared.place.Place.{Place}
use Rattle.hls_base.specs.declared.number.VarId.{VarId}
use Rattle.hls_base.specs.declared.number.ArrayId.{ArrayId}
use Rattle.hls_base.specs.declared.point.PointKind.{PointKind}
use Rattle.hls_base.specs.declared.point.PointKind.TheVariants as point
use Rattle.pieces.specs.Resolved.Core as core
use Rattle.pieces.specs.Resolved.Core.{CoreTree, CoreObjectTree, CoreInitTree, CoreActionTree}
use Rattle.pieces.specs.Trees as tree
use Rattle.pieces.specs.Trees.{PureTree}
use Rattle.piece_making.specs.declared.frame.Home.{Home}
use Rattle.piece_making.specs.declared.frame.Home.TheVariants as home
use Rattle.piece_making.specs.Acting.{no_effects, effects}
use Rattle.piece_making.specs.Making.{gives, emit}
use Rattle.piece_making.specs.Objects.{local_array}
use Rattle.piece_making.specs.Calls.{Call, point_in}
use Rattle.piece_making.specs.Assigning.{Change, step, one, apply, new_value, target_read}
use Rattle.c_expand.specs.Expressions.{Callee, is_call}
use Rattle.c_expand.specs.Statements.{marked, valued, changed, action, actions, item_value, filled, initialised, scalar_declared, declared_as, declare, tested, stepped, result_variable, result_set, returned, subscripts_at}
use Rattle.ir_layout.specs.WellFormed.{Inside, has_number}
use Rattle.expanded_pieces.specs.Lengths.{EachObject}
use Rattle.expanded_pieces.proofs.Parts.{Needs, FitsThere, gives_fits, then_fits, emit_fits, set_fits, put_fits, mark_fits, array_fits, note_fits, declared_fits}
use Rattle.expanded_pieces.proofs.Expressions.{CalleesFit, expression_fits, target_fits, store_fits, discarded_fits}

abbrev object_in : CoreObjectTree → Option CoreObjectTree → CoreObjectTree
object_in d None = d
object_in d (Some o) = o

-- what is known of each object is known of the one with this number
pub each_there : (Q : List ℕ → Type 0) (os : List CoreObjectTree) → EachObject Q os → (i : ℕ) (o : CoreObjectTree) → slice_get os i ≡ Some o → Q o.lengths
each_there Q [] h i o e = absurd cc
each_there Q (x ∷ os) h zero o e = subst (λ y. Q y.lengths) (ap (object_in x) e) h.0
each_there Q (x ∷ os) h (suc i) o e = each_there Q os h.1 i o e

module _ (Q : List ℕ → Type 0) (n : Needs) (g : Callee) (callees : CalleesFit Q g) (c : Call) (objects : EachObject Q c.objects) where
  pub marked_fits : (kind : PointKind) (at : Place) → FitsThere Q n (marked c kind at)
  marked_fits kind at s = mark_fits Q n (point_in c kind at) s

  -- ---- actions

  valued_fits : (e : CoreTree) → FitsThere Q n (valued g c e)
  unfolding valued
  valued_fits e s = then_fits Q n s _ _ (expression_fits Q n g callees c e s) (λ x s1. discarded_fits Q n (is_call e) x s1)

  apply_fits : (t : Change) (by : PureTree) → FitsThere Q n (apply c t by)
  apply_fits t by s = store_fits Q n c t (new_value t (target_read c t s) by) s

  changed_fits : (e : CoreTree) → FitsThere Q n (changed g c e)
  unfolding changed
  changed_fits (core.assign left op value at) s =
      then_fits Q n s _ _ (target_fits Q n g callees c left (effects value) op at s) (λ t s1. then_fits Q n s1 _ _ (expression_fits Q n g callees c value s1) (λ by s2. apply_fits t by s2))
  changed_fits (core.bump left up post at) s = then_fits Q n s _ _ (target_fits Q n g callees c left no_effects (step up) at s) (λ t s1. apply_fits t one s1)
  changed_fits (core.number v k) s = valued_fits (core.number v k) s
  changed_fits (core.scalar cell k at) s = valued_fits (core.scalar cell k at) s
  changed_fits (core.element name subscripts k at) s = valued_fits (core.element name subscripts k at) s
  changed_fits (core.call callee args k at) s = valued_fits (core.call callee args k at) s
  changed_fits (core.unary op arg k at) s = valued_fits (core.unary op arg k at) s
  changed_fits (core.binary op left right k at) s = valued_fits (core.binary op left right k at) s
  changed_fits (core.choice test left right k at colon) s = valued_fits (core.choice test left right k at colon) s
  changed_fits (core.cast to arg) s = valued_fits (core.cast to arg) s
  changed_fits (core.comma left right) s = valued_fits (core.comma left right) s

  action_fits : (a : CoreActionTree) → FitsThere Q n (action g c a)
  action_fits (core.change e) s = changed_fits e s
  action_fits (core.value e) s = valued_fits e s

  pub actions_fit : (list : List CoreActionTree) → FitsThere Q n (actions g c list)
  unfolding actions
  actions_fit [] s = gives_fits Q n tt s
  actions_fit (a ∷ rest) s = then_fits Q n s _ _ (action_fits a s) (λ u s1. actions_fit rest s1)

  -- ---- declarations

  item_fits : (item : Option CoreTree) → FitsThere Q n (item_value g c item)
  item_fits None s = gives_fits Q n _ s
  item_fits (Some e) s = expression_fits Q n g callees c e s

  filled_fits : (array : ArrayId) (lengths : List ℕ) (i : ℕ) (items : List (Option CoreTree)) → FitsThere Q n (filled g c array lengths i items)
  filled_fits array lengths i [] s = gives_fits Q n tt s
  filled_fits array lengths i (item ∷ items) s =
      then_fits Q n s _ _ (item_fits item s) (λ x s1. then_fits Q n s1 _ _ (put_fits Q n array (subscripts_at lengths i) x c.body_at s1) (λ u s2. filled_fits array lengths (i + 1) items s2))

  initialised_fits : (array : ArrayId) (lengths : List ℕ) (init : CoreInitTree) → FitsThere Q n (initialised g c array lengths init)
  initialised_fits array lengths core.unwritten s = gives_fits Q n tt s
  initialised_fits array lengths (core.single v) s = gives_fits Q n tt s
  initialised_fits array lengths (core.elements items) s = filled_fits array lengths 0 items s

  scalar_fits : (name : VarId) (init : CoreInitTree) → FitsThere Q n (scalar_declared g c name init)
  scalar_fits name core.unwritten s = declared_fits Q n 1 s
  scalar_fits name (core.single v) s = then_fits Q n s _ _ (expression_fits Q n g callees c v s) (λ x s1. set_fits Q n name x s1)
  scalar_fits name (core.elements items) s = gives_fits Q n tt s

  local_fits : (o : CoreObjectTree) → Q o.lengths → FitsThere Q n (local_array o)
  local_fits o q s = then_fits Q n s _ _ (declared_fits Q n _ s) (λ u s1. array_fits Q n _ q s1)

  declared_as_fits : (at : Option Home) (object : Option CoreObjectTree) → ((o : CoreObjectTree) → object ≡ Some o → Q o.lengths) → (init : CoreInitTree) → FitsThere Q n (declared_as g c at object init)
  declared_as_fits (Some (home.Variable name)) object q init s = scalar_fits name init s
  declared_as_fits (Some (home.Local slot)) (Some o) q init s =
      then_fits Q n s _ _ (local_fits o (q o refl) s) (λ array s1. then_fits Q n s1 _ _ (note_fits Q n slot array s1) (λ u s2. initialised_fits array o.lengths init s2))
  declared_as_fits (Some (home.Local slot)) None q init s = gives_fits Q n tt s
  declared_as_fits (Some (home.Array array)) object q init s = gives_fits Q n tt s
  declared_as_fits (Some (home.Constant word)) object q init s = gives_fits Q n tt s
  declared_as_fits None object q init s = gives_fits Q n tt s

  pub declare_fits : (object : ℕ) (init : CoreInitTree) → FitsThere Q n (declare g c object init)
  declare_fits object init s = declared_as_fits (slice_get c.homes object) (slice_get c.objects object) (λ o e. each_there Q c.objects objects object o e) init s

  -- ---- tests and steps of loops

  pub tested_fits : (test : Option CoreTree) → FitsThere Q n (tested g c test)
  tested_fits None s = gives_fits Q n one s
  tested_fits (Some e) s = expression_fits Q n g callees c e s

  pub stepped_fits : (list : List CoreActionTree) (at : Place) → FitsThere Q n (stepped g c list at)
  unfolding stepped
  stepped_fits [] at s = gives_fits Q n tt s
  stepped_fits (a ∷ rest) at s = then_fits Q n s _ _ (marked_fits point.Step at s) (λ u s1. actions_fit (a ∷ rest) s1)

  -- ---- returns

  result_set_fits : (value : Option CoreTree) → FitsThere Q n (result_set g c value)
  result_set_fits None s = gives_fits Q n tt s
  result_set_fits (Some e) s = then_fits Q n s _ _ (expression_fits Q n g callees c e s) (λ x s1. set_fits Q n (result_variable c.result) x s1)

  leave_fits : n.leaves ≡ true → n.call ≡ c.call.0 → FitsThere Q n (emit (tree.leave c.call))
  leave_fits h e s = emit_fits Q n (tree.leave c.call) (λ inside m. subst_call inside (m.lands h)) s where
    subst_call : (inside : Inside) → has_number inside.lands n.call ≡ true → has_number inside.lands c.call.0 ≡ true
    subst_call inside f = rw (← e) f

  left_fits : (tail : Bool) → (tail ≡ false → n.leaves ≡ true) → n.call ≡ c.call.0 → FitsThere Q n (λ s1. if tail then gives tt s1 else emit (tree.leave c.call) s1)
  left_fits true h e s = gives_fits Q n tt s
  left_fits false h e s = leave_fits (h refl) e s

  pub returned_fits : (value : Option CoreTree) (tail : Bool) → (tail ≡ false → n.leaves ≡ true) → n.call ≡ c.call.0 → FitsThere Q n (returned g c value tail)
  returned_fits value tail h e s = then_fits Q n s _ _ (result_set_fits value s) (λ u s1. left_fits tail h e s1)
