-- The pieces of actions, declarations and returns.
use Rattle.std.proofs.Common.{ℕ, ◌+◌, Bool, List, [], ◌∷◌, Option, Some, None, slice_get}
use Rattle.hls_base.specs.declared.place.Place.{Place}
use Rattle.hls_base.specs.declared.point.Point.{Point}
use Rattle.hls_base.specs.declared.point.PointKind.{PointKind}
use Rattle.hls_base.specs.declared.point.PointKind.TheVariants as point
use Rattle.hls_base.specs.declared.number.VarId.{VarId}
use Rattle.hls_base.specs.declared.number.ArrayId.{ArrayId}
use Rattle.pieces.specs.Resolved.Core as core
use Rattle.pieces.specs.Resolved.Core.{CoreTree, CoreObjectTree, CoreInitTree, CoreActionTree}
use Rattle.pieces.specs.Trees as tree
use Rattle.pieces.specs.Trees.{PureTree}
use Rattle.piece_making.specs.declared.frame.Home.{Home}
use Rattle.piece_making.specs.declared.frame.Home.TheVariants as home
use Rattle.piece_making.specs.Acting.{no_effects, effects}
use Rattle.piece_making.specs.Making.{State, Part, gives, emit}
use Rattle.piece_making.specs.Objects.{local_array}
use Rattle.piece_making.specs.Calls.{Call, point_in}
use Rattle.piece_making.specs.Assigning.{Change, step, one, apply, new_value, target_read}
use Rattle.c_expand.specs.Expressions.{Callee, is_call}
use Rattle.c_expand.specs.Statements.{marked, valued, changed, action, actions, item_value, filled, initialised, scalar_declared, declared_as, declare, tested, stepped, result_variable, result_set, returned, subscripts_at}
use Rattle.expanded_pieces.proofs.Expressions.{CalleesFit}
use Rattle.expanded_pieces.specs.BegunPieces.Reads.{ReadsNone, EachReadsNone}
use Rattle.expanded_pieces.proofs.BegunPieces.Parts.{There, any, then_there, gives_begun, emit_begun, set_begun, put_begun, mark_begun, array_begun, note_begun, declared_begun, if_begun}
use Rattle.expanded_pieces.proofs.BegunPieces.Forks.{anything}
use Rattle.expanded_pieces.proofs.BegunPieces.Expressions.{CalleesBegin, TargetReads, expression_begun, target_begun, store_begun, new_reads, discarded_begun}

-- the subscripts of a declaration are numbers
numbers_read : (hidden : ℕ → Bool) (lengths : List ℕ) (n : ℕ) → EachReadsNone hidden (subscripts_at lengths n)
numbers_read hidden [] n = tt
numbers_read hidden (len ∷ lengths) n = (tt, numbers_read hidden lengths n)

module _ (kept : Point → Bool) (g : Callee) (callees : CalleesBegin kept g) (fit : CalleesFit anything g) (c : Call) (hidden : ℕ → Bool) where
  abbrev pub Makes : (State → Part (Unit {0})) → Type 0
  Makes part = There kept hidden c any part

  pub marked_begun : (kind : PointKind) (at : Place) → Makes (marked c kind at)
  marked_begun kind at s r = mark_begun kept hidden s.calls (point_in c kind at) s

  -- ---- actions

  valued_begun : (e : CoreTree) → Makes (valued g c e)
  unfolding valued
  valued_begun e s r = then_there kept hidden c s r _ _ (expression_begun kept g callees fit c e hidden s r) (λ x v s1 r1. discarded_begun kept hidden c (is_call e) x v s1 r1)

  apply_begun : (t : Change) (by : PureTree) → TargetReads hidden t → ReadsNone hidden by → Makes (apply c t by)
  apply_begun t by q v s r = store_begun kept hidden c t (new_value t (target_read c t s) by) q (new_reads kept hidden c t s r q by v) s

  changed_begun : (e : CoreTree) → Makes (changed g c e)
  unfolding changed
  changed_begun (core.assign left op value at) s r =
      then_there kept hidden c s r _ _ (target_begun kept g callees fit c left (effects value) op at hidden s r)
      (λ t q s1 r1. then_there kept hidden c s1 r1 _ _ (expression_begun kept g callees fit c value hidden s1 r1) (λ by v s2 r2. apply_begun t by q v s2 r2))
  changed_begun (core.bump left up post at) s r = then_there kept hidden c s r _ _ (target_begun kept g callees fit c left no_effects (step up) at hidden s r) (λ t q s1 r1. apply_begun t one q tt s1 r1)
  changed_begun e s r = valued_begun e s r

  action_begun : (a : CoreActionTree) → Makes (action g c a)
  action_begun (core.change e) s r = changed_begun e s r
  action_begun (core.value e) s r = valued_begun e s r

  pub actions_begun : (list : List CoreActionTree) → Makes (actions g c list)
  unfolding actions
  actions_begun [] s r = gives_begun kept hidden s.calls tt tt s
  actions_begun (a ∷ rest) s r = then_there kept hidden c s r _ _ (action_begun a s r) (λ u w s1 r1. actions_begun rest s1 r1)

  -- ---- declarations

  item_begun : (item : Option CoreTree) → There kept hidden c (ReadsNone hidden) (item_value g c item)
  item_begun None s r = gives_begun kept hidden s.calls _ tt s
  item_begun (Some e) s r = expression_begun kept g callees fit c e hidden s r

  filled_begun : (array : ArrayId) (lengths : List ℕ) (i : ℕ) (items : List (Option CoreTree)) → Makes (filled g c array lengths i items)
  filled_begun array lengths i [] s r = gives_begun kept hidden s.calls tt tt s
  filled_begun array lengths i (item ∷ items) s r =
      then_there kept hidden c s r _ _ (item_begun item s r)
      (λ x v s1 r1. then_there kept hidden c s1 r1 _ _ (put_begun kept hidden s1.calls array (subscripts_at lengths i) x c.body_at s1 (numbers_read hidden lengths i) v) (λ u w s2 r2. filled_begun array lengths (i + 1) items s2 r2))

  initialised_begun : (array : ArrayId) (lengths : List ℕ) (init : CoreInitTree) → Makes (initialised g c array lengths init)
  initialised_begun array lengths core.unwritten s r = gives_begun kept hidden s.calls tt tt s
  initialised_begun array lengths (core.single v) s r = gives_begun kept hidden s.calls tt tt s
  initialised_begun array lengths (core.elements items) s r = filled_begun array lengths 0 items s r

  scalar_begun : (name : VarId) (init : CoreInitTree) → Makes (scalar_declared g c name init)
  scalar_begun name core.unwritten s r = declared_begun kept hidden 1 s
  scalar_begun name (core.single v) s r = then_there kept hidden c s r _ _ (expression_begun kept g callees fit c v hidden s r) (λ x q s1 r1. set_begun kept hidden s1.calls name x s1 q)
  scalar_begun name (core.elements items) s r = gives_begun kept hidden s.calls tt tt s

  local_begun : (o : CoreObjectTree) → There kept hidden c any (local_array o)
  local_begun o s r = then_there kept hidden c s r _ _ (declared_begun kept hidden _ s) (λ u w s1 r1. array_begun kept hidden _ s1)

  declared_as_begun : (at : Option Home) (object : Option CoreObjectTree) (init : CoreInitTree) → Makes (declared_as g c at object init)
  declared_as_begun (Some (home.Variable name)) object init s r = scalar_begun name init s r
  declared_as_begun (Some (home.Local slot)) (Some o) init s r =
      then_there kept hidden c s r _ _ (local_begun o s r) (λ array w s1 r1. then_there kept hidden c s1 r1 _ _ (note_begun kept hidden slot array s1) (λ u w1 s2 r2. initialised_begun array o.lengths init s2 r2))
  declared_as_begun at object init s r = gives_begun kept hidden s.calls tt tt s

  pub declare_begun : (object : ℕ) (init : CoreInitTree) → Makes (declare g c object init)
  declare_begun object init s r = declared_as_begun (slice_get c.homes object) (slice_get c.objects object) init s r

  -- ---- tests and steps of loops

  pub tested_begun : (test : Option CoreTree) → There kept hidden c (ReadsNone hidden) (tested g c test)
  tested_begun None s r = gives_begun kept hidden s.calls one tt s
  tested_begun (Some e) s r = expression_begun kept g callees fit c e hidden s r

  pub stepped_begun : (list : List CoreActionTree) (at : Place) → Makes (stepped g c list at)
  unfolding stepped
  stepped_begun [] at s r = gives_begun kept hidden s.calls tt tt s
  stepped_begun (a ∷ rest) at s r = then_there kept hidden c s r _ _ (marked_begun point.Step at s r) (λ u w s1 r1. actions_begun (a ∷ rest) s1 r1)

  -- ---- returns

  result_set_begun : (value : Option CoreTree) → Makes (result_set g c value)
  result_set_begun None s r = gives_begun kept hidden s.calls tt tt s
  result_set_begun (Some e) s r = then_there kept hidden c s r _ _ (expression_begun kept g callees fit c e hidden s r) (λ x v s1 r1. set_begun kept hidden s1.calls (result_variable c.result) x s1 v)

  pub returned_begun : (value : Option CoreTree) (tail : Bool) → Makes (returned g c value tail)
  returned_begun value tail s r =
      then_there kept hidden c s r _ _ (result_set_begun value s r)
      (λ u w s1 r1. if_begun kept hidden s1.calls tail (gives tt s1) (emit (tree.leave c.call) s1) s1 (gives_begun kept hidden s1.calls tt tt s1) (emit_begun kept hidden s1.calls (tree.leave c.call) s1 (λ lands h a apart b. tt) tt))
