-- What statements become is paid for, where calls are.
use Rattle.std.proofs.Common.{ℕ, ◌+◌, Bool, true, false, ◌&&◌, arith, List, [], ◌∷◌, Option, Some, None, slice_get}
use Rattle.hls_base.specs.declared.place.Place.{Place}
use Rattle.hls_base.specs.declared.number.VarId.{VarId}
use Rattle.hls_base.specs.declared.number.ArrayId.{ArrayId}
use Rattle.hls_base.specs.declared.point.PointKind.{PointKind}
use Rattle.hls_base.specs.declared.point.PointKind.TheVariants as point
use Rattle.pieces.specs.Resolved.Core as core
use Rattle.pieces.specs.Resolved.Core.{CoreTree, CoreObjectTree, CoreInitTree, CoreActionTree, CoreStmtTree, CoreStmtTrees, CoreElseTree}
use Rattle.pieces.specs.Trees as tree
use Rattle.pieces.specs.Trees.{PureTree, piece_row}
use Rattle.piece_making.specs.declared.frame.Home.{Home}
use Rattle.piece_making.specs.declared.frame.Home.TheVariants as home
use Rattle.piece_making.specs.Acting.{no_effects, effects}
use Rattle.piece_making.specs.Making.{State, Part, gives, then_, emit, inside}
use Rattle.piece_making.specs.Leaving.{is_empty}
use Rattle.piece_making.specs.Objects.{local_array, array_like, array_weight}
use Rattle.piece_making.specs.Calls.{Call}
use Rattle.piece_making.specs.Assigning.{step, one}
use Rattle.c_expand.specs.Expressions.{Callee, is_call}
use Rattle.c_expand.specs.Statements.{marked, valued, changed, action, actions, item_value, filled, initialised, scalar_declared, declared_as, tested, stepped, repeat, result_variable, result_set, returned, labelled, statement, other_branch, statements, subscripts_at}
use Rattle.program_sizes.proofs.ExpandedSizes.Accounts.{Account, IsPaid, holding, gives_paid, then_paid, if_paid, without_owing}
use Rattle.program_sizes.proofs.ExpandedSizes.Parts.{emit_paid, plain_paid, set_paid, put_paid, mark_paid, leave_paid, label_paid, declared_paid, weighed_paid, inside_paid, switch_paid, array_paid, note_paid, loop_paid}
use Rattle.program_sizes.proofs.ExpandedSizes.Expressions.{CalleesPaid, PaidThere, expression_paid, target_paid, apply_paid, discarded_paid}

-- an array, for which its weight pays
pub local_array_paid : {o : Account} {s : State} (d : CoreObjectTree) → IsPaid o (λ array. o) s (local_array d s)
local_array_paid d = without_owing 0 1 (then_paid (declared_paid (array_weight d.lengths) 0 1 (omega arith) (omega arith)) (λ counted s1. array_paid (array_like d None None false)))

module _ (g : Callee) (c : Call) (callees : CalleesPaid g c) where
  -- ---- actions

  valued_paid : {o : Account} {s : State} (e : CoreTree) → IsPaid o (λ u. o) s (valued g c e s)
  unfolding valued
  valued_paid {o} {s} e = then_paid (expression_paid g c callees o e s) (λ x s1. discarded_paid (is_call e) x)

  changed_paid : {o : Account} {s : State} (e : CoreTree) → IsPaid o (λ u. o) s (changed g c e s)
  unfolding changed
  changed_paid {o} {s} (core.assign left op v at) =
      then_paid (target_paid g c callees o left (effects v) op at s) (λ t s1. then_paid (expression_paid g c callees o v s1) (λ by s2. apply_paid c t by))
  changed_paid {o} {s} (core.bump left up post at) = then_paid (target_paid g c callees o left no_effects (step up) at s) (λ t s1. apply_paid c t one)
  changed_paid (core.number v k) = valued_paid (core.number v k)
  changed_paid (core.scalar cell k at) = valued_paid (core.scalar cell k at)
  changed_paid (core.element name subscripts k at) = valued_paid (core.element name subscripts k at)
  changed_paid (core.call callee args k at) = valued_paid (core.call callee args k at)
  changed_paid (core.unary op arg k at) = valued_paid (core.unary op arg k at)
  changed_paid (core.binary op left right k at) = valued_paid (core.binary op left right k at)
  changed_paid (core.choice test left right k at colon) = valued_paid (core.choice test left right k at colon)
  changed_paid (core.cast to arg) = valued_paid (core.cast to arg)
  changed_paid (core.comma left right) = valued_paid (core.comma left right)

  action_paid : {o : Account} {s : State} (a : CoreActionTree) → IsPaid o (λ u. o) s (action g c a s)
  action_paid (core.change e) = changed_paid e
  action_paid (core.value e) = valued_paid e

  actions_paid : {o : Account} {s : State} (list : List CoreActionTree) → IsPaid o (λ u. o) s (actions g c list s)
  unfolding actions
  actions_paid [] = gives_paid
  actions_paid (a ∷ rest) = then_paid (action_paid a) (λ u s1. actions_paid rest)

  -- ---- declarations

  item_paid : {o : Account} {s : State} (item : Option CoreTree) → IsPaid o (λ x. o) s (item_value g c item s)
  item_paid None = gives_paid
  item_paid {o} {s} (Some e) = expression_paid g c callees o e s

  filled_paid : {o : Account} {s : State} (array : ArrayId) (lengths : List ℕ) (n : ℕ) (items : List (Option CoreTree)) → IsPaid o (λ u. o) s (filled g c array lengths n items s)
  filled_paid array lengths n [] = gives_paid
  filled_paid array lengths n (item ∷ items) =
      then_paid (item_paid item) (λ x s1. then_paid (put_paid array (subscripts_at lengths n) x c.body_at) (λ u s2. filled_paid array lengths (n + 1) items))

  initialised_paid : {o : Account} {s : State} (array : ArrayId) (lengths : List ℕ) (init : CoreInitTree) → IsPaid o (λ u. o) s (initialised g c array lengths init s)
  initialised_paid array lengths core.unwritten = gives_paid
  initialised_paid array lengths (core.single v) = gives_paid
  initialised_paid array lengths (core.elements items) = filled_paid array lengths 0 items

  scalar_paid : {o : Account} {s : State} (name : VarId) (init : CoreInitTree) → IsPaid o (λ u. o) s (scalar_declared g c name init s)
  scalar_paid name core.unwritten = weighed_paid 1
  scalar_paid {o} {s} name (core.single v) = then_paid (expression_paid g c callees o v s) (λ x s1. set_paid name x)
  scalar_paid name (core.elements items) = gives_paid

  declared_as_paid : {o : Account} {s : State} (at : Option Home) (object : Option CoreObjectTree) (init : CoreInitTree) → IsPaid o (λ u. o) s (declared_as g c at object init s)
  declared_as_paid (Some (home.Variable name)) object init = scalar_paid name init
  declared_as_paid (Some (home.Local slot)) (Some d) init =
      then_paid (local_array_paid d) (λ array s1. then_paid (note_paid slot array) (λ u s2. initialised_paid array d.lengths init))
  declared_as_paid (Some (home.Local slot)) None init = gives_paid
  declared_as_paid (Some (home.Array array)) object init = gives_paid
  declared_as_paid (Some (home.Constant word)) object init = gives_paid
  declared_as_paid None object init = gives_paid

  -- ---- loops and returns

  tested_paid : {o : Account} {s : State} (test : Option CoreTree) → IsPaid o (λ x. o) s (tested g c test s)
  tested_paid None = gives_paid
  tested_paid {o} {s} (Some e) = expression_paid g c callees o e s

  stepped_paid : {o : Account} {s : State} (list : List CoreActionTree) (at : Place) → IsPaid o (λ u. o) s (stepped g c list at s)
  unfolding stepped
  stepped_paid [] at = gives_paid
  stepped_paid (a ∷ rest) at = then_paid (mark_paid _) (λ u s1. actions_paid (a ∷ rest))

  -- behind a mark, in a list of their own
  behind_mark_paid : {A : Type 0} {o : Account} {s : State} (kind : PointKind) (at : Place) (part : State → Part A) → PaidThere o part → IsPaid o (λ x. holding x.pieces o) s (inside (λ s0. then_ (marked c kind at s0) (λ u s1. part s1)) s)
  behind_mark_paid kind at part h = inside_paid _ (λ s0. then_paid (mark_paid _) (λ u s1. h s1))

  repeat_paid : {o : Account} {s : State} (post : Bool) (test : Option CoreTree) (body : State → Part (Unit {0})) (steps : List CoreActionTree) (at : Place) → ((n : Account) → PaidThere n body) → IsPaid o (λ u. o) s (repeat g c post test body steps at s)
  repeat_paid {o} post test body steps at h =
      then_paid loop_paid
      (λ id s1. then_paid (behind_mark_paid point.Test at (λ s5. tested g c test s5) (λ s5. tested_paid test))
      (λ before s2. then_paid (behind_mark_paid point.Body at body (h (holding before.pieces o)))
      (λ main s3. then_paid (inside_paid (stepped g c steps at) (λ s0. stepped_paid steps at))
      (λ last s4. emit_paid (tree.repeat_ id post (piece_row before.pieces) before.value (piece_row main.pieces) (piece_row last.pieces) _) (omega arith) (omega arith) (omega arith) (omega arith)))))

  result_set_paid : {o : Account} {s : State} (value : Option CoreTree) → IsPaid o (λ u. o) s (result_set g c value s)
  result_set_paid None = gives_paid
  result_set_paid {o} {s} (Some e) = then_paid (expression_paid g c callees o e s) (λ x s1. set_paid (result_variable c.result) x)

  returned_paid : {o : Account} {s : State} (value : Option CoreTree) (tail : Bool) → IsPaid o (λ u. o) s (returned g c value tail s)
  returned_paid value tail = then_paid (result_set_paid value) (λ u s1. if_paid tail (gives tt s1) (emit (tree.leave c.call) s1) gives_paid (leave_paid c.call))

  -- ---- statements

  label_here_paid : {o : Account} {s : State} (value : Option ℕ) (at : Place) → IsPaid o (λ u. o) s (labelled c value at s)
  label_here_paid value at = then_paid (label_paid value) (λ u s1. mark_paid _)

  mutual
    pub statement_paid : {o : Account} {s : State} (b : CoreStmtTree) (tail : Bool) → IsPaid o (λ u. o) s (statement g c b tail s)
    statement_paid (core.block objects body) tail = statements_paid body tail
    statement_paid (core.declare object init) tail = declared_as_paid (slice_get c.homes object) (slice_get c.objects object) init
    statement_paid (core.act list) tail = actions_paid list
    statement_paid {o} {s} (core.if_ test body other at) tail =
        then_paid (expression_paid g c callees o test s)
        (λ t s1. then_paid (behind_mark_paid point.Arm at (statement g c body tail) (λ s0. statement_paid body tail))
        (λ first s2. then_paid (other_paid other tail)
        (λ second s3. emit_paid (tree.fork t (piece_row first.pieces) (piece_row second.pieces) _) (omega arith) (omega arith) (omega arith) (omega arith))))
    statement_paid {o} {s} (core.switch_ test objects body at) tail =
        then_paid (expression_paid g c callees o test s)
        (λ t s1. then_paid (switch_paid (statements g c body false) (λ s0. statements_paid body false))
        (λ main s2. emit_paid (tree.pick t main.1 (piece_row main.0) _) (omega arith) (omega arith) (omega arith) (omega arith)))
    statement_paid (core.case_ value body at) tail = then_paid (label_here_paid value at) (λ u s1. statement_paid body false)
    statement_paid (core.while_ test body at) tail = repeat_paid false (Some test) (statement g c body false) [] at (λ n s0. statement_paid body false)
    statement_paid (core.do_ body test at) tail = repeat_paid true (Some test) (statement g c body false) [] at (λ n s0. statement_paid body false)
    statement_paid (core.for_ objects init test steps body at) tail =
        then_paid (statements_paid init false) (λ u s1. repeat_paid false test (statement g c body false) steps at (λ n s0. statement_paid body false))
    statement_paid core.break_ tail = plain_paid tree.break_ (omega arith) (omega arith)
    statement_paid core.continue_ tail = plain_paid tree.next_ (omega arith) (omega arith)
    statement_paid (core.return_ value) tail = returned_paid value tail

    other_paid : {o : Account} {s : State} (other : CoreElseTree) (tail : Bool) → IsPaid o (λ x. holding x.pieces o) s (other_branch g c other tail s)
    other_paid core.no_else tail = inside_paid (λ s0. gives tt s0) (λ s0. gives_paid)
    other_paid (core.else_ at body) tail = behind_mark_paid point.Arm at (statement g c body tail) (λ s0. statement_paid body tail)

    pub statements_paid : {o : Account} {s : State} (body : CoreStmtTrees) (tail : Bool) → IsPaid o (λ u. o) s (statements g c body tail s)
    statements_paid core.no_stmt tail = gives_paid
    statements_paid (core.more_stmts first rest) tail = then_paid (statement_paid first (tail && is_empty rest)) (λ u s1. statements_paid rest tail)
