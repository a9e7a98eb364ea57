-- Parts that are paid for, one behind another.
use Rattle.std.proofs.Common.{◌≤◌, ℕ, ◌+◌, ◌*◌, Bool, true, false, ◌&&◌, ◌||◌, arith, List, [], ◌∷◌, ◌++◌, length, length-append, Option, Some, None}
use Rattle.std.specs.Prelude.{nat_lt}
use Rattle.hls_base.specs.declared.place.Place.{Place}
use Rattle.hls_base.specs.declared.point.Point.{Point}
use Rattle.hls_base.specs.declared.number.VarId.{VarId}
use Rattle.hls_base.specs.declared.number.ArrayId.{ArrayId}
use Rattle.c_token.specs.declared.ctype.CType.{CType}
use Rattle.pieces.specs.declared.piece.CallId.{CallId}
use Rattle.pieces.specs.Trees as tree
use Rattle.pieces.specs.Trees.{PureTree, PureTrees, PieceTree, piece_row, row}
use Rattle.pieces.specs.Program.{ArrayTree}
use Rattle.pieces.specs.Kind.{kind}
use Rattle.pieces.specs.Weight.{piece_weight}
use Rattle.piece_making.specs.declared.work.Slot.{Slot}
use Rattle.piece_making.specs.declared.effects.Effects.{Effects}
use Rattle.piece_making.specs.Acting.{spoils}
use Rattle.piece_making.specs.Making.{State, Part, gives, then_, own_weight, emit, label, declared, inside, inside_switch, fresh, fresh_result, set_own, add_array, new_slot, note_array, next_call, next_loop}
use Rattle.piece_making.specs.Saving.{has_element, is_logical, saved, all_saved, saved_if, save}
use Rattle.passes.specs.Lands.{piece_lands}
use Rattle.program_sizes.proofs.ExpandedSizes.Accounts.{Account, IsPaid, owing, begun, holding, holding_labels, gives_paid, then_paid, if_paid}

-- ---- pieces

-- a piece whose own weight pays for what is left out of the second account
pub emit_paid : {o n : Account} {s : State} (p : PieceTree) → o.variables ≤ n.variables + 16386 * own_weight p → o.arrays ≤ n.arrays + own_weight p → n.weight + piece_weight p ≤ o.weight + own_weight p → n.lands + piece_lands p ≤ o.lands + own_weight p
    → IsPaid o (λ u. n) s (emit p s)
unfolding emit
emit_paid p v a w l = record { variables = omega (arith, v); arrays = omega (arith, a); weight = omega (arith, w); lands = omega (arith, l) }

-- a piece without others in it
pub plain_paid : {o : Account} {s : State} (p : PieceTree) → piece_weight p ≤ own_weight p → piece_lands p ≤ own_weight p → IsPaid o (λ u. o) s (emit p s)
plain_paid {o} p w l = emit_paid p (omega arith) (omega arith) (omega (arith, w)) (omega (arith, l))

pub set_paid : {o : Account} {s : State} (name : VarId) (x : PureTree) → IsPaid o (λ u. o) s (emit (tree.set name x) s)
set_paid name x = plain_paid (tree.set name x) (omega arith) (omega arith)

-- it pays for its variable
pub own_set_paid : {o : Account} {s : State} (name : VarId) (x : PureTree) → IsPaid (owing 1 0 o) (λ u. o) s (emit (tree.set name x) s)
own_set_paid {o} name x = emit_paid (tree.set name x) (omega arith) (omega arith) (omega arith) (omega arith)

pub put_paid : {o : Account} {s : State} (array : ArrayId) (subscripts : PureTrees) (x : PureTree) (at : Place) → IsPaid o (λ u. o) s (emit (tree.put array subscripts x at) s)
put_paid array subscripts x at = plain_paid (tree.put array subscripts x at) (omega arith) (omega arith)

pub mark_paid : {o : Account} {s : State} (point : Point) → IsPaid o (λ u. o) s (emit (tree.mark point) s)
mark_paid point = plain_paid (tree.mark point) (omega arith) (omega arith)

pub leave_paid : {o : Account} {s : State} (call : CallId) → IsPaid o (λ u. o) s (emit (tree.leave call) s)
leave_paid call = plain_paid (tree.leave call) (omega arith) (omega arith)

pub land_paid : {o : Account} {s : State} (call : CallId) (end : Point) → IsPaid (begun o) (λ u. o) s (emit (tree.land call end) s)
land_paid {o} call end = emit_paid (tree.land call end) (omega arith) (omega arith) (omega arith) (omega arith)

pub label_paid : {o : Account} {s : State} (value : Option ℕ) → IsPaid o (λ u. o) s (label value s)
unfolding label
label_paid value = record { variables = omega arith; arrays = omega arith; weight = omega arith; lands = omega arith }

-- a weight pays for so many variables and arrays
pub declared_paid : {o : Account} {s : State} (weight v a : ℕ) → v ≤ 16386 * weight → a ≤ weight → IsPaid (owing v a o) (λ u. o) s (declared weight s)
unfolding declared
declared_paid {o} weight v a pays pay = record { variables = omega (arith, pays); arrays = omega (arith, pay); weight = omega arith; lands = omega arith }

pub weighed_paid : {o : Account} {s : State} (weight : ℕ) → IsPaid o (λ u. o) s (declared weight s)
unfolding declared
weighed_paid weight = record { variables = omega arith; arrays = omega arith; weight = omega arith; lands = omega arith }

-- ---- lists of pieces within a piece

pub inside_paid : {A : Type 0} {o : Account} {s : State} (part : State → Part A) → ((s0 : State) → IsPaid o (λ x. o) s0 (part s0)) → IsPaid o (λ x. holding x.pieces o) s (inside part s)
unfolding inside
inside_paid {s = s} part h =
    let q = h (record s { made = 0 }) in
    record {
      variables = q.variables;
      arrays = q.arrays;
      weight = (let w = q.weight in omega (arith, w));
      lands = (let l = q.lands in omega (arith, l));
    }

pub switch_paid : {A : Type 0} {o : Account} {s : State} (part : State → Part A) → ((s0 : State) → IsPaid o (λ x. o) s0 (part s0)) → IsPaid o (λ x. holding_labels (length x.1) (holding x.0 o)) s (inside_switch part s)
unfolding inside_switch inside
switch_paid {s = s} part h =
    let q = h (record s { made = 0 }) in
    record {
      variables = q.variables;
      arrays = q.arrays;
      weight = (let w = q.weight in omega (arith, w));
      lands = (let l = q.lands in omega (arith, l));
    }

-- ---- variables, arrays, calls and loops

pub fresh_paid : {o : Account} {s : State} (k : CType) → IsPaid o (λ own. owing 1 0 o) s (fresh k s)
unfolding fresh
fresh_paid {o} {s} k = record { variables = (let e = length-append s.variables (k ∷ []) in omega (arith, e)); arrays = omega arith; weight = omega arith; lands = omega arith }

pub result_paid : {o : Account} {s : State} (k : Option CType) → IsPaid o (λ own. owing 1 0 o) s (fresh_result k s)
unfolding fresh_result
result_paid None = record { variables = omega arith; arrays = omega arith; weight = omega arith; lands = omega arith }
result_paid (Some k) = then_paid (fresh_paid k) (λ own s1. gives_paid)

pub array_paid : {o : Account} {s : State} (a : ArrayTree) → IsPaid o (λ array. owing 0 1 o) s (add_array a s)
unfolding add_array
array_paid {o} {s} a = record { variables = omega arith; arrays = (let e = length-append s.arrays (a ∷ []) in omega (arith, e)); weight = omega arith; lands = omega arith }

pub slot_paid : {o : Account} {s : State} → IsPaid o (λ slot. o) s (new_slot s)
unfolding new_slot
slot_paid = record { variables = omega arith; arrays = omega arith; weight = omega arith; lands = omega arith }

pub note_paid : {o : Account} {s : State} (slot : Slot) (a : ArrayId) → IsPaid o (λ u. o) s (note_array slot a s)
unfolding note_array
note_paid slot a = record { variables = omega arith; arrays = omega arith; weight = omega arith; lands = omega arith }

pub call_paid : {o : Account} {s : State} → IsPaid o (λ call. o) s (next_call s)
unfolding next_call
call_paid = record { variables = omega arith; arrays = omega arith; weight = omega arith; lands = omega arith }

pub loop_paid : {o : Account} {s : State} → IsPaid o (λ id. o) s (next_loop s)
unfolding next_loop
loop_paid = record { variables = omega arith; arrays = omega arith; weight = omega arith; lands = omega arith }

pub own_paid : {o : Account} {s : State} (k : CType) (x : PureTree) → IsPaid o (λ y. o) s (set_own k x s)
unfolding set_own
own_paid k x = then_paid (fresh_paid k) (λ own s1. then_paid (own_set_paid own x) (λ u s2. gives_paid))

-- ---- saved values

saved_if_paid : {o : Account} (whole : Bool) (x : PureTree) (parts : State → Part PureTree) (s : State) → IsPaid o (λ y. o) s (parts s) → IsPaid o (λ y. o) s (saved_if whole x parts s)
saved_if_paid true x parts s h = own_paid (kind x) x
saved_if_paid false x parts s h = h

mutual
  saved_paid : {o : Account} (n : ℕ) (calls : Bool) (x : PureTree) (s : State) → IsPaid o (λ y. o) s (saved n calls x s)
  saved_paid n calls (tree.number v k) s = gives_paid
  saved_paid n calls (tree.variable name k) s = saved_if_paid (calls && nat_lt name.0 n) (tree.variable name k) (λ s1. gives (tree.variable name k) s1) s gives_paid
  saved_paid n calls (tree.element array given k at) s = then_paid (all_paid n calls given [] s) (λ xs s1. own_paid k (tree.element array (row xs) k at))
  saved_paid n calls (tree.unary op arg k at) s = then_paid (saved_paid n calls arg s) (λ x s1. gives_paid)
  saved_paid n calls (tree.binary op left right k at) s =
      then_paid (saved_paid n calls left s)
      (λ x s1. saved_if_paid (is_logical op && has_element right) (tree.binary op x right k at) (λ s2. then_ (saved n calls right s2) (λ y s3. gives (tree.binary op x y k at) s3)) s1
      (then_paid (saved_paid n calls right s1) (λ y s2. gives_paid)))
  saved_paid n calls (tree.choice test left right k) s =
      then_paid (saved_paid n calls test s)
      (λ t s1. saved_if_paid (has_element left || has_element right) (tree.choice t left right k) (λ s2. then_ (saved n calls left s2) (λ x s3. then_ (saved n calls right s3) (λ y s4. gives (tree.choice t x y k) s4))) s1
      (then_paid (saved_paid n calls left s1) (λ x s2. then_paid (saved_paid n calls right s2) (λ y s3. gives_paid))))
  saved_paid n calls (tree.cast to arg) s = then_paid (saved_paid n calls arg s) (λ x s1. gives_paid)

  all_paid : {o : Account} (n : ℕ) (calls : Bool) (xs : PureTrees) (before : List PureTree) (s : State) → IsPaid o (λ ys. o) s (all_saved n calls xs before s)
  all_paid n calls tree.none before s = gives_paid
  all_paid n calls (tree.more first rest) before s = then_paid (saved_paid n calls first s) (λ x s1. all_paid n calls rest (before ++ x ∷ []) s1)

pub save_paid : {o : Account} (n : ℕ) (x : PureTree) (later : Effects) (s : State) → IsPaid o (λ y. o) s (save n x later s)
save_paid n x later s = if_paid (spoils later) (saved n later.calls x s) (gives x s) (saved_paid n later.calls x s) gives_paid
