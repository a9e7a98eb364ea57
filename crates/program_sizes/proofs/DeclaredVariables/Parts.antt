-- Parts that are paid for, one behind another.
use Rattle.std.proofs.Common.{◌≤◌, ℕ, suc, ◌+◌, Bool, true, false, ◌&&◌, ◌||◌, arith, List, [], ◌∷◌, ◌++◌, length-append, Option, Some, None}
use Rattle.std.specs.Prelude.{nat_lt}
use Rattle.hls_base.specs.declared.number.VarId.{VarId}
use Rattle.hls_base.specs.declared.number.ArrayId.{ArrayId}
use Rattle.c_token.specs.declared.ctype.CType.{CType}
use Rattle.pieces.specs.Trees as tree
use Rattle.pieces.specs.Trees.{PureTree, PureTrees, PieceTree, row}
use Rattle.pieces.specs.Program.{ArrayTree}
use Rattle.pieces.specs.Kind.{kind}
use Rattle.piece_making.specs.declared.work.Slot.{Slot}
use Rattle.piece_making.specs.declared.effects.Effects.{Effects}
use Rattle.piece_making.specs.Acting.{spoils}
use Rattle.piece_making.specs.Making.{State, Part, gives, then_, own_weight, emit, label, declared, inside, inside_switch, fresh, fresh_result, set_own, add_array, new_slot, note_array, next_call, next_loop}
use Rattle.piece_making.specs.Saving.{has_element, is_logical, saved, all_saved, saved_if, save}
use Rattle.program_sizes.proofs.DeclaredVariables.Paying.{IsPaid, gives_paid, then_paid, if_paid, eased}

-- ---- pieces

-- a piece pays for what is owed no more behind it
pub emit_paid : {o n : ℕ} {s : State} (p : PieceTree) → o ≤ n + own_weight p → IsPaid o n s (emit p s)
unfolding emit
emit_paid p pays = record { paid = omega (arith, pays) }

pub plain_paid : {o : ℕ} {s : State} (p : PieceTree) → IsPaid o o s (emit p s)
plain_paid p = emit_paid p (omega arith)

-- it pays for its variable
pub own_set_paid : {o : ℕ} {s : State} (name : VarId) (x : PureTree) → IsPaid (suc o) o s (emit (tree.set name x) s)
own_set_paid name x = emit_paid (tree.set name x) (omega arith)

pub label_paid : {o : ℕ} {s : State} (value : Option ℕ) → IsPaid o o s (label value s)
unfolding label
label_paid value = record { paid = omega arith }

pub declared_paid : {o n : ℕ} {s : State} (weight : ℕ) → o ≤ n + weight → IsPaid o n s (declared weight s)
unfolding declared
declared_paid weight pays = record { paid = omega (arith, pays) }

-- ---- lists of pieces within a piece

pub inside_paid : {A : Type 0} {o n : ℕ} {s : State} (part : State → Part A) → ((s0 : State) → IsPaid o n s0 (part s0)) → IsPaid o n s (inside part s)
unfolding inside
inside_paid {s = s} part h = record { paid = (h (record s { made = 0 })).paid }

pub switch_paid : {A : Type 0} {o n : ℕ} {s : State} (part : State → Part A) → ((s0 : State) → IsPaid o n s0 (part s0)) → IsPaid o n s (inside_switch part s)
unfolding inside_switch inside
switch_paid {s = s} part h = record { paid = (h (record s { made = 0 })).paid }

-- ---- variables, arrays, calls and loops

pub fresh_paid : {o : ℕ} {s : State} (k : CType) → IsPaid o (suc o) s (fresh k s)
unfolding fresh
fresh_paid {s = s} k = record { paid = (let e = length-append s.variables (k ∷ []) in omega (arith, e)) }

pub result_paid : {o : ℕ} {s : State} (k : Option CType) → IsPaid o (suc o) s (fresh_result k s)
unfolding fresh_result
result_paid {o} None = eased o o (omega arith) (omega arith) gives_paid
result_paid (Some k) = then_paid (fresh_paid k) (λ own s1. gives_paid)

pub array_paid : {o : ℕ} {s : State} (a : ArrayTree) → IsPaid o o s (add_array a s)
unfolding add_array
array_paid a = record { paid = omega arith }

pub slot_paid : {o : ℕ} {s : State} → IsPaid o o s (new_slot s)
unfolding new_slot
slot_paid = record { paid = omega arith }

pub note_paid : {o : ℕ} {s : State} (slot : Slot) (a : ArrayId) → IsPaid o o s (note_array slot a s)
unfolding note_array
note_paid slot a = record { paid = omega arith }

pub call_paid : {o : ℕ} {s : State} → IsPaid o o s (next_call s)
unfolding next_call
call_paid = record { paid = omega arith }

pub loop_paid : {o : ℕ} {s : State} → IsPaid o o s (next_loop s)
unfolding next_loop
loop_paid = record { paid = omega arith }

pub own_paid : {o : ℕ} {s : State} (k : CType) (x : PureTree) → IsPaid o o s (set_own k x s)
unfolding set_own
own_paid k x = then_paid (fresh_paid k) (λ own s1. then_paid (own_set_paid own x) (λ u s2. gives_paid))

-- ---- saved values

saved_if_paid : {o : ℕ} (whole : Bool) (x : PureTree) (parts : State → Part PureTree) (s : State) → IsPaid o o s (parts s) → IsPaid o o s (saved_if whole x parts s)
saved_if_paid true x parts s h = own_paid (kind x) x
saved_if_paid false x parts s h = h

mutual
  saved_paid : {o : ℕ} (n : ℕ) (calls : Bool) (x : PureTree) (s : State) → IsPaid o o s (saved n calls x s)
  saved_paid n calls (tree.number v k) s = gives_paid
  saved_paid n calls (tree.variable name k) s = saved_if_paid (calls && nat_lt name.0 n) (tree.variable name k) (λ s1. gives (tree.variable name k) s1) s gives_paid
  saved_paid n calls (tree.element array given k at) s = then_paid (all_paid n calls given [] s) (λ xs s1. own_paid k (tree.element array (row xs) k at))
  saved_paid n calls (tree.unary op arg k at) s = then_paid (saved_paid n calls arg s) (λ x s1. gives_paid)
  saved_paid n calls (tree.binary op left right k at) s =
      then_paid (saved_paid n calls left s)
      (λ x s1. saved_if_paid (is_logical op && has_element right) (tree.binary op x right k at) (λ s2. then_ (saved n calls right s2) (λ y s3. gives (tree.binary op x y k at) s3)) s1
      (then_paid (saved_paid n calls right s1) (λ y s2. gives_paid)))
  saved_paid n calls (tree.choice test left right k) s =
      then_paid (saved_paid n calls test s)
      (λ t s1. saved_if_paid (has_element left || has_element right) (tree.choice t left right k) (λ s2. then_ (saved n calls left s2) (λ x s3. then_ (saved n calls right s3) (λ y s4. gives (tree.choice t x y k) s4))) s1
      (then_paid (saved_paid n calls left s1) (λ x s2. then_paid (saved_paid n calls right s2) (λ y s3. gives_paid))))
  saved_paid n calls (tree.cast to arg) s = then_paid (saved_paid n calls arg s) (λ x s1. gives_paid)

  all_paid : {o : ℕ} (n : ℕ) (calls : Bool) (xs : PureTrees) (before : List PureTree) (s : State) → IsPaid o o s (all_saved n calls xs before s)
  all_paid n calls tree.none before s = gives_paid
  all_paid n calls (tree.more first rest) before s = then_paid (saved_paid n calls first s) (λ x s1. all_paid n calls rest (before ++ x ∷ []) s1)

pub save_paid : {o : ℕ} (n : ℕ) (x : PureTree) (later : Effects) (s : State) → IsPaid o o s (save n x later s)
save_paid n x later s = if_paid (spoils later) (saved n later.calls x s) (gives x s) (saved_paid n later.calls x s) gives_paid
