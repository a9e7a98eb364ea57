-- Parts one after another, of which each is counted.
use Rattle.std.proofs.Common.{ℕ, Bool, true, false, ◌&&◌, ◌||◌, List, [], ◌∷◌, ◌++◌, refl, ap₂, arith, if◌then◌else◌, Option, Some, None}
use Rattle.std.specs.Prelude.{nat_lt}
use Rattle.std.proofs.lemmas.List.{length-append}
use Rattle.hls_base.specs.declared.number.ArrayId.{ArrayId}
use Rattle.c_token.specs.declared.ctype.CType.{CType}
use Rattle.pieces.specs.Trees as tree
use Rattle.pieces.specs.Trees.{PureTree, PureTrees, PieceTree, row}
use Rattle.pieces.specs.Program.{ArrayTree}
use Rattle.pieces.specs.Kind.{kind}
use Rattle.piece_making.specs.declared.work.Slot.{Slot}
use Rattle.piece_making.specs.declared.effects.Effects.{Effects}
use Rattle.piece_making.specs.Acting.{spoils}
use Rattle.piece_making.specs.Making.{State, Part, gives, then_, emit, declared, inside, fresh, fresh_result, set_own, add_array, new_slot, note_array, next_call, next_loop}
use Rattle.piece_making.specs.Saving.{has_element, is_logical, saved, all_saved, saved_binary, saved_choice, save}
use Rattle.expand_runs.specs.Counting.{IsCounted}

pub counted_gives : {A : Type 0} (x : A) (s : State) → IsCounted s (gives x s)
counted_gives x s = record { made = omega arith; labels = refl }

pub counted_then : {A B : Type 0} (s : State) (first : Part A) (next : A → State → Part B) → IsCounted s first → IsCounted first.state (next first.value first.state) → IsCounted s (then_ first next)
unfolding then_
counted_then s first next h g =
    let second = next first.value first.state in
    record {
      made = (let a = h.made in let b = g.made in let e = length-append first.pieces second.pieces in omega (arith, a, b, e));
      labels = ap₂ ◌++◌ h.labels g.labels;
    }

pub counted_if : {A : Type 0} (b : Bool) (x y : Part A) (s : State) → IsCounted s x → IsCounted s y → IsCounted s (if b then x else y)
counted_if true x y s h g = h
counted_if false x y s h g = g

pub counted_emit : (p : PieceTree) (s : State) → IsCounted s (emit p s)
unfolding emit
counted_emit p s = record { made = refl; labels = refl }

pub counted_declared : (weight : ℕ) (s : State) → IsCounted s (declared weight s)
unfolding declared
counted_declared weight s = record { made = omega arith; labels = refl }

-- Pieces in a list of their own are counted there.
pub counted_inside : {A : Type 0} (part : State → Part A) (s : State) → ((s0 : State) → IsCounted s0 (part s0)) → IsCounted s (inside part s)
unfolding inside
counted_inside part s h = record { made = omega arith; labels = (h (record s { made = 0 })).labels }

pub counted_fresh : (k : CType) (s : State) → IsCounted s (fresh k s)
unfolding fresh
counted_fresh k s = record { made = omega arith; labels = refl }

pub counted_result : (k : Option CType) (s : State) → IsCounted s (fresh_result k s)
unfolding fresh_result
counted_result None s = counted_gives None s
counted_result (Some k) s = counted_then s (fresh k s) (λ own s1. gives (Some own) s1) (counted_fresh k s) (counted_gives _ _)

pub counted_array : (a : ArrayTree) (s : State) → IsCounted s (add_array a s)
unfolding add_array
counted_array a s = record { made = omega arith; labels = refl }

pub counted_slot : (s : State) → IsCounted s (new_slot s)
unfolding new_slot
counted_slot s = record { made = omega arith; labels = refl }

pub counted_note : (slot : Slot) (a : ArrayId) (s : State) → IsCounted s (note_array slot a s)
unfolding note_array
counted_note slot a s = record { made = omega arith; labels = refl }

pub counted_call : (s : State) → IsCounted s (next_call s)
unfolding next_call
counted_call s = record { made = omega arith; labels = refl }

pub counted_loop : (s : State) → IsCounted s (next_loop s)
unfolding next_loop
counted_loop s = record { made = omega arith; labels = refl }

pub counted_own : (k : CType) (x : PureTree) (s : State) → IsCounted s (set_own k x s)
unfolding set_own
counted_own k x s =
    let o = fresh k s in
    let e = emit (tree.set o.value x) o.state in
    counted_then s o (λ own s1. then_ (emit (tree.set own x) s1) (λ done s2. gives (tree.variable own k) s2)) (counted_fresh k s)
    (counted_then o.state e (λ done s2. gives (tree.variable o.value k) s2) (counted_emit _ _) (counted_gives _ _))

-- ---- saved values

mutual
  counted_saved : (n : ℕ) (calls : Bool) (x : PureTree) (s : State) → IsCounted s (saved n calls x s)
  counted_saved n calls (tree.number v k) s = counted_gives (tree.number v k) s
  counted_saved n calls (tree.variable name k) s =
      counted_if (calls && nat_lt name.0 n) (set_own k (tree.variable name k) s) (gives (tree.variable name k) s) s (counted_own k (tree.variable name k) s) (counted_gives (tree.variable name k) s)
  counted_saved n calls (tree.element array subscripts k at) s =
      let all = all_saved n calls subscripts [] s in
      counted_then s all (λ given s1. set_own k (tree.element array (row given) k at) s1) (counted_all n calls subscripts [] s) (counted_own k (tree.element array (row all.value) k at) all.state)
  counted_saved n calls (tree.unary op arg k at) s = counted_then s (saved n calls arg s) (λ x s1. gives (tree.unary op x k at) s1) (counted_saved n calls arg s) (counted_gives _ _)
  counted_saved n calls (tree.binary op left right k at) s =
      let x = saved n calls left s in
      let y = saved n calls right x.state in
      let whole = tree.binary op x.value right k at in
      let next = λ (y1 : PureTree) (s2 : State). gives (tree.binary op x.value y1 k at) s2 in
      counted_then s x (λ x1 s1. saved_binary op k at x1 right (saved n calls right) s1) (counted_saved n calls left s)
      (counted_if (is_logical op && has_element right) (set_own (kind whole) whole x.state) (then_ y next) x.state (counted_own (kind whole) whole x.state)
      (counted_then x.state y next (counted_saved n calls right x.state) (counted_gives _ _)))
  counted_saved n calls (tree.choice test left right k) s =
      let t = saved n calls test s in
      let x = saved n calls left t.state in
      let y = saved n calls right x.state in
      let whole = tree.choice t.value left right k in
      let next = λ (x1 : PureTree) (s2 : State). then_ (saved n calls right s2) (λ y1 s3. gives (tree.choice t.value x1 y1 k) s3) in
      counted_then s t (λ t1 s1. saved_choice k t1 left right (saved n calls left) (saved n calls right) s1) (counted_saved n calls test s)
      (counted_if (has_element left || has_element right) (set_own (kind whole) whole t.state) (then_ x next) t.state (counted_own (kind whole) whole t.state)
      (counted_then t.state x next (counted_saved n calls left t.state)
      (counted_then x.state y (λ y1 s3. gives (tree.choice t.value x.value y1 k) s3) (counted_saved n calls right x.state) (counted_gives _ _))))
  counted_saved n calls (tree.cast to arg) s = counted_then s (saved n calls arg s) (λ x s1. gives (tree.cast to x) s1) (counted_saved n calls arg s) (counted_gives _ _)

  counted_all : (n : ℕ) (calls : Bool) (xs : PureTrees) (before : List PureTree) (s : State) → IsCounted s (all_saved n calls xs before s)
  counted_all n calls tree.none before s = counted_gives before s
  counted_all n calls (tree.more first rest) before s =
      let x = saved n calls first s in
      counted_then s x (λ y s1. all_saved n calls rest (before ++ y ∷ []) s1) (counted_saved n calls first s) (counted_all n calls rest (before ++ x.value ∷ []) x.state)

pub counted_save : (n : ℕ) (x : PureTree) (later : Effects) (s : State) → IsCounted s (save n x later s)
counted_save n x later s = counted_if (spoils later) (saved n later.calls x s) (gives x s) s (counted_saved n later.calls x s) (counted_gives x s)
