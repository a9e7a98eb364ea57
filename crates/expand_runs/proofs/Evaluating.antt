-- Expressions and their pieces, part by part.
use Rattle.std.proofs.Common.{◌≡◌, ◌≢◌, ℕ, ◌≤◌, ◌∙◌, sym, refl, ap, subst, ℤ, false, true≢false, List, ◌++◌, Option, Some, None, slice_get}
use Rattle.hls_base.specs.declared.place.Place.{Place}
use Rattle.hls_base.specs.declared.refusal.UbRule.{UbRule}
use Rattle.hls_base.specs.declared.refusal.UbRule.TheVariants as ub
use Rattle.c_value.specs.Operators as o
use Rattle.c_value.specs.Operators.{Computed}
use Rattle.c_meaning.specs.Store.{element_in, element_place}
use Rattle.pieces.specs.Trees.{PureTree, PieceTree}
use Rattle.piece_making.specs.Saving.{has_element}
use Rattle.hls_base.specs.Steps.{Ran, goes, then_}
use Rattle.hls_base.specs.Valued.{is}
use Rattle.hls_base.specs.Same.{Same}
use Rattle.c_meaning.specs.CoreRuns.Cells.{Spot, Cells}
use Rattle.c_meaning.specs.CoreRuns.Expressions as ce
use Rattle.c_meaning.specs.PieceRuns.Values.{Store, computed, value, with_variable, with_element}
use Rattle.c_meaning.specs.PieceRuns.Pieces.{Frame, Way, on}
use Rattle.expand_runs.specs.Reading.{AllRead}
use Rattle.expand_runs.proofs.Sames.{goes_same, fails_any, same_as}
use Rattle.expand_runs.proofs.Rows.{run_of, going_on, row_behind, rows_same}
use Rattle.expand_runs.proofs.Going.{Goes}
use Rattle.expand_runs.proofs.Reading.{value_agrees, read_any}
use Rattle.expand_runs.proofs.Typing.{number_other}
use Rattle.expand_runs.proofs.Fine.{Sets, Puts}

-- ---- parts of pieces

-- the second part of a run behind the first, where control goes on behind the pieces of the first
pub on_same : {S A C : Type 0} (f : Frame) (k : ℕ) (R : A → S → Way → Store → Type 0) (Q : C → S → Way → Store → Type 0) (xs ys : List PieceTree) (q : Ran S A) (g : A → S → ℕ → Ran S C) (t : Store) (n : ℕ)
    → Same false k R q (run_of f xs t n) → ((v : A) (s : S) (w : Way) (t1 : Store) → R v s w t1 → w ≡ on) → ((v : A) (s : S) (w : Way) (t1 : Store) (n1 : ℕ) → n1 ≤ k → R v s w t1 → Same false k Q (g v s n1) (run_of f ys t1 n1))
    → Same false k Q (then_ q g) (run_of f (xs ++ ys) t n)
on_same f k R Q xs ys q g t n h ons next =
    rows_same f k R Q xs ys q g t n h (λ v s w t1 n1 le r. subst (λ z. Same false k Q (g v s n1) (going_on f ys z t1 n1)) (sym (ons v s w t1 r)) (next v s w t1 n1 le r))

-- pieces that pass no point, before the others
pub goes_first : {S A : Type 0} (f : Frame) (k : ℕ) (Q : A → S → Way → Store → Type 0) (xs ys : List PieceTree) (q : Ran S A) (t t1 : Store) (n : ℕ) → Goes f xs t t1 → Same false k Q q (run_of f ys t1 n) → Same false k Q q (run_of f (xs ++ ys) t n)
goes_first f k Q xs ys q t t1 n h g =
    same_as k Q q (run_of f ys t1 n) (run_of f (xs ++ ys) t n) (row_behind f xs ys t n ∙ ap (λ (r : Ran Store Way). then_ r (λ w t2 n2. going_on f ys w t2 n2)) (h n)) g

-- ---- operators

-- An operator that is defined gives its value in both.
pub core_computed : (k : ℕ) (Q : ℤ → Cells → Way → Store → Type 0) (x : Computed) (at : Place) (s : Cells) (t : Store) (n : ℕ) → n ≤ k → ((v : ℤ) → x ≡ o.defined v → computed x at ≡ is v → Q v s on t)
    → Same false k Q (ce.computed x at s n) (goes on t n)
core_computed k Q (o.defined v) at s t n le h = goes_same k Q v s on t n le (h v refl refl)
core_computed k Q (o.undefined rule) at s t n le h = fails_any {S = Cells} {A = ℤ} k Q rule at (goes on t n)

-- ---- objects that are read

pub found_same : (k : ℕ) (Q : ℤ → Cells → Way → Store → Type 0) (rule : UbRule) (v : Option ℤ) (at : Place) (s : Cells) (t : Store) (n : ℕ) → n ≤ k → ((w : ℤ) → v ≡ Some w → Q w s on t)
    → Same false k Q (ce.read_found rule v at s n) (goes on t n)
found_same k Q rule (Some v) at s t n le h = goes_same k Q v s on t n le (h v refl)
found_same k Q rule None at s t n le h = fails_any {S = Cells} {A = ℤ} k Q rule at (goes on t n)

pub place_same : (k : ℕ) (Q : ℤ → Cells → Way → Store → Type 0) (rule : UbRule) (i : Option ℕ) (x : Spot) (at : Place) (s : Cells) (t : Store) (n : ℕ) → n ≤ k
    → ((j : ℕ) (w : ℤ) → i ≡ Some j → element_in (slice_get (s x).elements j) ≡ Some w → Q w s on t) → Same false k Q (ce.read_place rule i x at s n) (goes on t n)
place_same k Q rule None x at s t n le h = fails_any {S = Cells} {A = ℤ} k Q ub.Index at (goes on t n)
place_same k Q rule (Some j) x at s t n le h = found_same k Q rule (element_in (slice_get (s x).elements j)) at s t n le (λ w e. h j w refl e)

-- What is read of an object, where it is there.
pub read_same : (k : ℕ) (Q : ℤ → Cells → Way → Store → Type 0) (rule : UbRule) (x : Spot) (subscripts : List ℤ) (lengths : List ℕ) (at : Place) (s : Cells) (t : Store) (n : ℕ) → n ≤ k → (s x).lengths ≡ lengths
    → ((j : ℕ) (w : ℤ) → element_place lengths subscripts ≡ Some j → element_in (slice_get (s x).elements j) ≡ Some w → Q w s on t)
    → Same false k Q (ce.read rule x subscripts at s n) (goes on t n)
read_same k Q rule x subscripts lengths at s t n le e h =
    place_same k Q rule (element_place (s x).lengths subscripts) x at s t n le (λ j w is_ there. h j w (sym (ap (λ l. element_place l subscripts) e) ∙ is_) there)

-- ---- what other pieces leave

-- A variable that a value does not come of may be set.
pub sets_value : (f : Frame) (x : PureTree) (v : ℤ) (i : ℕ) → AllRead (λ j. i ≢ j) x → Sets f (λ t. value f.arrays x t ≡ is v) i
sets_value f x v i reads t y e = value_agrees f.arrays (λ j. i ≢ j) t (with_variable i y t) (λ j ne. number_other t.variables i j y ne) x reads (λ z a b. refl) ∙ e

-- Elements may be written where the value comes of none.
pub puts_value : (f : Frame) (x : PureTree) (v : ℤ) → has_element x ≡ false → Puts f (λ t. value f.arrays x t ≡ is v)
puts_value f x v plain t a i y e = value_agrees f.arrays (λ j. Unit {0}) t (with_element a i y t) (λ j u. refl) x (read_any (λ j. Unit {0}) (λ j. tt) x) (λ z. absurd (true≢false (sym z ∙ plain))) ∙ e

-- ---- what comes behind a read or an operator

found_then : {C : Type 0} (k : ℕ) (Q : C → Cells → Way → Store → Type 0) (rule : UbRule) (v : Option ℤ) (at : Place) (s : Cells) (n : ℕ) (g : ℤ → Cells → ℕ → Ran Cells C) (r : Ran Store Way) → ((w : ℤ) → v ≡ Some w → Same false k Q (g w s n) r)
    → Same false k Q (then_ (ce.read_found rule v at s n) g) r
found_then k Q rule (Some v) at s n g r h = h v refl
found_then {C} k Q rule None at s n g r h = fails_any {S = Cells} {A = C} k Q rule at r

place_then : {C : Type 0} (k : ℕ) (Q : C → Cells → Way → Store → Type 0) (rule : UbRule) (i : Option ℕ) (x : Spot) (at : Place) (s : Cells) (n : ℕ) (g : ℤ → Cells → ℕ → Ran Cells C) (r : Ran Store Way)
    → ((j : ℕ) (w : ℤ) → i ≡ Some j → element_in (slice_get (s x).elements j) ≡ Some w → Same false k Q (g w s n) r) → Same false k Q (then_ (ce.read_place rule i x at s n) g) r
place_then {C} k Q rule None x at s n g r h = fails_any {S = Cells} {A = C} k Q ub.Index at r
place_then k Q rule (Some j) x at s n g r h = found_then k Q rule (element_in (slice_get (s x).elements j)) at s n g r (λ w e. h j w refl e)

pub read_then : {C : Type 0} (k : ℕ) (Q : C → Cells → Way → Store → Type 0) (rule : UbRule) (x : Spot) (subscripts : List ℤ) (lengths : List ℕ) (at : Place) (s : Cells) (n : ℕ) (g : ℤ → Cells → ℕ → Ran Cells C) (r : Ran Store Way) → (s x).lengths ≡ lengths
    → ((j : ℕ) (w : ℤ) → element_place lengths subscripts ≡ Some j → element_in (slice_get (s x).elements j) ≡ Some w → Same false k Q (g w s n) r) → Same false k Q (then_ (ce.read rule x subscripts at s n) g) r
read_then k Q rule x subscripts lengths at s n g r e h =
    place_then k Q rule (element_place (s x).lengths subscripts) x at s n g r (λ j w is_ there. h j w (sym (ap (λ l. element_place l subscripts) e) ∙ is_) there)

pub computed_then : {C : Type 0} (k : ℕ) (Q : C → Cells → Way → Store → Type 0) (x : Computed) (at : Place) (s : Cells) (n : ℕ) (g : ℤ → Cells → ℕ → Ran Cells C) (r : Ran Store Way) → ((v : ℤ) → x ≡ o.defined v → Same false k Q (g v s n) r)
    → Same false k Q (then_ (ce.computed x at s n) g) r
computed_then k Q (o.defined v) at s n g r h = h v refl
computed_then {C} k Q (o.undefined rule) at s n g r h = fails_any {S = Cells} {A = C} k Q rule at r
