-- States grow from part to part.
use Rattle.std.proofs.Common.{◌≡◌, zero, suc, refl, List, [], ◌∷◌, ◌++◌, length, slice_get, Some, le_refl, le_trans, arith, Option, ℕ, ◌≢◌, slice_set, ap, ◌<◌}
use Rattle.std.proofs.lemmas.Option.{none-some}
use Rattle.std.proofs.lemmas.List.{length-append}
use Rattle.c_token.specs.declared.ctype.CType.{CType}
use Rattle.pieces.specs.Trees as tree
use Rattle.pieces.specs.Trees.{PureTree, PieceTree}
use Rattle.piece_making.specs.Making.{State, Part, then_, emit, fresh, set_own}
use Rattle.c_meaning.specs.PieceRuns.Pieces.{Frame}
use Rattle.expand_runs.specs.Growing.{Begins, IsLater, IsWithin, IsGrown}
use Rattle.hls_base.specs.declared.number.ArrayId.{ArrayId}

pub begins_more : {A : Type 0} (xs ys : List A) → Begins xs (xs ++ ys)
begins_more [] ys i x e = absurd (none-some x e)
begins_more (z ∷ xs) ys zero x e = e
begins_more (z ∷ xs) ys (suc i) x e = begins_more xs ys i x e

pub last_one : {A : Type 0} (xs : List A) (x : A) → slice_get (xs ++ x ∷ []) (length xs) ≡ Some x
last_one [] x = refl
last_one (y ∷ xs) x = last_one xs x

pub later_same : (s : State) → IsLater s s
later_same s = record { variables = λ i x e. e; more = le_refl (length s.variables); arrays = λ i x e. e; more_arrays = le_refl (length s.arrays); slots = λ i x e. e; more_slots = le_refl (length s.slots); calls = le_refl s.calls }

pub later_both : (s s1 s2 : State) → IsLater s s1 → IsLater s1 s2 → IsLater s s2
later_both s s1 s2 h g = record {
  variables = λ i x e. g.variables i x (h.variables i x e);
  more = le_trans h.more g.more;
  arrays = λ i x e. g.arrays i x (h.arrays i x e);
  more_arrays = le_trans h.more_arrays g.more_arrays;
  slots = λ i x e. g.slots i x (h.slots i x e);
  more_slots = le_trans h.more_slots g.more_slots;
  calls = le_trans h.calls g.calls;
}

pub within_before : (s s1 : State) (f : Frame) → IsLater s s1 → IsWithin s1 f → IsWithin s f
within_before s s1 f h g = record { variables = λ i x e. g.variables i x (h.variables i x e); arrays = λ i x e. g.arrays i x (h.arrays i x e) }

pub later_then : {A B : Type 0} (s : State) (first : Part A) (next : A → State → Part B) → IsLater s first.state → IsLater first.state (next first.value first.state).state → IsLater s (then_ first next).state
unfolding then_
later_then s first next h g = later_both s first.state (next first.value first.state).state h g

pub later_fresh : (k : CType) (s : State) → IsLater s (fresh k s).state
unfolding fresh
later_fresh k s = record {
  variables = begins_more s.variables (k ∷ []);
  more = let e = length-append s.variables (k ∷ []) in omega (arith, e);
  arrays = λ i x e. e;
  more_arrays = le_refl (length s.arrays);
  slots = λ i x e. e;
  more_slots = le_refl (length s.slots);
  calls = le_refl s.calls;
}

pub later_emit : (p : PieceTree) (s : State) → IsLater s (emit p s).state
unfolding emit
later_emit p s = record { variables = λ i x e. e; more = le_refl (length s.variables); arrays = λ i x e. e; more_arrays = le_refl (length s.arrays); slots = λ i x e. e; more_slots = le_refl (length s.slots); calls = le_refl s.calls }

pub later_own : (k : CType) (x : PureTree) (s : State) → IsLater s (set_own k x s).state
unfolding then_ emit fresh set_own
later_own k x s = later_both s (fresh k s).state (emit (tree.set (fresh k s).value x) (fresh k s).state).state (later_fresh k s) (later_emit (tree.set (fresh k s).value x) (fresh k s).state)

-- ---- slots of which some are kept

pub grown_later : (P : ℕ → Type 0) (s s' : State) → IsLater s s' → IsGrown P s s'
grown_later P s s' h = record { variables = h.variables; more = h.more; arrays = h.arrays; more_arrays = h.more_arrays; slots = λ i x p e. h.slots i x e; more_slots = h.more_slots; calls = h.calls }

pub grown_both : (P : ℕ → Type 0) (s s1 s2 : State) → IsGrown P s s1 → IsGrown P s1 s2 → IsGrown P s s2
grown_both P s s1 s2 h g = record {
  variables = λ i x e. g.variables i x (h.variables i x e);
  more = le_trans h.more g.more;
  arrays = λ i x e. g.arrays i x (h.arrays i x e);
  more_arrays = le_trans h.more_arrays g.more_arrays;
  slots = λ i x p e. g.slots i x p (h.slots i x p e);
  more_slots = le_trans h.more_slots g.more_slots;
  calls = le_trans h.calls g.calls;
}

pub slots_there : (xs : List (Option ArrayId)) (i j : ℕ) (y : Option ArrayId) → i ≢ j → slice_get (slice_set xs i y) j ≡ slice_get xs j
slots_there [] i j y ne = refl
slots_there (x ∷ xs) zero zero y ne = absurd (ne refl)
slots_there (x ∷ xs) zero (suc j) y ne = refl
slots_there (x ∷ xs) (suc i) zero y ne = refl
slots_there (x ∷ xs) (suc i) (suc j) y ne = slots_there xs i j y (λ e. ne (ap suc e))

pub within_grown : (P : ℕ → Type 0) (s s1 : State) (f : Frame) → IsGrown P s s1 → IsWithin s1 f → IsWithin s f
within_grown P s s1 f h g = record { variables = λ i x e. g.variables i x (h.variables i x e); arrays = λ i x e. g.arrays i x (h.arrays i x e) }

pub slots_length : (xs : List (Option ArrayId)) (i : ℕ) (y : Option ArrayId) → length (slice_set xs i y) ≡ length xs
slots_length [] i y = refl
slots_length (x ∷ xs) zero y = refl
slots_length (x ∷ xs) (suc i) y = ap suc (slots_length xs i y)

pub slots_here : (xs : List (Option ArrayId)) (i : ℕ) (y : Option ArrayId) → i < length xs → slice_get (slice_set xs i y) i ≡ Some y
slots_here [] i y lt = absurd (omega (arith, lt))
slots_here (x ∷ xs) zero y lt = refl
slots_here (x ∷ xs) (suc i) y lt = slots_here xs i y (omega (arith, lt))
