-- Parts whose pieces keep something, one after another.
use Rattle.std.proofs.Common.{◌≡◌, ℕ, ◌≤◌, ℤ, Bool, true, false, ◌&&◌, ◌||◌, List, [], ◌∷◌, ◌++◌, length, refl, le_trans, if◌then◌else◌}
use Rattle.std.specs.Prelude.{nat_lt}
use Rattle.hls_base.specs.declared.number.VarId.{VarId}
use Rattle.hls_base.specs.declared.number.ArrayId.{ArrayId}
use Rattle.hls_base.specs.declared.place.Place.{Place}
use Rattle.c_token.specs.declared.ctype.CType.{CType}
use Rattle.pieces.specs.Trees as tree
use Rattle.pieces.specs.Trees.{PureTree, PureTrees, PieceTree, piece_row, row}
use Rattle.pieces.specs.Kind.{kind}
use Rattle.piece_making.specs.declared.effects.Effects.{Effects}
use Rattle.piece_making.specs.Acting.{spoils}
use Rattle.piece_making.specs.Making.{State, Part, Inner, gives, then_, emit, inside, fresh, set_own}
use Rattle.piece_making.specs.Saving.{has_element, is_logical, saved, all_saved, saved_if, saved_binary, saved_choice, save}
use Rattle.c_meaning.specs.PieceRuns.Values.{Store, with_variable, with_element}
use Rattle.c_meaning.specs.PieceRuns.Pieces.{Frame}
use Rattle.expand_runs.specs.Keeping.{Allows, AllAllow}
use Rattle.expand_runs.specs.Growing.{IsLater, LandFrom, LandsFrom}
use Rattle.expand_runs.proofs.Growing.{later_same, later_fresh, later_emit, later_own, later_both}

lands_one : (a b : ℕ) (x : PieceTree) → a ≤ b → LandFrom b x → LandFrom a x
lands_one a b (tree.set name value) le h = tt
lands_one a b (tree.put array subscripts value at) le h = tt
lands_one a b (tree.fork test first second end) le h = tt
lands_one a b (tree.repeat_ id post before test body step end) le h = tt
lands_one a b (tree.pick test labels body end) le h = tt
lands_one a b tree.break_ le h = tt
lands_one a b tree.next_ le h = tt
lands_one a b (tree.leave call) le h = tt
lands_one a b (tree.land call end) le h = le_trans le h
lands_one a b (tree.mark point) le h = tt

pub lands_less : (a b : ℕ) → a ≤ b → (xs : List PieceTree) → LandsFrom b xs → LandsFrom a xs
lands_less a b le [] h = tt
lands_less a b le (x ∷ xs) h = (lands_one a b x le h.0, lands_less a b le xs h.1)

pub lands_behind : (m : ℕ) (xs ys : List PieceTree) → LandsFrom m xs → LandsFrom m ys → LandsFrom m (xs ++ ys)
lands_behind m [] ys h g = g
lands_behind m (x ∷ xs) ys h g = (h.0, lands_behind m xs ys h.1 g)

module _ (f : Frame) (I : Store → Type 0) where
  -- any setting of this variable keeps it
  abbrev pub Sets : ℕ → Type 0
  Sets i = (t : Store) (x : ℤ) → I t → I (with_variable i x t)

  abbrev pub Puts : Type 0
  Puts = (t : Store) (a i : ℕ) (x : ℤ) → I t → I (with_element a i x t)

  abbrev pub AreAllowed : List PieceTree → Type 0
  AreAllowed xs = AllAllow f I (piece_row xs)

  pub allowed_behind : (xs ys : List PieceTree) → AreAllowed xs → AreAllowed ys → AreAllowed (xs ++ ys)
  allowed_behind [] ys h g = g
  allowed_behind (x ∷ xs) ys h g = (h.0, allowed_behind xs ys h.1 g)

  -- a part that grows the state, and whose pieces keep it
  pub record IsFine {A : Type 0} (s : State) (part : Part A) : Type 0 where
    pub later : IsLater s part.state
    pub allowed : AreAllowed part.pieces
    pub lands : LandsFrom s.calls part.pieces

  pub fine_gives : {A : Type 0} (x : A) (s : State) → IsFine s (gives x s)
  fine_gives x s = record { later = later_same s; allowed = tt; lands = tt }

  pub fine_then : {A B : Type 0} (s : State) (first : Part A) (next : A → State → Part B) → IsFine s first → IsFine first.state (next first.value first.state) → IsFine s (then_ first next)
  unfolding then_
  fine_then s first next h g = record {
    later = later_both s first.state (next first.value first.state).state h.later g.later;
    allowed = allowed_behind first.pieces (next first.value first.state).pieces h.allowed g.allowed;
    lands = lands_behind s.calls first.pieces (next first.value first.state).pieces h.lands (lands_less s.calls first.state.calls h.later.calls (next first.value first.state).pieces g.lands);
  }

  pub fine_emit : (p : PieceTree) (s : State) → Allows f I p → LandFrom s.calls p → IsFine s (emit p s)
  unfolding emit
  fine_emit p s h l = record { later = later_emit p s; allowed = (h, tt); lands = (l, tt) }

  pub fine_set : (name : VarId) (v : PureTree) (s : State) → Sets name.0 → IsFine s (emit (tree.set name v) s)
  fine_set name v s h = fine_emit (tree.set name v) s (λ t x i. h t _ i) tt

  pub fine_put : (array : ArrayId) (subscripts : PureTrees) (v : PureTree) (at : Place) (s : State) → Puts → IsFine s (emit (tree.put array subscripts v at) s)
  fine_put array subscripts v at s h = fine_emit (tree.put array subscripts v at) s (λ t i x j. h t array.0 i _ j) tt

  pub fine_fresh : (k : CType) (s : State) → IsFine s (fresh k s)
  unfolding fresh
  fine_fresh k s = record { later = later_fresh k s; allowed = tt; lands = tt }

  -- pieces in a list of their own
  pub record IsFineWithin {A : Type 0} (s : State) (part : Part (Inner A)) : Type 0 where
    pub later : IsLater s part.state
    pub allowed : AreAllowed part.pieces
    pub inner : AreAllowed part.value.pieces
    pub lands : LandsFrom s.calls part.pieces

  pub fine_inside : {A : Type 0} (part : State → Part A) (s : State) → ((s1 : State) → s1.variables ≡ s.variables → IsFine s1 (part s1)) → IsFineWithin s (inside part s)
  unfolding inside
  fine_inside part s h =
      let q = h (record s { made = 0 }) refl in
      record {
        later = record { variables = q.later.variables; more = q.later.more; arrays = q.later.arrays; more_arrays = q.later.more_arrays; slots = q.later.slots; more_slots = q.later.more_slots; calls = q.later.calls };
        allowed = tt;
        lands = tt;
        inner = q.allowed;
      }

  pub within_fine : {A : Type 0} (s : State) (part : Part (Inner A)) → IsFineWithin s part → IsFine s part
  within_fine s part h = record { later = h.later; allowed = h.allowed; lands = h.lands }

  module _ (low : ℕ) (own : (i : ℕ) → low ≤ i → Sets i) where
    pub fine_own : (k : CType) (x : PureTree) (s : State) → low ≤ length s.variables → IsFine s (set_own k x s)
    unfolding then_ emit fresh set_own
    fine_own k x s le = record { later = later_own k x s; allowed = ((λ t y i. own (length s.variables) le t _ i), tt); lands = (tt, tt) }

    fine_if : (whole : Bool) (x : PureTree) (parts : State → Part PureTree) (s : State) → low ≤ length s.variables → IsFine s (parts s) → IsFine s (saved_if whole x parts s)
    fine_if true x parts s le h = fine_own (kind x) x s le
    fine_if false x parts s le h = h

    further : {A : Type 0} (s : State) (part : Part A) → IsFine s part → low ≤ length s.variables → low ≤ length part.state.variables
    further s part h le = le_trans le h.later.more

    mutual
      pub fine_saved : (n : ℕ) (calls : Bool) (x : PureTree) (s : State) → low ≤ length s.variables → IsFine s (saved n calls x s)
      fine_saved n calls (tree.number v k) s le = fine_gives (tree.number v k) s
      fine_saved n calls (tree.variable name k) s le = fine_if (calls && nat_lt name.0 n) (tree.variable name k) (λ s1. gives (tree.variable name k) s1) s le (fine_gives (tree.variable name k) s)
      fine_saved n calls (tree.element array subscripts k at) s le =
          let all = all_saved n calls subscripts [] s in
          let h = fine_all n calls subscripts [] s le in
          fine_then s all (λ given s1. set_own k (tree.element array (row given) k at) s1) h (fine_own k (tree.element array (row all.value) k at) all.state (further s all h le))
      fine_saved n calls (tree.unary op arg k at) s le = fine_then s (saved n calls arg s) (λ x s1. gives (tree.unary op x k at) s1) (fine_saved n calls arg s le) (fine_gives _ _)
      fine_saved n calls (tree.binary op left right k at) s le =
          let x = saved n calls left s in
          let h = fine_saved n calls left s le in
          let le1 = further s x h le in
          fine_then s x (λ x1 s1. saved_binary op k at x1 right (saved n calls right) s1) h
          (fine_if (is_logical op && has_element right) (tree.binary op x.value right k at)
          (λ s1. then_ (saved n calls right s1) (λ y s2. gives (tree.binary op x.value y k at) s2)) x.state le1
          (fine_then x.state (saved n calls right x.state) (λ y s2. gives (tree.binary op x.value y k at) s2) (fine_saved n calls right x.state le1) (fine_gives _ _)))
      fine_saved n calls (tree.choice test left right k) s le =
          let t = saved n calls test s in
          let x = saved n calls left t.state in
          let y = saved n calls right x.state in
          let h = fine_saved n calls test s le in
          let le1 = further s t h le in
          let g = fine_saved n calls left t.state le1 in
          fine_then s t (λ t1 s1. saved_choice k t1 left right (saved n calls left) (saved n calls right) s1) h
          (fine_if (has_element left || has_element right) (tree.choice t.value left right k)
          (λ s1. then_ (saved n calls left s1) (λ x1 s2. then_ (saved n calls right s2) (λ y1 s3. gives (tree.choice t.value x1 y1 k) s3))) t.state le1
          (fine_then t.state x (λ x1 s2. then_ (saved n calls right s2) (λ y1 s3. gives (tree.choice t.value x1 y1 k) s3)) g
          (fine_then x.state y (λ y1 s3. gives (tree.choice t.value x.value y1 k) s3) (fine_saved n calls right x.state (further t.state x g le1)) (fine_gives _ _))))
      fine_saved n calls (tree.cast to arg) s le = fine_then s (saved n calls arg s) (λ x s1. gives (tree.cast to x) s1) (fine_saved n calls arg s le) (fine_gives _ _)

      fine_all : (n : ℕ) (calls : Bool) (xs : PureTrees) (before : List PureTree) (s : State) → low ≤ length s.variables → IsFine s (all_saved n calls xs before s)
      fine_all n calls tree.none before s le = fine_gives before s
      fine_all n calls (tree.more first rest) before s le =
          let x = saved n calls first s in
          let h = fine_saved n calls first s le in
          fine_then s x (λ y s1. all_saved n calls rest (before ++ y ∷ []) s1) h (fine_all n calls rest (before ++ x.value ∷ []) x.state (further s x h le))

    pub fine_save : (n : ℕ) (x : PureTree) (later : Effects) (s : State) → low ≤ length s.variables → IsFine s (save n x later s)
    fine_save n x later s le = save_if (spoils later)
      where
        save_if : (b : Bool) → IsFine s (if b then saved n later.calls x s else gives x s)
        save_if true = fine_saved n later.calls x s le
        save_if false = fine_gives x s
