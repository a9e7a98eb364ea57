-- Parts whose pieces fit, one behind another.
use Rattle.std.proofs.Common.{◌≡◌, ℕ, ◌+◌, Bool, true, false, ◌&&◌, ◌||◌, List, [], ◌∷◌, ◌++◌, length, refl, ap₂, arith, Option, Some, None, if◌then◌else◌}
use Rattle.std.specs.Prelude.{nat_lt}
use Rattle.std.proofs.lemmas.List.{length-append}
use Rattle.hls_base.specs.declared.place.Place.{Place}
use Rattle.hls_base.specs.declared.number.VarId.{VarId}
use Rattle.hls_base.specs.declared.number.ArrayId.{ArrayId}
use Rattle.hls_base.specs.declared.point.Point.{Point}
use Rattle.c_token.specs.declared.ctype.CType.{CType}
use Rattle.pieces.specs.Trees as tree
use Rattle.pieces.specs.Trees.{PureTree, PureTrees, PieceTree, piece_row, row}
use Rattle.pieces.specs.Kind.{kind}
use Rattle.pieces.specs.Program.{ArrayTree}
use Rattle.piece_making.specs.declared.effects.Effects.{Effects}
use Rattle.piece_making.specs.declared.work.Slot.{Slot}
use Rattle.piece_making.specs.Acting.{spoils}
use Rattle.piece_making.specs.Making.{State, Part, Inner, gives, then_, emit, inside, fresh, fresh_result, add_array, new_slot, note_array, next_call, next_loop, declared, set_own}
use Rattle.piece_making.specs.Saving.{has_element, is_logical, saved, all_saved, saved_if, save}
use Rattle.ir_layout.specs.WellFormed.{Inside, has_number}
use Rattle.pass_runs.specs.LowerRuns.LoweredTrees.Fitting.{PieceFits, PiecesFit, with_ends, ends_in}
use Rattle.expanded_pieces.proofs.Ends.{ends_more, fits_append}

-- what pieces may need round them: a loop or switch to leave, a loop to go on with, and the end of a call behind them
pub record Needs : Type 0 where
  pub breaks : Bool
  pub continues : Bool
  pub leaves : Bool
  pub call : ℕ

pub record Meets (n : Needs) (inside : Inside) : Type 0 where
  pub leave : n.breaks ≡ true → inside.leave ≡ true
  pub again : n.continues ≡ true → inside.again ≡ true
  pub lands : n.leaves ≡ true → has_number inside.lands n.call ≡ true

-- They fit wherever it is there.
abbrev pub FitIf : Needs → List PieceTree → Type 0
FitIf n xs = (inside : Inside) → Meets n inside → PiecesFit inside (piece_row xs)

-- something of the lengths of each array
abbrev pub EachArray : (List ℕ → Type 0) → List ArrayTree → Type 0
EachArray Q [] = Unit {0}
EachArray Q (a ∷ arrays) = Q a.lengths × EachArray Q arrays

each_behind : (Q : List ℕ → Type 0) (arrays : List ArrayTree) (a : ArrayTree) → EachArray Q arrays → Q a.lengths → EachArray Q (arrays ++ a ∷ [])
each_behind Q [] a h q = (q, tt)
each_behind Q (b ∷ arrays) a h q = (h.0, each_behind Q arrays a h.1 q)

pub meets_more : (n : Needs) (inside : Inside) (lands : List ℕ) → ((m : ℕ) → has_number inside.lands m ≡ true → has_number lands m ≡ true) → Meets n inside → Meets n (with_ends lands inside)
meets_more n inside lands h m = record { leave = m.leave; again = m.again; lands = λ e. h n.call (m.lands e) }

pub fit_behind : (n : Needs) (xs ys : List PieceTree) → FitIf n xs → FitIf n ys → FitIf n (xs ++ ys)
fit_behind n xs ys h g inside m =
    let lands = ends_in (piece_row ys) inside.lands in
    fits_append xs ys inside (h (with_ends lands inside) (meets_more n inside lands (λ i e. ends_more (piece_row ys) inside.lands i e) m)) (g inside m)

module _ (Q : List ℕ → Type 0) (n : Needs) where
  -- a part without labels, whose pieces fit and are counted, and in which arrays of such lengths are made
  pub record Fits {A : Type 0} (s : State) (part : Part A) : Type 0 where
    pub made : part.state.made ≡ s.made + length part.pieces
    pub labels : part.labels ≡ []
    pub fits : FitIf n part.pieces
    pub each : EachArray Q s.arrays → EachArray Q part.state.arrays

  abbrev pub FitsThere : {A : Type 0} → (State → Part A) → Type 0
  FitsThere part = (s : State) → Fits s (part s)

  pub gives_fits : {A : Type 0} (x : A) (s : State) → Fits s (gives x s)
  gives_fits x s = record { made = omega arith; labels = refl; fits = λ inside m. tt; each = λ h. h }

  pub then_at : {A B : Type 0} (s : State) (first : Part A) (next : A → State → Part B) → Fits s first → Fits first.state (next first.value first.state) → Fits s (then_ first next)
  unfolding then_
  then_at s first next h g =
      let second = next first.value first.state in
      record {
        made = let e = h.made in let f = g.made in let l = length-append first.pieces second.pieces in omega (arith, e, f, l);
        labels = ap₂ (λ a b. a ++ b) h.labels g.labels;
        fits = fit_behind n first.pieces second.pieces h.fits g.fits;
        each = λ a. g.each (h.each a);
      }

  pub then_fits : {A B : Type 0} (s : State) (first : Part A) (next : A → State → Part B) → Fits s first → ((x : A) → FitsThere (next x)) → Fits s (then_ first next)
  then_fits s first next h later = then_at s first next h (later first.value first.state)

  pub emit_fits : (p : PieceTree) → ((inside : Inside) → Meets n inside → PieceFits inside p) → FitsThere (emit p)
  unfolding emit
  emit_fits p h s = record { made = refl; labels = refl; fits = λ inside m. (h (with_ends inside.lands inside) (meets_more n inside inside.lands (λ i e. e) m), tt); each = λ a. a }

  pub set_fits : (name : VarId) (x : PureTree) → FitsThere (emit (tree.set name x))
  set_fits name x = emit_fits (tree.set name x) (λ inside m. tt)

  pub put_fits : (array : ArrayId) (subscripts : PureTrees) (x : PureTree) (at : Place) → FitsThere (emit (tree.put array subscripts x at))
  put_fits array subscripts x at = emit_fits (tree.put array subscripts x at) (λ inside m. tt)

  pub mark_fits : (point : Point) → FitsThere (emit (tree.mark point))
  mark_fits point = emit_fits (tree.mark point) (λ inside m. tt)

  -- ---- parts without pieces

  pub fresh_fits : (k : CType) → FitsThere (fresh k)
  unfolding fresh
  fresh_fits k s = record { made = omega arith; labels = refl; fits = λ inside m. tt; each = λ h. h }

  pub result_fits : (k : Option CType) → FitsThere (fresh_result k)
  unfolding fresh_result
  result_fits None s = gives_fits None s
  result_fits (Some k) s = then_fits s (fresh k s) (λ own s1. gives (Some own) s1) (fresh_fits k s) (λ own s1. gives_fits (Some own) s1)

  pub array_fits : (a : ArrayTree) → Q a.lengths → FitsThere (add_array a)
  unfolding add_array
  array_fits a q s = record { made = omega arith; labels = refl; fits = λ inside m. tt; each = λ h. each_behind Q s.arrays a h q }

  pub slot_fits : FitsThere new_slot
  unfolding new_slot
  slot_fits s = record { made = omega arith; labels = refl; fits = λ inside m. tt; each = λ h. h }

  pub note_fits : (slot : Slot) (a : ArrayId) → FitsThere (note_array slot a)
  unfolding note_array
  note_fits slot a s = record { made = omega arith; labels = refl; fits = λ inside m. tt; each = λ h. h }

  pub call_fits : FitsThere next_call
  unfolding next_call
  call_fits s = record { made = omega arith; labels = refl; fits = λ inside m. tt; each = λ h. h }

  pub loop_fits : FitsThere next_loop
  unfolding next_loop
  loop_fits s = record { made = omega arith; labels = refl; fits = λ inside m. tt; each = λ h. h }

  pub declared_fits : (weight : ℕ) → FitsThere (declared weight)
  unfolding declared
  declared_fits weight s = record { made = omega arith; labels = refl; fits = λ inside m. tt; each = λ h. h }

  -- ---- saved values

  pub own_fits : (k : CType) (x : PureTree) → FitsThere (set_own k x)
  unfolding set_own
  own_fits k x s = then_fits s _ _ (fresh_fits k s) (λ own s1. then_fits s1 _ _ (set_fits own x s1) (λ u s2. gives_fits (tree.variable own k) s2))

  pub if_fits : {A : Type 0} (b : Bool) (x y : Part A) (s : State) → Fits s x → Fits s y → Fits s (if b then x else y)
  if_fits true x y s h g = h
  if_fits false x y s h g = g

  saved_if_fits : (whole : Bool) (x : PureTree) (parts : State → Part PureTree) → FitsThere parts → FitsThere (saved_if whole x parts)
  saved_if_fits true x parts h s = own_fits (kind x) x s
  saved_if_fits false x parts h s = h s

  mutual
    saved_fits : (low : ℕ) (calls : Bool) (x : PureTree) → FitsThere (saved low calls x)
    saved_fits low calls (tree.number v k) s = gives_fits (tree.number v k) s
    saved_fits low calls (tree.variable name k) s = saved_if_fits (calls && nat_lt name.0 low) (tree.variable name k) (λ s1. gives (tree.variable name k) s1) (λ s1. gives_fits (tree.variable name k) s1) s
    saved_fits low calls (tree.element array subscripts k at) s = then_fits s _ _ (all_fits low calls subscripts [] s) (λ given s1. own_fits k (tree.element array (row given) k at) s1)
    saved_fits low calls (tree.unary op arg k at) s = then_fits s _ _ (saved_fits low calls arg s) (λ x s1. gives_fits (tree.unary op x k at) s1)
    saved_fits low calls (tree.binary op left right k at) s =
        then_fits s _ _ (saved_fits low calls left s)
        (λ x s1. saved_if_fits (is_logical op && has_element right) (tree.binary op x right k at) (λ s2. then_ (saved low calls right s2) (λ y s3. gives (tree.binary op x y k at) s3))
        (λ s2. then_fits s2 _ _ (saved_fits low calls right s2) (λ y s3. gives_fits (tree.binary op x y k at) s3)) s1)
    saved_fits low calls (tree.choice test left right k) s =
        then_fits s _ _ (saved_fits low calls test s)
        (λ t s1. saved_if_fits (has_element left || has_element right) (tree.choice t left right k) (λ s2. then_ (saved low calls left s2) (λ x s3. then_ (saved low calls right s3) (λ y s4. gives (tree.choice t x y k) s4)))
        (λ s2. then_fits s2 _ _ (saved_fits low calls left s2) (λ x s3. then_fits s3 _ _ (saved_fits low calls right s3) (λ y s4. gives_fits (tree.choice t x y k) s4))) s1)
    saved_fits low calls (tree.cast to arg) s = then_fits s _ _ (saved_fits low calls arg s) (λ x s1. gives_fits (tree.cast to x) s1)

    all_fits : (low : ℕ) (calls : Bool) (xs : PureTrees) (before : List PureTree) → FitsThere (all_saved low calls xs before)
    all_fits low calls tree.none before s = gives_fits before s
    all_fits low calls (tree.more first rest) before s = then_fits s _ _ (saved_fits low calls first s) (λ x s1. all_fits low calls rest (before ++ x ∷ []) s1)

  pub save_fits : (low : ℕ) (x : PureTree) (later : Effects) → FitsThere (save low x later)
  save_fits low x later s = if_fits (spoils later) (saved low later.calls x s) (gives x s) s (saved_fits low later.calls x s) (gives_fits x s)

-- pieces in a list of their own, which may need something else
pub record Within (Q : List ℕ → Type 0) (n m : Needs) {A : Type 0} (s : State) (part : Part (Inner A)) : Type 0 where
  pub outside : Fits Q m s part
  pub inner : FitIf n part.value.pieces

pub inside_fits : (Q : List ℕ → Type 0) (n m : Needs) {A : Type 0} (part : State → Part A) → FitsThere Q n part → (s : State) → Within Q n m s (inside part s)
unfolding inside
inside_fits Q n m part h s = let q = h (record s { made = 0 }) in record { outside = record { made = omega arith; labels = q.labels; fits = λ i e. tt; each = q.each }; inner = q.fits }
