-- Parts whose pieces are well, one behind another.
use Rattle.std.proofs.Common.{◌≡◌, ◌<◌, ◌≤◌, ℕ, ◌+◌, Bool, true, false, ◌&&◌, ◌||◌, List, [], ◌∷◌, ◌++◌, length, refl, ap, ap₂, sym, subst, arith, le_refl, Option, Some, None, if◌then◌else◌}
use Rattle.std.specs.Prelude.{nat_lt}
use Rattle.std.proofs.lemmas.List.{length-append}
use Rattle.hls_base.specs.declared.place.Place.{Place}
use Rattle.hls_base.specs.declared.point.Point.{Point}
use Rattle.hls_base.specs.declared.number.VarId.{VarId}
use Rattle.hls_base.specs.declared.number.ArrayId.{ArrayId}
use Rattle.c_token.specs.declared.ctype.CType.{CType}
use Rattle.pieces.specs.declared.resolved.expression.Cell.{Cell}
use Rattle.pieces.specs.Trees as tree
use Rattle.pieces.specs.Trees.{PureTree, PureTrees, PieceTree, PieceTrees, piece_row, row}
use Rattle.pieces.specs.Kind.{kind}
use Rattle.pieces.specs.Program.{ArrayTree}
use Rattle.piece_making.specs.declared.effects.Effects.{Effects}
use Rattle.piece_making.specs.declared.work.Slot.{Slot}
use Rattle.piece_making.specs.declared.frame.Home.TheVariants as home
use Rattle.piece_making.specs.Acting.{spoils}
use Rattle.piece_making.specs.Calls.{Call, home_of}
use Rattle.piece_making.specs.Making.{State, Part, Inner, gives, then_, emit, inside, fresh, fresh_result, add_array, new_slot, note_array, next_call, next_loop, declared, set_own}
use Rattle.piece_making.specs.Saving.{has_element, is_logical, saved, all_saved, saved_if, save}
use Rattle.expanded_pieces.specs.BegunPieces.Reads.{ReadsNone, EachReadsNone}
use Rattle.expanded_pieces.proofs.BegunPieces.Hiding.{AllRead, row_reads, all_read_more, each_below, reads_below}
use Rattle.expanded_pieces.proofs.BegunPieces.Ends.{EachEnd, AllEnds, OwnEnd, OwnEnds, IsNot, all_ends, ends_append, own_ends, own_all}
use Rattle.expanded_pieces.proofs.BegunPieces.Well.{Good, AllGood, good_append}

-- the numbers of calls that are begun meanwhile
abbrev pub Between : ℕ → ℕ → ℕ → Type 0
Between low high j = (low ≤ j) × (j < high)

-- What stands for the objects of a call is made already, and nothing that is hidden stands for one or is still to be made.
pub record Ready (hidden : ℕ → Bool) (c : Call) (s : State) : Type 0 where
  pub new : (i : ℕ) → length s.variables ≤ i → hidden i ≡ false
  pub homes : (cell : Cell) (own : VarId) → home_of c cell ≡ Some (home.Variable own) → (own.0 < length s.variables) × (hidden own.0 ≡ false)

pub ready_more : (hidden : ℕ → Bool) (c : Call) (s s1 : State) → length s.variables ≤ length s1.variables → Ready hidden c s → Ready hidden c s1
ready_more hidden c s s1 le r =
    record { new = λ i e. r.new i (omega (arith, le, e)); homes = λ cell own e. (let q = (r.homes cell own e).0 in omega (arith, le, q), (r.homes cell own e).1) }

-- nothing is said of a value
abbrev pub any : {A : Type 0} → A → Type 0
any x = Unit {0}

pub own_any : (ys : List PieceTree) → OwnEnds (λ j. Unit {0}) ys
own_any [] = tt
own_any (y ∷ ys) = (each_any y, own_any ys) where
  each_any : (x : PieceTree) → OwnEnd (λ j. Unit {0}) x
  each_any (tree.land call end) = tt
  each_any x = tt

module _ (kept : Point → Bool) (hidden : ℕ → Bool) where
  -- A part without labels, whose pieces are well and counted. The calls that end in it have numbers from `low` on.
  pub record Begun (low : ℕ) {A : Type 0} (V : A → Type 0) (s : State) (part : Part A) : Type 0 where
    pub labels : part.labels ≡ []
    pub made : part.state.made ≡ s.made + length part.pieces
    pub more : length s.variables ≤ length part.state.variables
    pub later : s.calls ≤ part.state.calls
    pub good : AllGood kept hidden part.pieces
    pub ends : AllEnds (Between low part.state.calls) (piece_row part.pieces)
    pub value : V part.value

  pub then_by : {A B : Type 0} {V : A → Type 0} {W : B → Type 0} (low mid : ℕ) (s : State) (first : Part A) (next : A → State → Part B) → low ≤ mid → Begun low V s first → Begun mid W first.state (next first.value first.state)
      → OwnEnds (λ j. AllEnds (IsNot j) (piece_row first.pieces)) (next first.value first.state).pieces → Begun low W s (then_ first next)
  unfolding then_
  then_by low mid s first next le h g c =
      let second = next first.value first.state in
      record {
        labels = ap₂ (λ a b. a ++ b) h.labels g.labels;
        made = let e = h.made in let f = g.made in let l = length-append first.pieces second.pieces in omega (arith, e, f, l);
        more = let e = h.more in let f = g.more in omega (arith, e, f);
        later = let e = h.later in let f = g.later in omega (arith, e, f);
        good = good_append kept hidden first.pieces second.pieces h.good g.good c;
        ends = let later = g.later in
            ends_append (Between low second.state.calls) first.pieces second.pieces
            (all_ends (Between low first.state.calls) (Between low second.state.calls) (λ j b. (b.0, let q = b.1 in omega (arith, q, later))) (piece_row first.pieces) h.ends)
            (all_ends (Between mid second.state.calls) (Between low second.state.calls) (λ j b. (let q = b.0 in omega (arith, q, le), b.1)) (piece_row second.pieces) g.ends);
        value = g.value;
      }

  -- behind a part, where the calls that end in the next one are begun later
  pub then_at : {A B : Type 0} {V : A → Type 0} {W : B → Type 0} (low : ℕ) (s : State) (first : Part A) (next : A → State → Part B) → low ≤ s.calls → Begun low V s first → Begun first.state.calls W first.state (next first.value first.state) → Begun low W s (then_ first next)
  then_at low s first next le h g =
      let second = next first.value first.state in
      let since = h.later in
      then_by low first.state.calls s first next (omega (arith, le, since)) h g
      (own_all (Between first.state.calls second.state.calls) (λ j. AllEnds (IsNot j) (piece_row first.pieces))
      (λ j b. all_ends (Between low first.state.calls) (IsNot j) (λ i q e. let x = q.1 in let y = b.0 in omega (arith, x, y, e)) (piece_row first.pieces) h.ends) second.pieces
      (own_ends (Between first.state.calls second.state.calls) second.pieces g.ends))

  -- behind a part that makes no pieces
  pub then_quiet : {A B : Type 0} {V : A → Type 0} {W : B → Type 0} (low : ℕ) (s : State) (first : Part A) (next : A → State → Part B) → first.pieces ≡ [] → Begun low V s first → Begun low W first.state (next first.value first.state) → Begun low W s (then_ first next)
  then_quiet low s first next none h g =
      let second = next first.value first.state in
      then_by low low s first next (le_refl low) h g (subst (λ xs. OwnEnds (λ j. AllEnds (IsNot j) (piece_row xs)) second.pieces) (sym none) (own_any second.pieces))

  pub begun_lower : {A : Type 0} {V : A → Type 0} (low1 low : ℕ) (s : State) (part : Part A) → low1 ≤ low → Begun low V s part → Begun low1 V s part
  begun_lower low1 low s part le h = record {
    labels = h.labels;
    made = h.made;
    more = h.more;
    later = h.later;
    good = h.good;
    ends = all_ends (Between low part.state.calls) (Between low1 part.state.calls) (λ j b. (let q = b.0 in omega (arith, q, le), b.1)) (piece_row part.pieces) h.ends;
    value = h.value;
  }

  pub gives_begun : {A : Type 0} {V : A → Type 0} (low : ℕ) (x : A) → V x → (s : State) → Begun low V s (gives x s)
  gives_begun low x v s = record { labels = refl; made = omega arith; more = le_refl (length s.variables); later = le_refl s.calls; good = tt; ends = tt; value = v }

  pub emit_begun : (low : ℕ) (p : PieceTree) (s : State) → Good kept hidden p → EachEnd (Between low s.calls) p → Begun low any s (emit p s)
  unfolding emit
  emit_begun low p s g e = record { labels = refl; made = refl; more = le_refl (length s.variables); later = le_refl s.calls; good = (g, tt, tt); ends = (e, tt); value = tt }

  pub set_begun : (low : ℕ) (name : VarId) (x : PureTree) (s : State) → ReadsNone hidden x → Begun low any s (emit (tree.set name x) s)
  set_begun low name x s r = emit_begun low (tree.set name x) s (λ lands h a apart b. reads_below h hidden b x r) tt

  pub put_begun : (low : ℕ) (array : ArrayId) (subscripts : PureTrees) (x : PureTree) (at : Place) (s : State) → EachReadsNone hidden subscripts → ReadsNone hidden x → Begun low any s (emit (tree.put array subscripts x at) s)
  put_begun low array subscripts x at s q r = emit_begun low (tree.put array subscripts x at) s (λ lands h a apart b. (each_below h hidden b subscripts q, reads_below h hidden b x r)) tt

  pub mark_begun : (low : ℕ) (point : Point) (s : State) → Begun low any s (emit (tree.mark point) s)
  mark_begun low point s = emit_begun low (tree.mark point) s (λ lands h a apart b. a) tt

  pub if_begun : {A : Type 0} {V : A → Type 0} (low : ℕ) (b : Bool) (x y : Part A) (s : State) → Begun low V s x → Begun low V s y → Begun low V s (if b then x else y)
  if_begun low true x y s h g = h
  if_begun low false x y s h g = g

  -- ---- parts without pieces

  pub array_begun : (a : ArrayTree) (s : State) → Begun s.calls any s (add_array a s)
  unfolding add_array
  array_begun a s = record { labels = refl; made = omega arith; more = le_refl (length s.variables); later = le_refl s.calls; good = tt; ends = tt; value = tt }

  pub slot_begun : (s : State) → Begun s.calls any s (new_slot s)
  unfolding new_slot
  slot_begun s = record { labels = refl; made = omega arith; more = le_refl (length s.variables); later = le_refl s.calls; good = tt; ends = tt; value = tt }

  pub note_begun : (slot : Slot) (a : ArrayId) (s : State) → Begun s.calls any s (note_array slot a s)
  unfolding note_array
  note_begun slot a s = record { labels = refl; made = omega arith; more = le_refl (length s.variables); later = le_refl s.calls; good = tt; ends = tt; value = tt }

  pub call_begun : (s : State) → Begun s.calls any s (next_call s)
  unfolding next_call
  call_begun s = record { labels = refl; made = omega arith; more = le_refl (length s.variables); later = omega arith; good = tt; ends = tt; value = tt }

  pub loop_begun : (s : State) → Begun s.calls any s (next_loop s)
  unfolding next_loop
  loop_begun s = record { labels = refl; made = omega arith; more = le_refl (length s.variables); later = le_refl s.calls; good = tt; ends = tt; value = tt }

  pub declared_begun : (weight : ℕ) (s : State) → Begun s.calls any s (declared weight s)
  unfolding declared
  declared_begun weight s = record { labels = refl; made = omega arith; more = le_refl (length s.variables); later = le_refl s.calls; good = tt; ends = tt; value = tt }

  -- ---- in a call

  module _ (c : Call) where
    -- wherever the objects of the call stand
    abbrev pub There : {A : Type 0} → (A → Type 0) → (State → Part A) → Type 0
    There V part = (s : State) → Ready hidden c s → Begun s.calls V s (part s)

    pub then_there : {A B : Type 0} {V : A → Type 0} {W : B → Type 0} (s : State) → Ready hidden c s → (first : Part A) (next : A → State → Part B) → Begun s.calls V s first → ((x : A) → V x → There W (next x)) → Begun s.calls W s (then_ first next)
    then_there s r first next h later = then_at s.calls s first next (le_refl s.calls) h (later first.value h.value first.state (ready_more hidden c s first.state h.more r))

    -- a variable of its own is not hidden
    abbrev pub Shown : VarId → Type 0
    Shown own = hidden own.0 ≡ false

    pub fresh_begun : (k : CType) → There Shown (fresh k)
    unfolding fresh
    fresh_begun k s r =
        let n = length-append s.variables (k ∷ []) in
        record { labels = refl; made = omega arith; more = omega (arith, n); later = le_refl s.calls; good = tt; ends = tt; value = r.new (length s.variables) (le_refl (length s.variables)) }

    abbrev pub ResultShown : Option VarId → Type 0
    ResultShown None = Unit {0}
    ResultShown (Some own) = Shown own

    pub result_begun : (k : Option CType) → There ResultShown (fresh_result k)
    unfolding fresh_result
    result_begun None s r = gives_begun s.calls None tt s
    result_begun (Some k) s r = then_there s r (fresh k s) (λ own s1. gives (Some own) s1) (fresh_begun k s r) (λ own v s1 r1. gives_begun s1.calls (Some own) v s1)

    -- ---- saved values

    abbrev pub Reads : PureTree → Type 0
    Reads x = ReadsNone hidden x

    pub own_begun : (k : CType) (x : PureTree) → Reads x → There Reads (set_own k x)
    unfolding set_own
    own_begun k x v s r = then_there s r _ _ (fresh_begun k s r) (λ own o s1 r1. then_there s1 r1 _ _ (set_begun s1.calls own x s1 v) (λ u w s2 r2. gives_begun s2.calls (tree.variable own k) o s2))

    saved_if_begun : (whole : Bool) (x : PureTree) (parts : State → Part PureTree) → Reads x → There Reads parts → There Reads (saved_if whole x parts)
    saved_if_begun true x parts v h s r = own_begun (kind x) x v s r
    saved_if_begun false x parts v h s r = h s r

    mutual
      saved_begun : (low : ℕ) (calls : Bool) (x : PureTree) → Reads x → There Reads (saved low calls x)
      saved_begun low calls (tree.number v k) q s r = gives_begun s.calls (tree.number v k) q s
      saved_begun low calls (tree.variable name k) q s r = saved_if_begun (calls && nat_lt name.0 low) (tree.variable name k) (λ s1. gives (tree.variable name k) s1) q (λ s1 r1. gives_begun s1.calls (tree.variable name k) q s1) s r
      saved_begun low calls (tree.element array subscripts k at) q s r =
          then_there s r _ _ (all_begun low calls subscripts [] q tt s r) (λ given v s1 r1. own_begun k (tree.element array (row given) k at) (row_reads hidden given v) s1 r1)
      saved_begun low calls (tree.unary op arg k at) q s r = then_there s r _ _ (saved_begun low calls arg q s r) (λ x v s1 r1. gives_begun s1.calls (tree.unary op x k at) v s1)
      saved_begun low calls (tree.binary op left right k at) q s r =
          then_there s r _ _ (saved_begun low calls left q.0 s r)
          (λ x v s1 r1. saved_if_begun (is_logical op && has_element right) (tree.binary op x right k at) (λ s2. then_ (saved low calls right s2) (λ y s3. gives (tree.binary op x y k at) s3)) (v, q.1)
          (λ s2 r2. then_there s2 r2 _ _ (saved_begun low calls right q.1 s2 r2) (λ y w s3 r3. gives_begun s3.calls (tree.binary op x y k at) (v, w) s3)) s1 r1)
      saved_begun low calls (tree.choice test left right k) q s r =
          then_there s r _ _ (saved_begun low calls test q.0 s r)
          (λ t u s1 r1. saved_if_begun (has_element left || has_element right) (tree.choice t left right k) (λ s2. then_ (saved low calls left s2) (λ x s3. then_ (saved low calls right s3) (λ y s4. gives (tree.choice t x y k) s4))) (u, q.1, q.2)
          (λ s2 r2. then_there s2 r2 _ _ (saved_begun low calls left q.1 s2 r2)
          (λ x v s3 r3. then_there s3 r3 _ _ (saved_begun low calls right q.2 s3 r3) (λ y w s4 r4. gives_begun s4.calls (tree.choice t x y k) (u, v, w) s4))) s1 r1)
      saved_begun low calls (tree.cast to arg) q s r = then_there s r _ _ (saved_begun low calls arg q s r) (λ x v s1 r1. gives_begun s1.calls (tree.cast to x) v s1)

      all_begun : (low : ℕ) (calls : Bool) (xs : PureTrees) (before : List PureTree) → EachReadsNone hidden xs → AllRead hidden before → There (AllRead hidden) (all_saved low calls xs before)
      all_begun low calls tree.none before q b s r = gives_begun s.calls before b s
      all_begun low calls (tree.more first rest) before q b s r =
          then_there s r _ _ (saved_begun low calls first q.0 s r) (λ x v s1 r1. all_begun low calls rest (before ++ x ∷ []) q.1 (all_read_more hidden before x b v) s1 r1)

    pub save_begun : (low : ℕ) (x : PureTree) (later : Effects) → Reads x → There Reads (save low x later)
    save_begun low x later q s r = if_begun s.calls (spoils later) (saved low later.calls x s) (gives x s) s (saved_begun low later.calls x q s r) (gives_begun s.calls x q s)

-- Pieces in a list of their own, where more may be hidden.
pub record Within (kept : Point → Bool) (hidden : ℕ → Bool) {A : Type 0} (V : A → Type 0) (s : State) (part : Part (Inner A)) : Type 0 where
  pub labels : part.labels ≡ []
  pub made : part.state.made ≡ s.made
  pub more : length s.variables ≤ length part.state.variables
  pub later : s.calls ≤ part.state.calls
  pub none : part.pieces ≡ []
  pub good : AllGood kept hidden part.value.pieces
  pub ends : AllEnds (Between s.calls part.state.calls) (piece_row part.value.pieces)
  pub value : V part.value.value

pub inside_begun : (kept : Point → Bool) (hidden : ℕ → Bool) {A : Type 0} {V : A → Type 0} (part : State → Part A) (s : State) → Begun kept hidden s.calls V (record s { made = 0 }) (part (record s { made = 0 })) → Within kept hidden V s (inside part s)
unfolding inside
inside_begun kept hidden part s q = record { labels = q.labels; made = refl; more = q.more; later = q.later; none = refl; good = q.good; ends = q.ends; value = q.value }

-- the list that is round it
pub outside_begun : (kept : Point → Bool) (hidden inner : ℕ → Bool) {A : Type 0} {V : A → Type 0} (low : ℕ) (s : State) (part : Part (Inner A)) → Within kept inner V s part → Begun kept hidden low any s part
outside_begun kept hidden inner low s part w = record {
  labels = w.labels;
  made = let e = w.made in let n = ap length w.none in omega (arith, e, n);
  more = w.more;
  later = w.later;
  good = subst (λ xs. AllGood kept hidden xs) (sym w.none) tt;
  ends = subst (λ xs. AllEnds (Between low part.state.calls) (piece_row xs)) (sym w.none) tt;
  value = tt;
}
