-- Parts of an expansion in which no call ends among straight pieces.
use Rattle.std.proofs.Common.{◌≡◌, ◌∙◌, ℕ, Bool, true, false, ◌&&◌, ◌||◌, List, [], ◌∷◌, ◌++◌, refl, ap, sym, Option, Some, None, if◌then◌else◌}
use Rattle.std.specs.Prelude.{nat_lt}
use Rattle.hls_base.specs.declared.place.Place.{Place}
use Rattle.hls_base.specs.declared.point.Point.{Point}
use Rattle.hls_base.specs.declared.number.ArrayId.{ArrayId}
use Rattle.hls_base.specs.declared.number.LoopId.{LoopId}
use Rattle.hls_base.specs.declared.number.VarId.{VarId}
use Rattle.c_token.specs.declared.ctype.CType.{CType}
use Rattle.pieces.specs.declared.piece.Label.{Label}
use Rattle.pieces.specs.Trees as tree
use Rattle.pieces.specs.Trees.{PureTree, PureTrees, row, PieceTree, PieceTrees, piece_row}
use Rattle.pieces.specs.Weight.{weight}
use Rattle.pieces.specs.Shape.{are_marks}
use Rattle.pieces.specs.Program.{ArrayTree}
use Rattle.piece_making.specs.declared.effects.Effects.{Effects}
use Rattle.piece_making.specs.declared.work.Slot.{Slot}
use Rattle.piece_making.specs.Acting.{spoils}
use Rattle.piece_making.specs.Making.{State, Part, gives, then_, emit, label, declared, inside, inside_switch, fresh, fresh_result, add_array, new_slot, note_array, next_call, next_loop, set_own}
use Rattle.piece_making.specs.Saving.{has_element, is_logical, saved, all_saved, saved_if, save}
use Rattle.passes.specs.Lowering.Shapes.{is_straight, are_straight, is_eligible}
use Rattle.pass_runs.specs.ConvertRuns.LoweredConversions.Suiting.{NoCallEnds}
use Rattle.lowered_shapes.specs.ConvertedShapes.Straight.{NoStraightCallEnds}
use Rattle.passes.proofs.Equalities.{first as left_true, second as right_true}
use Rattle.lowered_shapes.proofs.ConvertedShapes.Lowered.{eligible_parts}

-- ---- pieces one behind another

straight_append : (xs ys : List PieceTree) → are_straight (piece_row (xs ++ ys)) ≡ (are_straight (piece_row xs) && are_straight (piece_row ys))
straight_append [] ys = refl
straight_append (x ∷ xs) ys = ap (λ b. is_straight x && b) (straight_append xs ys) ∙ sym (and_assoc (is_straight x) (are_straight (piece_row xs)) (are_straight (piece_row ys))) where
  and_assoc : (a b c : Bool) → ((a && b) && c) ≡ (a && (b && c))
  and_assoc true b c = refl
  and_assoc false b c = refl

calls_append : (xs ys : List PieceTree) → NoCallEnds (piece_row xs) → NoCallEnds (piece_row ys) → NoCallEnds (piece_row (xs ++ ys))
calls_append [] ys h g = g
calls_append (x ∷ xs) ys h g = (h.0, calls_append xs ys h.1 g)

pub straight_calls_append : (xs ys : List PieceTree) → NoStraightCallEnds (piece_row xs) → NoStraightCallEnds (piece_row ys) → NoStraightCallEnds (piece_row (xs ++ ys))
straight_calls_append [] ys h g = g
straight_calls_append (x ∷ xs) ys h g = (h.0, straight_calls_append xs ys h.1 g)

-- No call ends among them if all of them are straight, and none in a straight fork or an eligible loop among them.
pub record IsApart (pieces : List PieceTree) : Type 0 where
  pub whole : are_straight (piece_row pieces) ≡ true → NoCallEnds (piece_row pieces)
  pub within : NoStraightCallEnds (piece_row pieces)

pub nothing_apart : IsApart []
nothing_apart = record { whole = λ e. tt; within = tt }

pub apart_append : (xs ys : List PieceTree) → IsApart xs → IsApart ys → IsApart (xs ++ ys)
apart_append xs ys h g = record {
  whole = λ e.
      (let both = sym (straight_append xs ys) ∙ e in
      calls_append xs ys (h.whole (left_true (are_straight (piece_row xs)) (are_straight (piece_row ys)) both)) (g.whole (right_true (are_straight (piece_row xs)) (are_straight (piece_row ys)) both)));
  within = straight_calls_append xs ys h.within g.within;
}

-- Pieces of which some are not straight are not.
pub record IsBent (pieces : List PieceTree) : Type 0 where
  pub bent : are_straight (piece_row pieces) ≡ false

pub bent_first : (xs ys : List PieceTree) → IsBent xs → IsBent (xs ++ ys)
bent_first xs ys h = record { bent = straight_append xs ys ∙ ap (λ b. b && are_straight (piece_row ys)) h.bent }

pub bent_second : (xs ys : List PieceTree) → IsBent ys → IsBent (xs ++ ys)
bent_second xs ys h = record { bent = straight_append xs ys ∙ ap (λ b. are_straight (piece_row xs) && b) h.bent ∙ and_false (are_straight (piece_row xs)) } where
  and_false : (b : Bool) → (b && false) ≡ false
  and_false true = refl
  and_false false = refl

not_both : {A : Type 0} (b : Bool) → b ≡ true → b ≡ false → A
not_both true e h = absurd cc
not_both false e h = absurd cc

-- Where one is not straight, a call may end behind it.
pub bent_apart : (xs ys : List PieceTree) → IsBent xs → NoStraightCallEnds (piece_row xs) → NoStraightCallEnds (piece_row ys) → IsApart (xs ++ ys)
bent_apart xs ys b h g = record {
  whole = λ e. not_both (are_straight (piece_row (xs ++ ys))) e (bent_first xs ys b).bent;
  within = straight_calls_append xs ys h g;
}

-- ---- single pieces

pub fork_apart : (test : PureTree) (left right : List PieceTree) (end : Point) → IsApart left → IsApart right → IsApart (tree.fork test (piece_row left) (piece_row right) end ∷ [])
fork_apart test left right end h g = record { whole = λ e. (branches (left_true (is_straight fork) true e), tt); within = ((branches, h.within, g.within), tt) } where
  fork : PieceTree
  fork = tree.fork test (piece_row left) (piece_row right) end

  branches : is_straight fork ≡ true → NoCallEnds (piece_row left) × NoCallEnds (piece_row right)
  branches e =
      let both = right_true _ (are_straight (piece_row left) && are_straight (piece_row right)) e in
      (h.whole (left_true (are_straight (piece_row left)) (are_straight (piece_row right)) both), g.whole (right_true (are_straight (piece_row left)) (are_straight (piece_row right)) both))

marks_straight : (pieces : PieceTrees) → are_marks pieces ≡ true → are_straight pieces ≡ true
marks_straight tree.no_pieces e = refl
marks_straight (tree.then_ (tree.mark point) rest) e = marks_straight rest e
marks_straight (tree.then_ (tree.land call end) rest) e = marks_straight rest e
marks_straight (tree.then_ (tree.set name value) rest) e = absurd cc
marks_straight (tree.then_ (tree.put array subscripts value at) rest) e = absurd cc
marks_straight (tree.then_ (tree.fork test left right end) rest) e = absurd cc
marks_straight (tree.then_ (tree.repeat_ id post before test body step end) rest) e = absurd cc
marks_straight (tree.then_ (tree.pick test labels body end) rest) e = absurd cc
marks_straight (tree.then_ tree.break_ rest) e = absurd cc
marks_straight (tree.then_ tree.next_ rest) e = absurd cc
marks_straight (tree.then_ (tree.leave call) rest) e = absurd cc

pub repeat_apart : (id : LoopId) (post : Bool) (before : List PieceTree) (test : PureTree) (body step : List PieceTree) (end : Point) → IsApart before → IsApart body → IsApart step
    → IsApart (tree.repeat_ id post (piece_row before) test (piece_row body) (piece_row step) end ∷ [])
repeat_apart id post before test body step end b h g = record { whole = λ e. absurd cc; within = ((eligible, b.within, h.within, g.within), tt) } where
  eligible : is_eligible post (piece_row before) (weight test) (piece_row body) (piece_row step) ≡ true → NoCallEnds (piece_row before) × NoCallEnds (piece_row body) × NoCallEnds (piece_row step)
  eligible e =
      let p = eligible_parts post (piece_row before) (weight test) (piece_row body) (piece_row step) e in
      (b.whole (marks_straight (piece_row before) p.marks), h.whole p.body_straight, g.whole p.step_straight)

pub pick_apart : (test : PureTree) (labels : List Label) (body : List PieceTree) (end : Point) → IsApart body → IsApart (tree.pick test labels (piece_row body) end ∷ [])
pick_apart test labels body end h = record { whole = λ e. absurd cc; within = (h.within, tt) }

-- ---- parts

abbrev pub Apart : {A : Type 0} → Part A → Type 0
Apart part = IsApart part.pieces

abbrev pub ApartThere : {A : Type 0} → (State → Part A) → Type 0
ApartThere part = (s : State) → Apart (part s)

pub then_at : {A B : Type 0} (first : Part A) (next : A → State → Part B) → Apart first → Apart (next first.value first.state) → Apart (then_ first next)
unfolding then_
then_at first next h g = apart_append first.pieces (next first.value first.state).pieces h g

pub then_apart : {A B : Type 0} (first : Part A) (next : A → State → Part B) → Apart first → ((x : A) → ApartThere (next x)) → Apart (then_ first next)
then_apart first next h later = then_at first next h (later first.value first.state)

pub emit_apart : (piece : PieceTree) → IsApart (piece ∷ []) → ApartThere (emit piece)
unfolding emit
emit_apart piece h s = h

pub set_apart : (name : VarId) (x : PureTree) → ApartThere (emit (tree.set name x))
set_apart name x = emit_apart (tree.set name x) (record { whole = λ e. (tt, tt); within = (tt, tt) })

pub put_apart : (array : ArrayId) (subscripts : PureTrees) (x : PureTree) (at : Place) → ApartThere (emit (tree.put array subscripts x at))
put_apart array subscripts x at = emit_apart (tree.put array subscripts x at) (record { whole = λ e. (tt, tt); within = (tt, tt) })

pub mark_apart : (point : Point) → ApartThere (emit (tree.mark point))
mark_apart point = emit_apart (tree.mark point) (record { whole = λ e. (tt, tt); within = (tt, tt) })

pub if_apart : {A : Type 0} (b : Bool) (x y : Part A) → Apart x → Apart y → Apart (if b then x else y)
if_apart true x y h g = h
if_apart false x y h g = g

-- ---- parts without pieces

pub label_apart : (value : Option ℕ) → ApartThere (label value)
unfolding label
label_apart value s = nothing_apart

pub declared_apart : (weight : ℕ) → ApartThere (declared weight)
unfolding declared
declared_apart weight s = nothing_apart

pub fresh_apart : (k : CType) → ApartThere (fresh k)
unfolding fresh
fresh_apart k s = nothing_apart

pub result_apart : (k : Option CType) → ApartThere (fresh_result k)
unfolding fresh_result
result_apart None s = nothing_apart
result_apart (Some k) s = then_apart (fresh k s) (λ own s1. gives (Some own) s1) (fresh_apart k s) (λ own s1. nothing_apart)

pub array_apart : (a : ArrayTree) → ApartThere (add_array a)
unfolding add_array
array_apart a s = nothing_apart

pub slot_apart : ApartThere new_slot
unfolding new_slot
slot_apart s = nothing_apart

pub note_apart : (slot : Slot) (a : ArrayId) → ApartThere (note_array slot a)
unfolding note_array
note_apart slot a s = nothing_apart

pub call_apart : ApartThere next_call
unfolding next_call
call_apart s = nothing_apart

pub loop_apart : ApartThere next_loop
unfolding next_loop
loop_apart s = nothing_apart

-- ---- pieces in a list of their own

pub inside_apart : {A : Type 0} (part : State → Part A) (s : State) → Apart (inside part s)
unfolding inside
inside_apart part s = nothing_apart

pub inner_apart : {A : Type 0} (part : State → Part A) → ApartThere part → (s : State) → IsApart (inside part s).value.pieces
unfolding inside
inner_apart part h s = h (record s { made = 0 })

pub switch_apart : {A : Type 0} (part : State → Part A) (s : State) → Apart (inside_switch part s)
unfolding inside_switch
switch_apart part s = nothing_apart

pub arms_apart : {A : Type 0} (part : State → Part A) → ApartThere part → (s : State) → IsApart (inside_switch part s).value.0
unfolding inside_switch inside
arms_apart part h s = h (record s { made = 0 })

-- ---- saved values

pub own_apart : (k : CType) (x : PureTree) → ApartThere (set_own k x)
unfolding set_own
own_apart k x s = then_apart (fresh k s) _ (fresh_apart k s) (λ own s1. then_apart (emit (tree.set own x) s1) _ (set_apart own x s1) (λ u s2. nothing_apart))

saved_if_apart : (whole : Bool) (t : PureTree) (parts : State → Part PureTree) → ApartThere parts → ApartThere (saved_if whole t parts)
saved_if_apart true t parts h s = own_apart _ t s
saved_if_apart false t parts h s = h s

mutual
  saved_apart : (n : ℕ) (calls : Bool) (x : PureTree) → ApartThere (saved n calls x)
  saved_apart n calls (tree.number value k) s = nothing_apart
  saved_apart n calls (tree.variable name k) s = saved_if_apart (calls && nat_lt name.0 n) (tree.variable name k) (λ s1. gives (tree.variable name k) s1) (λ s1. nothing_apart) s
  saved_apart n calls (tree.element array subscripts k at) s = then_apart (all_saved n calls subscripts [] s) _ (all_saved_apart n calls subscripts [] s) (λ given s1. own_apart k (tree.element array (row given) k at) s1)
  saved_apart n calls (tree.unary op arg k at) s = then_apart (saved n calls arg s) _ (saved_apart n calls arg s) (λ x s1. nothing_apart)
  saved_apart n calls (tree.binary op left right k at) s =
      then_apart (saved n calls left s) _ (saved_apart n calls left s)
      (λ x s1. saved_if_apart (is_logical op && has_element right) (tree.binary op x right k at) (λ s2. then_ (saved n calls right s2) (λ y s3. gives (tree.binary op x y k at) s3))
      (λ s2. then_apart (saved n calls right s2) _ (saved_apart n calls right s2) (λ y s3. nothing_apart)) s1)
  saved_apart n calls (tree.choice test left right k) s =
      then_apart (saved n calls test s) _ (saved_apart n calls test s)
      (λ t s1. saved_if_apart (has_element left || has_element right) (tree.choice t left right k) (λ s2. then_ (saved n calls left s2) (λ x s3. then_ (saved n calls right s3) (λ y s4. gives (tree.choice t x y k) s4)))
      (λ s2. then_apart (saved n calls left s2) _ (saved_apart n calls left s2) (λ x s3. then_apart (saved n calls right s3) _ (saved_apart n calls right s3) (λ y s4. nothing_apart))) s1)
  saved_apart n calls (tree.cast to arg) s = then_apart (saved n calls arg s) _ (saved_apart n calls arg s) (λ x s1. nothing_apart)

  all_saved_apart : (n : ℕ) (calls : Bool) (xs : PureTrees) (before : List PureTree) → ApartThere (all_saved n calls xs before)
  all_saved_apart n calls tree.none before s = nothing_apart
  all_saved_apart n calls (tree.more first rest) before s = then_apart (saved n calls first s) _ (saved_apart n calls first s) (λ x s1. all_saved_apart n calls rest (before ++ x ∷ []) s1)

pub save_apart : (n : ℕ) (x : PureTree) (later : Effects) → ApartThere (save n x later)
save_apart n x later s = if_apart (spoils later) (saved n later.calls x s) (gives x s) (saved_apart n later.calls x s) (nothing_apart)
