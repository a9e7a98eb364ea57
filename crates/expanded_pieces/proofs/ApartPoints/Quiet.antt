-- Parts that make no points, and parts whose points stand at places of the call.
use Rattle.std.proofs.Common.{◌≡◌, ◌∙◌, ℕ, Bool, true, false, ◌&&◌, ◌||◌, refl, sym, ap, ap₂, subst, append_assoc, append-nil, List, [], ◌∷◌, ◌++◌, Option, Some, None, if◌then◌else◌}
use Rattle.std.specs.Prelude.{nat_lt}
use Rattle.hls_base.specs.declared.place.Place.{Place}
use Rattle.hls_base.specs.declared.number.VarId.{VarId}
use Rattle.hls_base.specs.declared.number.ArrayId.{ArrayId}
use Rattle.hls_base.specs.declared.point.Point.{Point}
use Rattle.c_token.specs.declared.ctype.CType.{CType}
use Rattle.pieces.specs.Trees as tree
use Rattle.pieces.specs.Trees.{PureTree, PureTrees, PieceTree, piece_row, row}
use Rattle.pieces.specs.Kind.{kind}
use Rattle.pieces.specs.Program.{ArrayTree}
use Rattle.pieces.specs.declared.resolved.expression.Cell.{Cell}
use Rattle.piece_making.specs.declared.effects.Effects.{Effects}
use Rattle.piece_making.specs.declared.work.Slot.{Slot}
use Rattle.piece_making.specs.Acting.{spoils}
use Rattle.piece_making.specs.Calls.{Call, variable, array}
use Rattle.piece_making.specs.Making.{State, Part, gives, then_, emit, inside, inside_switch, label, fresh, fresh_result, add_array, new_slot, note_array, next_call, next_loop, declared, set_own}
use Rattle.piece_making.specs.Saving.{has_element, is_logical, saved, all_saved, saved_if, save}
use Rattle.piece_making.specs.Assigning.{Change, store_at, store, apply, assigned, bumped, bumped_behind, new_value, target_read, one}
use Rattle.expanded_pieces.specs.ApartPoints.Apart.{AreApart}
use Rattle.expanded_pieces.specs.ApartPoints.Points.{all_points, own_points}
use Rattle.expanded_pieces.proofs.ApartPoints.Standing.{Stand, stand_append}

abbrev pub points_of : {A : Type 0} → Part A → List Point
points_of part = all_points (piece_row part.pieces)

pub points_append : (xs ys : List PieceTree) → all_points (piece_row (xs ++ ys)) ≡ all_points (piece_row xs) ++ all_points (piece_row ys)
points_append [] ys = refl
points_append (x ∷ xs) ys = ap (λ l. own_points x ++ l) (points_append xs ys) ∙ sym (append_assoc (own_points x) (all_points (piece_row xs)) (all_points (piece_row ys)))

-- ---- no points

-- the part makes none
abbrev pub Quiet : {A : Type 0} → Part A → Type 0
Quiet part = points_of part ≡ []

abbrev pub QuietThere : {A : Type 0} → (State → Part A) → Type 0
QuietThere part = (s : State) → Quiet (part s)

module _ {A B : Type 0} (first : Part A) (next : A → State → Part B) where
  abbrev second : Part B
  second = next first.value first.state

  pub points_then : points_of (then_ first next) ≡ points_of first ++ points_of second
  unfolding then_
  points_then = points_append first.pieces second.pieces

  pub quiet_then : Quiet first → ((x : A) → QuietThere (next x)) → Quiet (then_ first next)
  quiet_then h g = points_then ∙ ap₂ (λ (x y : List Point). x ++ y) h (g first.value first.state)

  -- ---- points at places

  -- a part without points, and one with points at these places
  pub stands_behind : (path places : List Place) → Quiet first → Stand path places (points_of second) → Stand path places (points_of (then_ first next))
  stands_behind path places h g = subst (Stand path places) (sym (points_then ∙ ap (λ l. l ++ points_of second) h)) g

  pub stands_before : (path places : List Place) → Stand path places (points_of first) → Quiet second → Stand path places (points_of (then_ first next))
  stands_before path places h g = subst (Stand path places) (sym (points_then ∙ ap (λ l. points_of first ++ l) g ∙ append-nil (points_of first))) h

  pub stands_both : (path xs ys : List Place) → AreApart (xs ++ ys) → Stand path xs (points_of first) → Stand path ys (points_of second) → Stand path (xs ++ ys) (points_of (then_ first next))
  stands_both path xs ys h f g = subst (Stand path (xs ++ ys)) (sym points_then) (stand_append path xs ys (points_of first) (points_of second) h f g)

pub quiet_if : {A : Type 0} (b : Bool) (x y : Part A) → Quiet x → Quiet y → Quiet (if b then x else y)
quiet_if true x y h g = h
quiet_if false x y h g = g

-- ---- single pieces

pub emitted_points : (p : PieceTree) (s : State) → points_of (emit p s) ≡ own_points p
unfolding emit
emitted_points p s = append-nil (own_points p)

pub set_quiet : (name : VarId) (x : PureTree) → QuietThere (emit (tree.set name x))
unfolding emit
set_quiet name x s = refl

pub put_quiet : (array : ArrayId) (subscripts : PureTrees) (x : PureTree) (at : Place) → QuietThere (emit (tree.put array subscripts x at))
unfolding emit
put_quiet array subscripts x at s = refl

-- ---- parts without pieces

pub fresh_quiet : (k : CType) → QuietThere (fresh k)
unfolding fresh
fresh_quiet k s = refl

pub result_quiet : (k : Option CType) → QuietThere (fresh_result k)
unfolding fresh_result
result_quiet None s = refl
result_quiet (Some k) s = quiet_then (fresh k s) (λ own s1. gives (Some own) s1) (fresh_quiet k s) (λ own s1. refl)

pub array_quiet : (a : ArrayTree) → QuietThere (add_array a)
unfolding add_array
array_quiet a s = refl

pub slot_quiet : QuietThere new_slot
unfolding new_slot
slot_quiet s = refl

pub note_quiet : (slot : Slot) (a : ArrayId) → QuietThere (note_array slot a)
unfolding note_array
note_quiet slot a s = refl

pub call_quiet : QuietThere next_call
unfolding next_call
call_quiet s = refl

pub loop_quiet : QuietThere next_loop
unfolding next_loop
loop_quiet s = refl

pub declared_quiet : (weight : ℕ) → QuietThere (declared weight)
unfolding declared
declared_quiet weight s = refl

pub label_quiet : (value : Option ℕ) → QuietThere (label value)
unfolding label
label_quiet value s = refl

-- pieces in a list of their own stand in none
pub inside_quiet : {A : Type 0} (part : State → Part A) → QuietThere (inside part)
unfolding inside
inside_quiet part s = refl

pub switch_quiet : {A : Type 0} (part : State → Part A) → QuietThere (inside_switch part)
unfolding inside_switch
switch_quiet part s = refl

-- ---- saved values

pub own_quiet : (k : CType) (x : PureTree) → QuietThere (set_own k x)
unfolding set_own
own_quiet k x s = quiet_then (fresh k s) _ (fresh_quiet k s) (λ own s1. quiet_then (emit (tree.set own x) s1) _ (set_quiet own x s1) (λ u s2. refl))

saved_if_quiet : (whole : Bool) (x : PureTree) (parts : State → Part PureTree) → QuietThere parts → QuietThere (saved_if whole x parts)
saved_if_quiet true x parts h s = own_quiet (kind x) x s
saved_if_quiet false x parts h s = h s

mutual
  saved_quiet : (low : ℕ) (calls : Bool) (x : PureTree) → QuietThere (saved low calls x)
  saved_quiet low calls (tree.number v k) s = refl
  saved_quiet low calls (tree.variable name k) s = saved_if_quiet (calls && nat_lt name.0 low) (tree.variable name k) (λ s1. gives (tree.variable name k) s1) (λ s1. refl) s
  saved_quiet low calls (tree.element array subscripts k at) s = quiet_then (all_saved low calls subscripts [] s) _ (all_quiet low calls subscripts [] s) (λ given s1. own_quiet k (tree.element array (row given) k at) s1)
  saved_quiet low calls (tree.unary op arg k at) s = quiet_then (saved low calls arg s) _ (saved_quiet low calls arg s) (λ x s1. refl)
  saved_quiet low calls (tree.binary op left right k at) s =
      quiet_then (saved low calls left s) _ (saved_quiet low calls left s)
      (λ x s1. saved_if_quiet (is_logical op && has_element right) (tree.binary op x right k at) (λ s2. then_ (saved low calls right s2) (λ y s3. gives (tree.binary op x y k at) s3))
      (λ s2. quiet_then (saved low calls right s2) _ (saved_quiet low calls right s2) (λ y s3. refl)) s1)
  saved_quiet low calls (tree.choice test left right k) s =
      quiet_then (saved low calls test s) _ (saved_quiet low calls test s)
      (λ t s1. saved_if_quiet (has_element left || has_element right) (tree.choice t left right k) (λ s2. then_ (saved low calls left s2) (λ x s3. then_ (saved low calls right s3) (λ y s4. gives (tree.choice t x y k) s4)))
      (λ s2. quiet_then (saved low calls left s2) _ (saved_quiet low calls left s2) (λ x s3. quiet_then (saved low calls right s3) _ (saved_quiet low calls right s3) (λ y s4. refl))) s1)
  saved_quiet low calls (tree.cast to arg) s = quiet_then (saved low calls arg s) _ (saved_quiet low calls arg s) (λ x s1. refl)

  all_quiet : (low : ℕ) (calls : Bool) (xs : PureTrees) (before : List PureTree) → QuietThere (all_saved low calls xs before)
  all_quiet low calls tree.none before s = refl
  all_quiet low calls (tree.more first rest) before s = quiet_then (saved low calls first s) _ (saved_quiet low calls first s) (λ x s1. all_quiet low calls rest (before ++ x ∷ []) s1)

pub save_quiet : (low : ℕ) (x : PureTree) (later : Effects) → QuietThere (save low x later)
save_quiet low x later s = quiet_if (spoils later) (saved low later.calls x s) (gives x s) (saved_quiet low later.calls x s) refl

-- ---- assignments

store_at_quiet : (c : Call) (cell : Cell) (at : Place) (subscripts : PureTrees) (v : PureTree) → QuietThere (store_at c cell at subscripts v)
store_at_quiet c cell at tree.none v s = set_quiet (variable c cell) v s
store_at_quiet c cell at (tree.more first rest) v s = put_quiet (array c cell s) (tree.more first rest) v at s

store_quiet : (c : Call) (t : Change) (v : PureTree) → QuietThere (store c t v)
store_quiet c t v s = store_at_quiet c t.cell t.target_at t.subscripts v s

pub apply_quiet : (c : Call) (t : Change) (by : PureTree) → QuietThere (apply c t by)
apply_quiet c t by s = store_quiet c t (new_value t (target_read c t s) by) s

pub assigned_quiet : (c : Call) (t : Change) (by : PureTree) → QuietThere (assigned c t by)
assigned_quiet c t by s =
    quiet_then (fresh t.kind s) _ (fresh_quiet t.kind s)
    (λ own s1. quiet_then (emit (tree.set own (new_value t (target_read c t s) by)) s1) _ (set_quiet own (new_value t (target_read c t s) by) s1) (λ u s2. quiet_then (store c t (tree.variable own t.kind) s2) _ (store_quiet c t (tree.variable own t.kind) s2) (λ v s3. refl)))

behind_quiet : (c : Call) (t : Change) → QuietThere (bumped_behind c t)
behind_quiet c t s =
    quiet_then (fresh t.kind s) _ (fresh_quiet t.kind s)
    (λ own s1. quiet_then (emit (tree.set own (target_read c t s)) s1) _ (set_quiet own (target_read c t s) s1)
    (λ u s2. quiet_then (store c t (new_value t (tree.variable own t.kind) one) s2) _ (store_quiet c t (new_value t (tree.variable own t.kind) one) s2) (λ v s3. refl)))

pub bumped_quiet : (c : Call) (t : Change) (post : Bool) → QuietThere (bumped c t post)
bumped_quiet c t post s = quiet_if post (bumped_behind c t s) (assigned c t one s) (behind_quiet c t s) (assigned_quiet c t one s)
