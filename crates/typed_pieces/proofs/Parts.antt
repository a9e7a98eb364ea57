-- Parts that make typed pieces, one behind another.
use Rattle.std.proofs.Common.{◌≡◌, ◌≢◌, ◌∙◌, ◌⊎◌, inl, inr, ℕ, ◌+◌, ◌<◌, Bool, true, false, refl, ap, sym, subst, List, [], ◌∷◌, ◌++◌, length, slice_get, slice_set, Option, Some, None, if◌then◌else◌}
use Rattle.std.proofs.lemmas.Bool.{cases_eq}
use Rattle.std.proofs.lemmas.List.{length-append}
use Rattle.std.proofs.lemmas.Option.{none-some, same_Some, slice_get_within}
use Rattle.hls_base.specs.declared.number.VarId.{VarId}
use Rattle.hls_base.specs.declared.number.ArrayId.{ArrayId}
use Rattle.c_token.specs.declared.ctype.CType.{CType}
use Rattle.pieces.specs.declared.piece.Label.{Label}
use Rattle.pieces.specs.Trees as tree
use Rattle.pieces.specs.Trees.{PureTree, PureTrees, PieceTree, piece_row}
use Rattle.pieces.specs.Program.{ArrayTree}
use Rattle.piece_making.specs.declared.work.Slot.{Slot}
use Rattle.piece_making.specs.Making.{State, Part, gives, then_, emit, inside, inside_switch, label, declared, fresh, fresh_result, add_array, new_slot, note_array, next_call, next_loop, set_own}
use Rattle.expand_runs.specs.Growing.{Begins}
use Rattle.expand_runs.proofs.Growing.{begins_more, last_one, slots_here, slots_there, slots_length}
use Rattle.expanded_programs.proofs.Calls.Lists.{get_last, get_before}
use Rattle.pass_runs.specs.LowerRuns.OperatorWords.Words.{IsType}
use Rattle.valid_trees.specs.ValidLowering.Proper.{WordFits, LabelsFit}
use Rattle.typed_pieces.specs.Typed.{IsTyped, AreTyped, PieceTyped, PiecesTyped}
use Rattle.typed_pieces.specs.Worlds.{ArraysHaveLengths, World, Later, Knows, Makes, MakesLater, Anything, Value, Inside, HasArray, IsNoted, frame_at}
use Rattle.typed_pieces.proofs.Typing.{typed_more, each_more, pieces_more, pieces_append, variable_typed}

-- ---- later worlds

pub later_same : (s : State) (w : World s) → Later s w s w
later_same s w = record { variables = λ i x e. e; arrays = λ i x e. e; kinds = λ i x e. e; noted = λ i n. n; labels = refl }

pub later_both : {s s1 s2 : State} {w : World s} {w1 : World s1} {w2 : World s2} → Later s w s1 w1 → Later s1 w1 s2 w2 → Later s w s2 w2
later_both h g = record {
  variables = λ i x e. g.variables i x (h.variables i x e);
  arrays = λ i x e. g.arrays i x (h.arrays i x e);
  kinds = λ i x e. g.kinds i x (h.kinds i x e);
  noted = λ i n. g.noted i (h.noted i n);
  labels = g.labels ∙ h.labels;
}

pub typed_later : {s s1 : State} {w : World s} {w1 : World s1} → Later s w s1 w1 → (x : PureTree) → IsTyped (frame_at s) x → IsTyped (frame_at s1) x
typed_later {s} {s1} l x h = typed_more (frame_at s) (frame_at s1) l.variables l.arrays x h

pub each_later : {s s1 : State} {w : World s} {w1 : World s1} → Later s w s1 w1 → (xs : PureTrees) → AreTyped (frame_at s) xs → AreTyped (frame_at s1) xs
each_later {s} {s1} l xs h = each_more (frame_at s) (frame_at s1) l.variables l.arrays xs h

pub pieces_later : {s s1 : State} {w : World s} {w1 : World s1} → Later s w s1 w1 → (xs : List PieceTree) → PiecesTyped (frame_at s) (piece_row xs) → PiecesTyped (frame_at s1) (piece_row xs)
pieces_later {s} {s1} l xs h = pieces_more (frame_at s) (frame_at s1) l.variables l.arrays (piece_row xs) h

pub array_later : {s s1 : State} {w : World s} {w1 : World s1} → Later s w s1 w1 → (array : ArrayId) (k : CType) → HasArray (frame_at s) array k → HasArray (frame_at s1) array k
array_later l array k h = (h.0, l.arrays array.0 h.0 h.1, h.2)

-- ---- labels

labels_append : (k : CType) (xs ys : List Label) → LabelsFit k xs → LabelsFit k ys → LabelsFit k (xs ++ ys)
labels_append k [] ys h g = g
labels_append k (x ∷ xs) ys h g = (h.0, labels_append k xs ys h.1 g)

-- ---- parts

pub then_makes : {A B : Type 0} {V : Knows A} {W : Knows B} {s : State} {w : World s} {first : Part A} {next : A → State → Part B}
    → Makes V s w first → ((x : A) (s1 : State) (w1 : World s1) → Later s w s1 w1 → V s1 w1 x → Makes W s1 w1 (next x s1)) → Makes W s w (then_ first next)
unfolding then_
then_makes {w = w} {first = first} {next = next} h behind =
    let second = next first.value first.state in
    let q = behind first.value first.state h.next h.later h.value in
    record {
      next = q.next;
      later = later_both h.later q.later;
      pieces = pieces_append (frame_at second.state) first.pieces second.pieces (pieces_later q.later first.pieces h.pieces) q.pieces;
      labels = labels_append w.labels first.labels second.labels h.labels (subst (λ k. LabelsFit k second.labels) h.later.labels q.labels);
      value = q.value;
    }

pub gives_makes : {A : Type 0} {V : Knows A} {x : A} {s : State} {w : World s} → V s w x → Makes V s w (gives x s)
gives_makes {s = s} {w = w} h = record { next = w; later = later_same s w; pieces = tt; labels = tt; value = h }

-- less is known of the value
pub known : {A : Type 0} {V W : Knows A} {s : State} {w : World s} {part : Part A} → Makes V s w part → ((s1 : State) (w1 : World s1) → Later s w s1 w1 → V s1 w1 part.value → W s1 w1 part.value) → Makes W s w part
known {part = part} h weaker = record { next = h.next; later = h.later; pieces = h.pieces; labels = h.labels; value = weaker part.state h.next h.later h.value }

pub if_makes : {A : Type 0} {V : Knows A} (b : Bool) (x y : Part A) (s : State) (w : World s) → Makes V s w x → Makes V s w y → Makes V s w (if b then x else y)
if_makes true x y s w h g = h
if_makes false x y s w h g = g

pub emit_makes : (p : PieceTree) (s : State) (w : World s) → PieceTyped (frame_at s) p → Makes Anything s w (emit p s)
unfolding emit
emit_makes p s w h = record {
  next = record { kinds = w.kinds; count = w.count; noted = w.noted; labels = w.labels; lengths = w.lengths };
  later = record { variables = λ i x e. e; arrays = λ i x e. e; kinds = λ i x e. e; noted = λ i n. n; labels = refl };
  pieces = (h, tt);
  labels = tt;
  value = tt;
}

pub declared_makes : (weight : ℕ) (s : State) (w : World s) → Makes Anything s w (declared weight s)
unfolding declared
declared_makes weight s w = record { next = w; later = later_same s w; pieces = tt; labels = tt; value = tt }

pub label_makes : (value : Option ℕ) (s : State) (w : World s) → WordFits w.labels value → Makes Anything s w (label value s)
unfolding label
label_makes value s w h = record { next = w; later = later_same s w; pieces = tt; labels = (h, tt); value = tt }

-- ---- variables, arrays and calls

abbrev pub IsVariable : CType → Knows VarId
IsVariable k s w own = slice_get s.variables own.0 ≡ Some k

pub fresh_makes : (k : CType) (s : State) (w : World s) → Makes (IsVariable k) s w (fresh k s)
unfolding fresh
fresh_makes k s w =
    let b : Begins s.variables (s.variables ++ k ∷ []) = begins_more s.variables (k ∷ []) in
    record {
      next = record { kinds = w.kinds; count = w.count; noted = w.noted; labels = w.labels; lengths = w.lengths };
      later = record { variables = b; arrays = λ i x e. e; kinds = λ i x e. e; noted = λ i n. n; labels = refl };
      pieces = tt;
      labels = tt;
      value = last_one s.variables k;
    }

abbrev pub IsResult : Option CType → Knows (Option VarId)
IsResult None s w own = own ≡ None
IsResult (Some k) s w own = (v : VarId) × (own ≡ Some v) × (slice_get s.variables v.0 ≡ Some k)

pub fresh_result_makes : (k : Option CType) (s : State) (w : World s) → Makes (IsResult k) s w (fresh_result k s)
unfolding fresh_result
fresh_result_makes None s w = gives_makes refl
fresh_result_makes (Some k) s w = then_makes (fresh_makes k s w) (λ own s1 w1 l v. gives_makes (own, refl, v))

lengths_more : (arrays : List ArrayTree) (a : ArrayTree) → ArraysHaveLengths arrays → a.lengths ≢ [] → ArraysHaveLengths (arrays ++ a ∷ [])
lengths_more arrays a h some i x at = elim (get_last arrays a i x at) [
  | inl e ↦ h i x e
  | inr e ↦ subst (λ (y : ArrayTree). y.lengths ≢ []) e.1 some
]

pub array_makes : (a : ArrayTree) (s : State) (w : World s) → a.lengths ≢ [] → Makes (λ s1 w1 array. HasArray (frame_at s1) array a.kind) s w (add_array a s)
unfolding add_array
array_makes a s w some =
    let b : Begins s.arrays (s.arrays ++ a ∷ []) = begins_more s.arrays (a ∷ []) in
    record {
      next = record { kinds = w.kinds; count = w.count; noted = λ i k array e n. (let h = w.noted i k array e n in (h.0, b array.0 h.0 h.1, h.2)); labels = w.labels; lengths = lengths_more s.arrays a w.lengths some };
      later = record { variables = λ i x e. e; arrays = b; kinds = λ i x e. e; noted = λ i n. n; labels = refl };
      pieces = tt;
      labels = tt;
      value = (a, last_one s.arrays a, refl);
    }

-- a place for an array of this type
pub slot_makes : (k : CType) (s : State) (w : World s) → Makes (λ s1 w1 slot. slice_get w1.kinds slot.0 ≡ Some k) s w (new_slot s)
unfolding new_slot
slot_makes k s w = record {
  next = record {
    kinds = w.kinds ++ k ∷ [];
    count = length-append w.kinds (k ∷ []) ∙ ap (λ n. n + 1) w.count ∙ sym (length-append s.slots (None ∷ []));
    noted = λ i j array e n. not_new i j array e (get_last s.slots None i (Some array) n);
    labels = w.labels;
    lengths = w.lengths;
  };
  later = record { variables = λ i x e. e; arrays = λ i x e. e; kinds = begins_more w.kinds (k ∷ []); noted = λ i n. (n.0, begins_more s.slots (None ∷ []) i (Some n.0) n.1); labels = refl };
  pieces = tt;
  labels = tt;
  value = subst (λ n. slice_get (w.kinds ++ k ∷ []) n ≡ Some k) w.count (last_one w.kinds k);
} where
  not_new : (i : ℕ) (j : CType) (array : ArrayId) → slice_get (w.kinds ++ k ∷ []) i ≡ Some j → (slice_get s.slots i ≡ Some (Some array)) ⊎ ((i ≡ length s.slots) × (None ≡ Some array)) → HasArray (frame_at s) array j
  not_new i j array e (inl n) = w.noted i j array (sym (get_before w.kinds (k ∷ []) i (subst (λ m. i < m) (sym w.count) (slice_get_within s.slots i (Some array) n))) ∙ e) n
  not_new i j array e (inr h) = absurd (none-some array h.1)

-- the array of a declaration that has this place, and is of its type
pub note_makes : (slot : Slot) (array : ArrayId) (k : CType) (s : State) (w : World s) → slice_get w.kinds slot.0 ≡ Some k → HasArray (frame_at s) array k → Makes (λ s1 w1 u. IsNoted s1 slot.0) s w (note_array slot array s)
unfolding note_array
note_makes slot array k s w e h = record {
  next = record {
    kinds = w.kinds;
    count = w.count ∙ sym (slots_length s.slots slot.0 (Some array));
    noted = λ i j a x n. (elim (cases_eq slot.0 i) [ inl q ↦ new_one i j a x n q | inr q ↦ w.noted i j a x (sym (slots_there s.slots slot.0 i (Some array) q) ∙ n) ]);
    labels = w.labels;
    lengths = w.lengths;
  };
  later = record { variables = λ i x e. e; arrays = λ i x e. e; kinds = λ i x e. e; noted = still; labels = refl };
  pieces = tt;
  labels = tt;
  value = (array, slots_here s.slots slot.0 (Some array) below);
} where
  below : slot.0 < length s.slots
  below = subst (λ m. slot.0 < m) w.count (slice_get_within w.kinds slot.0 k e)

  here : (i : ℕ) → slot.0 ≡ i → slice_get (slice_set s.slots slot.0 (Some array)) i ≡ Some (Some array)
  here i q = subst (λ m. slice_get (slice_set s.slots slot.0 (Some array)) m ≡ Some (Some array)) q (slots_here s.slots slot.0 (Some array) below)

  new_one : (i : ℕ) (j : CType) (a : ArrayId) → slice_get w.kinds i ≡ Some j → slice_get (slice_set s.slots slot.0 (Some array)) i ≡ Some (Some a) → slot.0 ≡ i → HasArray (frame_at s) a j
  new_one i j a x n q =
      let same : array ≡ a = same_Some array a (same_Some (Some array) (Some a) (sym (here i q) ∙ n)) in
      let kinds : k ≡ j = same_Some k j (sym (subst (λ m. slice_get w.kinds m ≡ Some k) q e) ∙ x) in
      subst (λ b. HasArray (frame_at s) b j) same (subst (λ m. HasArray (frame_at s) array m) kinds h)

  still : (i : ℕ) → IsNoted s i → (b : ArrayId) × (slice_get (slice_set s.slots slot.0 (Some array)) i ≡ Some (Some b))
  still i n = elim (cases_eq slot.0 i) [ inl q ↦ (array, here i q) | inr q ↦ (n.0, slots_there s.slots slot.0 i (Some array) q ∙ n.1) ]

pub call_makes : (s : State) (w : World s) → Makes (λ s1 w1 call. Unit {0}) s w (next_call s)
unfolding next_call
call_makes s w = record {
  next = record { kinds = w.kinds; count = w.count; noted = w.noted; labels = w.labels; lengths = w.lengths };
  later = record { variables = λ i x e. e; arrays = λ i x e. e; kinds = λ i x e. e; noted = λ i n. n; labels = refl };
  pieces = tt;
  labels = tt;
  value = tt;
}

pub loop_makes : (s : State) (w : World s) → Makes (λ s1 w1 id. Unit {0}) s w (next_loop s)
unfolding next_loop
loop_makes s w = record {
  next = record { kinds = w.kinds; count = w.count; noted = w.noted; labels = w.labels; lengths = w.lengths };
  later = record { variables = λ i x e. e; arrays = λ i x e. e; kinds = λ i x e. e; noted = λ i n. n; labels = refl };
  pieces = tt;
  labels = tt;
  value = tt;
}

-- an expression in a variable of its own
pub own_makes : (k : CType) (x : PureTree) (s : State) (w : World s) → IsType k → IsTyped (frame_at s) x → Makes (Value k) s w (set_own k x s)
unfolding set_own
own_makes k x s w t h =
    then_makes (fresh_makes k s w)
    (λ own s1 w1 l v. then_makes (emit_makes (tree.set own x) s1 w1 ((k, v), typed_later l x h)) (λ u s2 w2 l2 a. gives_makes (record { typed = variable_typed (frame_at s2) own k t (l2.variables own.0 k v); type = refl })))

-- ---- pieces in a list of their own

abbrev restarted : (s : State) (w : World s) (n : ℕ) → World (record s { made = n })
restarted s w n = record { kinds = w.kinds; count = w.count; noted = w.noted; labels = w.labels; lengths = w.lengths }

restarted_later : (s : State) (w : World s) (n : ℕ) → Later s w (record s { made = n }) (restarted s w n)
restarted_later s w n = record { variables = λ i x e. e; arrays = λ i x e. e; kinds = λ i x e. e; noted = λ i n. n; labels = refl }

-- what is known of a value is known later too
abbrev pub Stays : {A : Type 0} → Knows A → Type 0
Stays {A} V = (s : State) (w : World s) (s1 : State) (w1 : World s1) (x : A) → Later s w s1 w1 → V s w x → V s1 w1 x

pub inside_makes : {A : Type 0} {V : Knows A} (part : State → Part A) (s : State) (w : World s) → Stays V → MakesLater V s w part → Makes (Inside V) s w (inside part s)
unfolding inside
inside_makes part s w stays h =
    let q = h (record s { made = 0 }) (restarted s w 0) (restarted_later s w 0) in
    let end = (part (record s { made = 0 })).state in
    record {
      next = restarted end q.next s.made;
      later = later_both (restarted_later s w 0) (later_both q.later (restarted_later end q.next s.made));
      pieces = tt;
      labels = q.labels;
      value = (q.pieces, stays end q.next (record end { made = s.made }) (restarted end q.next s.made) (part (record s { made = 0 })).value (restarted_later end q.next s.made) q.value);
    }

-- the same world in a switch whose labels have this type
abbrev pub labelled : {s : State} → CType → World s → World s
labelled k w = record { kinds = w.kinds; count = w.count; noted = w.noted; labels = k; lengths = w.lengths }

pub labelled_later : {s s1 : State} {w : World s} {w1 : World s1} (k : CType) → Later s w s1 w1 → Later s (labelled k w) s1 (labelled k w1)
labelled_later k l = record { variables = l.variables; arrays = l.arrays; kinds = l.kinds; noted = l.noted; labels = refl }

-- the pieces and labels of a switch's body
abbrev pub Body : CType → Knows (List PieceTree × List Label)
Body k s w x = PiecesTyped (frame_at s) (piece_row x.0) × LabelsFit k x.1

pub switch_makes : (k : CType) (part : State → Part (Unit {0})) (s : State) (w : World s) → MakesLater Anything s (labelled k w) part → Makes (Body k) s w (inside_switch part s)
unfolding inside_switch inside
switch_makes k part s w h =
    let q = inside_makes part s (labelled k w) (λ s1 w1 s2 w2 x l a. tt) h in
    record {
      next = labelled w.labels q.next;
      later = record { variables = q.later.variables; arrays = q.later.arrays; kinds = q.later.kinds; noted = q.later.noted; labels = refl };
      pieces = tt;
      labels = tt;
      value = (q.value.0, q.labels);
    }
