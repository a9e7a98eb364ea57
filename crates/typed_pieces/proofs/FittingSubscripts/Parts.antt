-- Parts that make pieces whose subscripts fit, one behind another.
use Rattle.std.proofs.Common.{◌≡◌, ◌∙◌, ◌⊎◌, inl, inr, ℕ, ◌+◌, ◌<◌, refl, Bool, true, false, ap, sym, subst, List, [], ◌∷◌, ◌++◌, length, slice_get, slice_set, Option, Some, None, if◌then◌else◌}
use Rattle.std.proofs.lemmas.Bool.{cases_eq}
use Rattle.std.proofs.lemmas.List.{length-append}
use Rattle.std.proofs.lemmas.Option.{none-some, same_Some, slice_get_within}
use Rattle.hls_base.specs.declared.number.ArrayId.{ArrayId}
use Rattle.c_token.specs.declared.ctype.CType.{CType}
use Rattle.pieces.specs.Trees as tree
use Rattle.pieces.specs.Trees.{PureTree, PureTrees, PieceTree, piece_row}
use Rattle.pieces.specs.Program.{ArrayTree}
use Rattle.piece_making.specs.declared.work.Slot.{Slot}
use Rattle.piece_making.specs.Making.{State, Part, gives, then_, emit, inside, inside_switch, label, declared, fresh, fresh_result, add_array, new_slot, note_array, next_call, next_loop, set_own}
use Rattle.expand_runs.specs.Growing.{Begins}
use Rattle.expand_runs.proofs.Growing.{begins_more, last_one, slots_here, slots_there, slots_length}
use Rattle.expanded_programs.proofs.Calls.Lists.{get_last, get_before}
use Rattle.sound_trees.specs.Subscripts.{HasDimensions, SubscriptsFit, AllSubscriptsFit, PieceSubscriptsFit, PiecesSubscriptsFit}
use Rattle.typed_pieces.specs.FittingSubscripts.Worlds.{World, Later, Knows, Makes, MakesLater, Anything, Whatever, Value, Inside, IsNoted}
use Rattle.typed_pieces.proofs.FittingSubscripts.Fitting.{dimensions_more, fits_more, each_more, pieces_more, pieces_append}

-- ---- later worlds

pub later_same : (s : State) (w : World s) → Later s w s w
later_same s w = record { arrays = λ i x e. e; dimensions = λ i x e. e; noted = λ i n. n }

pub later_both : {s s1 s2 : State} {w : World s} {w1 : World s1} {w2 : World s2} → Later s w s1 w1 → Later s1 w1 s2 w2 → Later s w s2 w2
later_both h g = record {
  arrays = λ i x e. g.arrays i x (h.arrays i x e);
  dimensions = λ i x e. g.dimensions i x (h.dimensions i x e);
  noted = λ i n. g.noted i (h.noted i n);
}

pub fits_later : {s s1 : State} {w : World s} {w1 : World s1} → Later s w s1 w1 → (x : PureTree) → SubscriptsFit s.arrays x → SubscriptsFit s1.arrays x
fits_later {s} {s1} l x h = fits_more s.arrays s1.arrays l.arrays x h

pub each_later : {s s1 : State} {w : World s} {w1 : World s1} → Later s w s1 w1 → (xs : PureTrees) → AllSubscriptsFit s.arrays xs → AllSubscriptsFit s1.arrays xs
each_later {s} {s1} l xs h = each_more s.arrays s1.arrays l.arrays xs h

pub pieces_later : {s s1 : State} {w : World s} {w1 : World s1} → Later s w s1 w1 → (xs : List PieceTree) → PiecesSubscriptsFit s.arrays (piece_row xs) → PiecesSubscriptsFit s1.arrays (piece_row xs)
pieces_later {s} {s1} l xs h = pieces_more s.arrays s1.arrays l.arrays (piece_row xs) h

pub array_later : {s s1 : State} {w : World s} {w1 : World s1} → Later s w s1 w1 → (array : ArrayId) (n : ℕ) → HasDimensions s.arrays array n → HasDimensions s1.arrays array n
array_later {s} {s1} l array n h = dimensions_more s.arrays s1.arrays l.arrays n array h

-- ---- parts

pub then_makes : {A B : Type 0} {V : Knows A} {W : Knows B} {s : State} {w : World s} {first : Part A} {next : A → State → Part B}
    → Makes V s w first → ((x : A) (s1 : State) (w1 : World s1) → Later s w s1 w1 → V s1 w1 x → Makes W s1 w1 (next x s1)) → Makes W s w (then_ first next)
unfolding then_
then_makes {first = first} {next = next} h behind =
    let second = next first.value first.state in
    let q = behind first.value first.state h.next h.later h.value in
    record {
      next = q.next;
      later = later_both h.later q.later;
      pieces = pieces_append second.state.arrays first.pieces second.pieces (pieces_later q.later first.pieces h.pieces) q.pieces;
      value = q.value;
    }

pub gives_makes : {A : Type 0} {V : Knows A} {x : A} {s : State} {w : World s} → V s w x → Makes V s w (gives x s)
gives_makes {s = s} {w = w} h = record { next = w; later = later_same s w; pieces = tt; value = h }

-- less is known of the value
pub known : {A : Type 0} {V W : Knows A} {s : State} {w : World s} {part : Part A} → Makes V s w part → ((s1 : State) (w1 : World s1) → Later s w s1 w1 → V s1 w1 part.value → W s1 w1 part.value) → Makes W s w part
known {part = part} h weaker = record { next = h.next; later = h.later; pieces = h.pieces; value = weaker part.state h.next h.later h.value }

pub if_makes : {A : Type 0} {V : Knows A} (b : Bool) (x y : Part A) (s : State) (w : World s) → Makes V s w x → Makes V s w y → Makes V s w (if b then x else y)
if_makes true x y s w h g = h
if_makes false x y s w h g = g

pub emit_makes : (p : PieceTree) (s : State) (w : World s) → PieceSubscriptsFit s.arrays p → Makes Anything s w (emit p s)
unfolding emit
emit_makes p s w h = record {
  next = record { dimensions = w.dimensions; count = w.count; noted = w.noted };
  later = record { arrays = λ i x e. e; dimensions = λ i x e. e; noted = λ i n. n };
  pieces = (h, tt);
  value = tt;
}

pub declared_makes : (weight : ℕ) (s : State) (w : World s) → Makes Anything s w (declared weight s)
unfolding declared
declared_makes weight s w = record { next = w; later = later_same s w; pieces = tt; value = tt }

pub label_makes : (value : Option ℕ) (s : State) (w : World s) → Makes Anything s w (label value s)
unfolding label
label_makes value s w = record { next = w; later = later_same s w; pieces = tt; value = tt }

-- ---- variables, arrays and calls

pub fresh_makes : (k : CType) (s : State) (w : World s) → Makes Whatever s w (fresh k s)
unfolding fresh
fresh_makes k s w = record {
  next = record { dimensions = w.dimensions; count = w.count; noted = w.noted };
  later = record { arrays = λ i x e. e; dimensions = λ i x e. e; noted = λ i n. n };
  pieces = tt;
  value = tt;
}

pub fresh_result_makes : (k : Option CType) (s : State) (w : World s) → Makes Whatever s w (fresh_result k s)
unfolding fresh_result
fresh_result_makes None s w = gives_makes tt
fresh_result_makes (Some k) s w = then_makes (fresh_makes k s w) (λ own s1 w1 l v. gives_makes tt)

pub array_makes : (a : ArrayTree) (s : State) (w : World s) → Makes (λ s1 w1 array. HasDimensions s1.arrays array (length a.lengths)) s w (add_array a s)
unfolding add_array
array_makes a s w =
    let b : Begins s.arrays (s.arrays ++ a ∷ []) = begins_more s.arrays (a ∷ []) in
    record {
      next = record { dimensions = w.dimensions; count = w.count; noted = λ i n array e q. dimensions_more s.arrays (s.arrays ++ a ∷ []) b n array (w.noted i n array e q) };
      later = record { arrays = b; dimensions = λ i x e. e; noted = λ i n. n };
      pieces = tt;
      value = (a, last_one s.arrays a, refl);
    }

-- a place for an array of so many dimensions
pub slot_makes : (k : ℕ) (s : State) (w : World s) → Makes (λ s1 w1 slot. slice_get w1.dimensions slot.0 ≡ Some k) s w (new_slot s)
unfolding new_slot
slot_makes k s w = record {
  next = record {
    dimensions = w.dimensions ++ k ∷ [];
    count = length-append w.dimensions (k ∷ []) ∙ ap (λ n. n + 1) w.count ∙ sym (length-append s.slots (None ∷ []));
    noted = λ i j array e n. not_new i j array e (get_last s.slots None i (Some array) n);
  };
  later = record { arrays = λ i x e. e; dimensions = begins_more w.dimensions (k ∷ []); noted = λ i n. (n.0, begins_more s.slots (None ∷ []) i (Some n.0) n.1) };
  pieces = tt;
  value = subst (λ n. slice_get (w.dimensions ++ k ∷ []) n ≡ Some k) w.count (last_one w.dimensions k);
} where
  not_new : (i j : ℕ) (array : ArrayId) → slice_get (w.dimensions ++ k ∷ []) i ≡ Some j → (slice_get s.slots i ≡ Some (Some array)) ⊎ ((i ≡ length s.slots) × (None ≡ Some array)) → HasDimensions s.arrays array j
  not_new i j array e (inl n) = w.noted i j array (sym (get_before w.dimensions (k ∷ []) i (subst (λ m. i < m) (sym w.count) (slice_get_within s.slots i (Some array) n))) ∙ e) n
  not_new i j array e (inr h) = absurd (none-some array h.1)

-- the array of a declaration that has this place, and has its dimensions
pub note_makes : (slot : Slot) (array : ArrayId) (k : ℕ) (s : State) (w : World s) → slice_get w.dimensions slot.0 ≡ Some k → HasDimensions s.arrays array k → Makes (λ s1 w1 u. IsNoted s1 slot.0) s w (note_array slot array s)
unfolding note_array
note_makes slot array k s w e h = record {
  next = record {
    dimensions = w.dimensions;
    count = w.count ∙ sym (slots_length s.slots slot.0 (Some array));
    noted = λ i j a x n. (elim (cases_eq slot.0 i) [ inl q ↦ new_one i j a x n q | inr q ↦ w.noted i j a x (sym (slots_there s.slots slot.0 i (Some array) q) ∙ n) ]);
  };
  later = record { arrays = λ i x e. e; dimensions = λ i x e. e; noted = still };
  pieces = tt;
  value = (array, slots_here s.slots slot.0 (Some array) below);
} where
  below : slot.0 < length s.slots
  below = subst (λ m. slot.0 < m) w.count (slice_get_within w.dimensions slot.0 k e)

  here : (i : ℕ) → slot.0 ≡ i → slice_get (slice_set s.slots slot.0 (Some array)) i ≡ Some (Some array)
  here i q = subst (λ m. slice_get (slice_set s.slots slot.0 (Some array)) m ≡ Some (Some array)) q (slots_here s.slots slot.0 (Some array) below)

  new_one : (i j : ℕ) (a : ArrayId) → slice_get w.dimensions i ≡ Some j → slice_get (slice_set s.slots slot.0 (Some array)) i ≡ Some (Some a) → slot.0 ≡ i → HasDimensions s.arrays a j
  new_one i j a x n q =
      let same : array ≡ a = same_Some array a (same_Some (Some array) (Some a) (sym (here i q) ∙ n)) in
      let dimensions : k ≡ j = same_Some k j (sym (subst (λ m. slice_get w.dimensions m ≡ Some k) q e) ∙ x) in
      subst (λ b. HasDimensions s.arrays b j) same (subst (λ m. HasDimensions s.arrays array m) dimensions h)

  still : (i : ℕ) → IsNoted s i → (b : ArrayId) × (slice_get (slice_set s.slots slot.0 (Some array)) i ≡ Some (Some b))
  still i n = elim (cases_eq slot.0 i) [ inl q ↦ (array, here i q) | inr q ↦ (n.0, slots_there s.slots slot.0 i (Some array) q ∙ n.1) ]

pub call_makes : (s : State) (w : World s) → Makes Whatever s w (next_call s)
unfolding next_call
call_makes s w = record {
  next = record { dimensions = w.dimensions; count = w.count; noted = w.noted };
  later = record { arrays = λ i x e. e; dimensions = λ i x e. e; noted = λ i n. n };
  pieces = tt;
  value = tt;
}

pub loop_makes : (s : State) (w : World s) → Makes Whatever s w (next_loop s)
unfolding next_loop
loop_makes s w = record {
  next = record { dimensions = w.dimensions; count = w.count; noted = w.noted };
  later = record { arrays = λ i x e. e; dimensions = λ i x e. e; noted = λ i n. n };
  pieces = tt;
  value = tt;
}

-- an expression in a variable of its own
pub own_makes : (k : CType) (x : PureTree) (s : State) (w : World s) → SubscriptsFit s.arrays x → Makes Value s w (set_own k x s)
unfolding set_own
own_makes k x s w h =
    then_makes (fresh_makes k s w) (λ own s1 w1 l v. then_makes (emit_makes (tree.set own x) s1 w1 (fits_later l x h)) (λ u s2 w2 l2 a. gives_makes tt))

-- ---- pieces in a list of their own

abbrev restarted : (s : State) (w : World s) (n : ℕ) → World (record s { made = n })
restarted s w n = record { dimensions = w.dimensions; count = w.count; noted = w.noted }

restarted_later : (s : State) (w : World s) (n : ℕ) → Later s w (record s { made = n }) (restarted s w n)
restarted_later s w n = record { arrays = λ i x e. e; dimensions = λ i x e. e; noted = λ i n. n }

-- what is known of a value is known later too
abbrev pub Stays : {A : Type 0} → Knows A → Type 0
Stays {A} V = (s : State) (w : World s) (s1 : State) (w1 : World s1) (x : A) → Later s w s1 w1 → V s w x → V s1 w1 x

pub inside_makes : {A : Type 0} {V : Knows A} (part : State → Part A) (s : State) (w : World s) → Stays V → MakesLater V s w part → Makes (Inside V) s w (inside part s)
unfolding inside
inside_makes part s w stays h =
    let q = h (record s { made = 0 }) (restarted s w 0) (restarted_later s w 0) in
    let end = (part (record s { made = 0 })).state in
    record {
      next = restarted end q.next s.made;
      later = later_both (restarted_later s w 0) (later_both q.later (restarted_later end q.next s.made));
      pieces = tt;
      value = (q.pieces, stays end q.next (record end { made = s.made }) (restarted end q.next s.made) (part (record s { made = 0 })).value (restarted_later end q.next s.made) q.value);
    }

pub switch_makes : (part : State → Part (Unit {0})) (s : State) (w : World s) → MakesLater Anything s w part → Makes (λ s1 w1 x. PiecesSubscriptsFit s1.arrays (piece_row x.0)) s w (inside_switch part s)
unfolding inside_switch inside
switch_makes part s w h =
    let q = inside_makes part s w (λ s1 w1 s2 w2 x l a. tt) h in
    record { next = q.next; later = q.later; pieces = q.pieces; value = q.value.0 }
