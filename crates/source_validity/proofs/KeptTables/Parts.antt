-- Parts whose pieces set no table, one behind another.
use Rattle.std.proofs.Common.{◌≡◌, ◌∙◌, ◌⊎◌, inl, inr, ℕ, ◌<◌, le_refl, le_trans, arith, Bool, true, false, sym, subst, List, [], ◌∷◌, ◌++◌, length, slice_get, slice_set, Option, Some, None, if◌then◌else◌}
use Rattle.std.proofs.lemmas.Bool.{cases_eq}
use Rattle.std.proofs.lemmas.List.{length-append}
use Rattle.std.proofs.lemmas.Option.{none-some, same_Some}
use Rattle.hls_base.specs.declared.number.ArrayId.{ArrayId}
use Rattle.c_token.specs.declared.ctype.CType.{CType}
use Rattle.pieces.specs.Trees as tree
use Rattle.pieces.specs.Trees.{PureTree, PieceTree, piece_row}
use Rattle.pieces.specs.Program.{ArrayTree}
use Rattle.piece_making.specs.declared.work.Slot.{Slot}
use Rattle.piece_making.specs.Making.{State, Part, gives, then_, emit, inside, inside_switch, label, declared, fresh, fresh_result, add_array, new_slot, note_array, next_call, next_loop, set_own}
use Rattle.expand_runs.specs.Growing.{Begins}
use Rattle.expand_runs.proofs.Growing.{begins_more, last_one, slots_here, slots_there, slots_length}
use Rattle.expanded_programs.proofs.Calls.Lists.{get_last}
use Rattle.compiled_plans.specs.Operations.{PutsNoTable, PutNoTables}
use Rattle.source_validity.specs.KeptTables.Worlds.{World, Later, Knows, Makes, MakesLater, Whatever, Inside, IsStored, KeepTables, IsNoted}

-- ---- more arrays

pub stored_more : (some more : List ArrayTree) → Begins some more → (array : ArrayId) → IsStored some array → IsStored more array
stored_more some more b array h = (h.0, b array.0 h.0 h.1, h.2)

-- an element of an array that is no table is set
pub put_keeps : (arrays more : List ArrayTree) → Begins arrays more → (array : ArrayId) → IsStored arrays array → (a : ArrayTree) → slice_get more array.0 ≡ Some a → a.table ≡ None
put_keeps arrays more b array h a e = subst (λ (x : ArrayTree). x.table ≡ None) (same_Some h.0 a (sym (b array.0 h.0 h.1) ∙ e)) h.2

pieces_append : (arrays : List ArrayTree) (xs ys : List PieceTree) → PutNoTables arrays (piece_row xs) → PutNoTables arrays (piece_row ys) → PutNoTables arrays (piece_row (xs ++ ys))
pieces_append arrays [] ys h g = g
pieces_append arrays (x ∷ xs) ys h g = (h.0, pieces_append arrays xs ys h.1 g)

-- ---- later worlds

pub later_same : (s : State) → Later s s
later_same s = record { arrays = λ i x e. e; slots = le_refl _; noted = λ i n. n }

pub later_both : {s s1 s2 : State} → Later s s1 → Later s1 s2 → Later s s2
later_both h g = record { arrays = λ i x e. g.arrays i x (h.arrays i x e); slots = le_trans h.slots g.slots; noted = λ i n. g.noted i (h.noted i n) }

pub pieces_later : {s s1 : State} → Later s s1 → (xs : List PieceTree) → KeepTables s.arrays xs → KeepTables s1.arrays xs
pieces_later l xs h more b = h more (λ i x e. b i x (l.arrays i x e))

pub array_later : {s s1 : State} → Later s s1 → (array : ArrayId) → IsStored s.arrays array → IsStored s1.arrays array
array_later {s} {s1} l array h = stored_more s.arrays s1.arrays l.arrays array h

-- ---- parts

pub then_makes : {A B : Type 0} {V : Knows A} {W : Knows B} {s : State} {first : Part A} {next : A → State → Part B}
    → Makes V s first → ((x : A) (s1 : State) → World s1 → Later s s1 → V s1 x → Makes W s1 (next x s1)) → Makes W s (then_ first next)
unfolding then_
then_makes {first = first} {next = next} h behind =
    let second = next first.value first.state in
    let q = behind first.value first.state h.next h.later h.value in
    record {
      next = q.next;
      later = later_both h.later q.later;
      pieces = λ more b. pieces_append more first.pieces second.pieces (pieces_later q.later first.pieces h.pieces more b) (q.pieces more b);
      value = q.value;
    }

pub gives_makes : {A : Type 0} {V : Knows A} {x : A} {s : State} → World s → V s x → Makes V s (gives x s)
gives_makes {s = s} w h = record { next = w; later = later_same s; pieces = λ more b. tt; value = h }

-- less is known of the value
pub known : {A : Type 0} {V W : Knows A} {s : State} {part : Part A} → Makes V s part → ((s1 : State) → Later s s1 → V s1 part.value → W s1 part.value) → Makes W s part
known {part = part} h weaker = record { next = h.next; later = h.later; pieces = h.pieces; value = weaker part.state h.later h.value }

pub if_makes : {A : Type 0} {V : Knows A} (b : Bool) (x y : Part A) (s : State) → Makes V s x → Makes V s y → Makes V s (if b then x else y)
if_makes true x y s h g = h
if_makes false x y s h g = g

pub emit_makes : (p : PieceTree) (s : State) → World s → ((more : List ArrayTree) → Begins s.arrays more → PutsNoTable more p) → Makes Whatever s (emit p s)
unfolding emit
emit_makes p s w h = record {
  next = record { noted = w.noted };
  later = record { arrays = λ i x e. e; slots = le_refl _; noted = λ i n. n };
  pieces = λ more b. (h more b, tt);
  value = tt;
}

pub declared_makes : (weight : ℕ) (s : State) → World s → Makes Whatever s (declared weight s)
unfolding declared
declared_makes weight s w = record { next = w; later = later_same s; pieces = λ more b. tt; value = tt }

pub label_makes : (value : Option ℕ) (s : State) → World s → Makes Whatever s (label value s)
unfolding label
label_makes value s w = record { next = w; later = later_same s; pieces = λ more b. tt; value = tt }

-- ---- variables, arrays and calls

pub fresh_makes : (k : CType) (s : State) → World s → Makes Whatever s (fresh k s)
unfolding fresh
fresh_makes k s w = record {
  next = record { noted = w.noted };
  later = record { arrays = λ i x e. e; slots = le_refl _; noted = λ i n. n };
  pieces = λ more b. tt;
  value = tt;
}

pub fresh_result_makes : (k : Option CType) (s : State) → World s → Makes Whatever s (fresh_result k s)
unfolding fresh_result
fresh_result_makes None s w = gives_makes w tt
fresh_result_makes (Some k) s w = then_makes (fresh_makes k s w) (λ own s1 w1 l v. gives_makes w1 tt)

pub array_makes : (a : ArrayTree) (s : State) → World s → Makes (λ s1 array. a.table ≡ None → IsStored s1.arrays array) s (add_array a s)
unfolding add_array
array_makes a s w =
    let b : Begins s.arrays (s.arrays ++ a ∷ []) = begins_more s.arrays (a ∷ []) in
    record {
      next = record { noted = λ i array q. stored_more s.arrays (s.arrays ++ a ∷ []) b array (w.noted i array q) };
      later = record { arrays = b; slots = le_refl _; noted = λ i n. n };
      pieces = λ more q. tt;
      value = λ e. (a, last_one s.arrays a, e);
    }

-- a place for an array
pub slot_makes : (s : State) → World s → Makes (λ s1 slot. slot.0 < length s1.slots) s (new_slot s)
unfolding new_slot
slot_makes s w = record {
  next = record { noted = λ i array n. not_new i array (get_last s.slots None i (Some array) n) };
  later = record { arrays = λ i x e. e; slots = (let e = length-append s.slots (None ∷ []) in omega (arith, e)); noted = λ i n. (n.0, begins_more s.slots (None ∷ []) i (Some n.0) n.1) };
  pieces = λ more b. tt;
  value = (let e = length-append s.slots (None ∷ []) in omega (arith, e));
} where
  not_new : (i : ℕ) (array : ArrayId) → (slice_get s.slots i ≡ Some (Some array)) ⊎ ((i ≡ length s.slots) × (None ≡ Some array)) → IsStored s.arrays array
  not_new i array (inl n) = w.noted i array n
  not_new i array (inr h) = absurd (none-some array h.1)

-- the array of a declaration that has a place, and is no table
pub note_makes : (slot : Slot) (array : ArrayId) (s : State) → World s → slot.0 < length s.slots → IsStored s.arrays array → Makes (λ s1 u. IsNoted s1 slot.0) s (note_array slot array s)
unfolding note_array
note_makes slot array s w below h = record {
  next = record { noted = λ i a n. (elim (cases_eq slot.0 i) [ inl q ↦ new_one i a n q | inr q ↦ w.noted i a (sym (slots_there s.slots slot.0 i (Some array) q) ∙ n) ]) };
  later = record { arrays = λ i x e. e; slots = (let e = slots_length s.slots slot.0 (Some array) in omega (arith, e)); noted = still };
  pieces = λ more b. tt;
  value = (array, slots_here s.slots slot.0 (Some array) below);
} where
  here : (i : ℕ) → slot.0 ≡ i → slice_get (slice_set s.slots slot.0 (Some array)) i ≡ Some (Some array)
  here i q = subst (λ m. slice_get (slice_set s.slots slot.0 (Some array)) m ≡ Some (Some array)) q (slots_here s.slots slot.0 (Some array) below)

  new_one : (i : ℕ) (a : ArrayId) → slice_get (slice_set s.slots slot.0 (Some array)) i ≡ Some (Some a) → slot.0 ≡ i → IsStored s.arrays a
  new_one i a n q = subst (λ b. IsStored s.arrays b) (same_Some array a (same_Some (Some array) (Some a) (sym (here i q) ∙ n))) h

  still : (i : ℕ) → IsNoted s i → (b : ArrayId) × (slice_get (slice_set s.slots slot.0 (Some array)) i ≡ Some (Some b))
  still i n = elim (cases_eq slot.0 i) [ inl q ↦ (array, here i q) | inr q ↦ (n.0, slots_there s.slots slot.0 i (Some array) q ∙ n.1) ]

pub call_makes : (s : State) → World s → Makes Whatever s (next_call s)
unfolding next_call
call_makes s w = record {
  next = record { noted = w.noted };
  later = record { arrays = λ i x e. e; slots = le_refl _; noted = λ i n. n };
  pieces = λ more b. tt;
  value = tt;
}

pub loop_makes : (s : State) → World s → Makes Whatever s (next_loop s)
unfolding next_loop
loop_makes s w = record {
  next = record { noted = w.noted };
  later = record { arrays = λ i x e. e; slots = le_refl _; noted = λ i n. n };
  pieces = λ more b. tt;
  value = tt;
}

-- an expression in a variable of its own
pub own_makes : (k : CType) (x : PureTree) (s : State) → World s → Makes Whatever s (set_own k x s)
unfolding set_own
own_makes k x s w = then_makes (fresh_makes k s w) (λ own s1 w1 l v. then_makes (emit_makes (tree.set own x) s1 w1 (λ more b. tt)) (λ u s2 w2 l2 a. gives_makes w2 tt))

-- ---- pieces in a list of their own

abbrev restarted : (s : State) → World s → (n : ℕ) → World (record s { made = n })
restarted s w n = record { noted = w.noted }

restarted_later : (s : State) (n : ℕ) → Later s (record s { made = n })
restarted_later s n = record { arrays = λ i x e. e; slots = le_refl _; noted = λ i n. n }

pub inside_makes : {A : Type 0} (part : State → Part A) (s : State) → World s → MakesLater Whatever s part → Makes (Inside Whatever) s (inside part s)
unfolding inside
inside_makes part s w h =
    let q = h (record s { made = 0 }) (restarted s w 0) (restarted_later s 0) in
    let end = (part (record s { made = 0 })).state in
    record {
      next = restarted end q.next s.made;
      later = later_both (restarted_later s 0) (later_both q.later (restarted_later end s.made));
      pieces = λ more b. tt;
      value = (q.pieces, tt);
    }

pub switch_makes : (part : State → Part (Unit {0})) (s : State) → World s → MakesLater Whatever s part → Makes (λ s1 x. KeepTables s1.arrays x.0) s (inside_switch part s)
unfolding inside_switch inside
switch_makes part s w h =
    let q = inside_makes part s w h in
    record { next = q.next; later = q.later; pieces = q.pieces; value = q.value.0 }
