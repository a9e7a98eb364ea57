-- How the operations of the new body stand to those of the old one that they were made from, so far.
use Rattle.std.proofs.Common.{◌≡◌, ◌∙◌, ◌+◌, ◌<◌, ◌≤◌, ◌⊎◌, inl, inr, ℕ, zero, suc, refl, sym, ap, ap₂, subst, Bool, true, false, ◌&&◌, List, [], ◌∷◌, ◌++◌, length, map, take, get_or, Option, Some, None, arith, length-append, append-nil}
use Rattle.std.specs.Prelude.{nat_lt, slice_get, option_to_list}
use Rattle.std.specs.List.{list_all}
use Rattle.std.specs.Option.{option_map}
use Rattle.std.proofs.lemmas.Bool.{and_parts, ltb-true, ltb-false, false≢true}
use Rattle.std.proofs.lemmas.List.{take-append-le, take_all, get_or_append_left}
use Rattle.std.proofs.lemmas.List.Folds.{list_all-append}
use Rattle.std.proofs.lemmas.Option.{slice_get_within, slice_get_past}
use Rattle.std.proofs.Math.Seq.{get_or-append_seam}
use Rattle.ir_core.specs.declared.body.Operand.{Operand}
use Rattle.ir_core.specs.declared.body.Out.{Out}
use Rattle.ir_core.specs.declared.body.Source.{Source}
use Rattle.ir_core.specs.declared.body.Source.TheVariants as source
use Rattle.ir_core.specs.Bodies.{OpTree}
use Rattle.ir_core.specs.Timing.{result_bits}
use Rattle.op_chain.specs.declared.choices.Taking.{Taking}
use Rattle.op_chain.specs.Fusing.{moved_source, moved_out, is_taken}
use Rattle.op_chain.proofs.ValidFusing.Trees as trees
use Rattle.op_chain.proofs.ValidFusing.Trees.{stores_none}
use Rattle.op_chain.proofs.ValidFusing.Choices.{front_some, last_get, either_get}
use Rattle.op_chain.proofs.ValidFusing.Kept.{IsKept, AllKept, found_at}
use Rattle.op_chain.proofs.ValidFusing.Moved.{IsSame, AllSame, IsSameIf}

-- ---- numbers and lists

none_past : {A : Type 0} (xs : List A) (k : ℕ) → slice_get xs k ≡ None → length xs ≤ k
none_past [] k h = omega arith
none_past (x ∷ xs) zero h = absurd cc
none_past (x ∷ xs) (suc k) h = (let further = none_past xs k h in omega (arith, further))

default_past : (xs : List ℕ) (k d : ℕ) → length xs ≤ k → get_or xs k d ≡ d
default_past [] k d h = refl
default_past (x ∷ xs) zero d h = absurd (omega (arith, h))
default_past (x ∷ xs) (suc k) d h = default_past xs k d (omega (arith, h))

one_more : {A : Type 0} (xs : List A) (y : A) → length (xs ++ y ∷ []) ≡ length xs + 1
one_more xs y = length-append xs (y ∷ [])

split : (k n : ℕ) → k < n + 1 → (k < n) ⊎ (k ≡ n)
split k n h = by (nat_lt k n) refl where
  by : (c : Bool) → nat_lt k n ≡ c → (k < n) ⊎ (k ≡ n)
  by true e = inl (ltb-true k n e)
  by false e = inr (let above = ltb-false k n e in omega (arith, above, h))

-- ---- states

pub record IsPlaced (behind : List OpTree) (place : ℕ) (t : OpTree) : Type 0 where
  pub other : OpTree
  pub found : slice_get behind place ≡ Some other
  pub bits : result_bits other.kind other.bits ≡ result_bits t.kind t.bits

-- These operations of the old body have become those of the new one, and their results have these new numbers. Those that are kept stand in their order, have results of the widths that they had, and stores have come of stores alone.
pub record State (all : List (Option Taking)) (before behind : List OpTree) (now : List ℕ) : Type 0 where
  pub many : length now ≡ length before
  pub few : length behind ≤ length before
  pub placed : (j : ℕ) (t : OpTree) → slice_get before j ≡ Some t → is_taken all j ≡ false → IsPlaced behind (get_or now j j) t
  pub ordered : (j k : ℕ) → is_taken all j ≡ false → j < k → k < length before → get_or now j j < get_or now k k
  pub fronts : (j : ℕ) → is_taken all j ≡ false → j < length before → list_all stores_none (take (suc j) before) ≡ true → list_all stores_none (take (suc (get_or now j j)) behind) ≡ true
  pub stores : list_all stores_none before ≡ true → list_all stores_none behind ≡ true

pub begun : (all : List (Option Taking)) → State all [] [] []
begun all = record {
  many = refl;
  few = omega arith;
  placed = λ j t at kept. absurd cc;
  ordered = λ j k kept low high. absurd (omega (arith, high));
  fronts = λ j kept low h. absurd (omega (arith, low));
  stores = λ h. refl;
}

-- ---- widths

module _ (widths : List ℕ) (carried : List Out) (whole : List ℕ) (all : List (Option Taking)) (before behind : List OpTree) (now : List ℕ) (state : State all before behind now) where
  result_same : (j : ℕ) → is_taken all j ≡ false → option_map (λ (t : OpTree). result_bits t.kind t.bits) (slice_get before j) ≡ option_map (λ (t : OpTree). result_bits t.kind t.bits) (slice_get behind (get_or now j j))
  result_same j kept = by (slice_get before j) refl where
    by : (found : Option OpTree) → slice_get before j ≡ found → option_map (λ (t : OpTree). result_bits t.kind t.bits) found ≡ option_map (λ (t : OpTree). result_bits t.kind t.bits) (slice_get behind (get_or now j j))
    by (Some t) at =
        let p = state.placed j t at kept in
        ap Some (sym p.bits) ∙ ap (option_map (λ (t : OpTree). result_bits t.kind t.bits)) (sym p.found)
    by None at =
        let past = none_past before j at in
        let same : get_or now j j ≡ j = default_past now j j (omega (arith, past, state.many)) in
        let none : slice_get behind (get_or now j j) ≡ None = ap (slice_get behind) same ∙ slice_get_past behind j (omega (arith, past, state.few)) in
        ap (option_map (λ (t : OpTree). result_bits t.kind t.bits)) (sym none)

  same_as : (x : Operand) → IsKept all x → (s : Source) → x.value ≡ s → trees.width_at widths carried before s ≡ trees.width_at widths (map (moved_out whole) carried) behind (moved_source now s)
  same_as x kept (source.Constant c) is = refl
  same_as x kept (source.Variable v) is = refl
  same_as x kept (source.Result j) is = result_same j.0 (kept j is)

  pub is_same : (x : Operand) → IsKept all x → IsSame widths carried whole before behind now x
  is_same x kept = same_as x kept x.value refl

  pub all_same : (xs : List Operand) → AllKept all xs → AllSame widths carried whole before behind now xs
  all_same [] h = tt
  all_same (x ∷ xs) h = (is_same x h.0, all_same xs h.1)

  pub same_if : (x : Option Operand) → AllKept all (option_to_list x) → IsSameIf widths carried whole before behind now x
  same_if None h = tt
  same_if (Some x) h = is_same x h.0

-- ---- one operation more

module _ (all : List (Option Taking)) (before behind : List OpTree) (now : List ℕ) (state : State all before behind now) (op : OpTree) where
  abbrev later : List ℕ
  later = now ++ length behind ∷ []

  old_number : (j : ℕ) → j < length before → get_or later j j ≡ get_or now j j
  old_number j low = get_or_append_left now (length behind ∷ []) j j (omega (arith, low, state.many))

  new_number : (k : ℕ) → k ≡ length before → get_or later k k ≡ length behind
  new_number k is = (let last : length now ≡ k = state.many ∙ sym is in subst (λ n. get_or later n k ≡ length behind) last (get_or-append_seam now (length behind) [] k))

  below : (j : ℕ) → is_taken all j ≡ false → j < length before → get_or now j j < length behind
  below j kept low =
      let t = found_at before j low in
      let p = state.placed j t.0 t.1 kept in
      slice_get_within behind (get_or now j j) p.other p.found

  later_ordered : (j k : ℕ) → is_taken all j ≡ false → j < k → k < length (before ++ op ∷ []) → get_or later j j < get_or later k k
  later_ordered j k kept low high =
      let more = one_more before op in
      elim (split k (length before) (omega (arith, high, more))) [
        | inl old ↦ (let first = old_number j (omega (arith, low, old)) in let second = old_number k old in let h = state.ordered j k kept low old in omega (arith, first, second, h))
        | inr new ↦ (let first = old_number j (omega (arith, low, new)) in let second = new_number k new in let h = below j kept (omega (arith, low, new)) in omega (arith, first, second, h))
      ]

  -- what is behind stays in front of more
  module _ (more : List OpTree) where
    still_placed : (j : ℕ) (t : OpTree) → slice_get before j ≡ Some t → is_taken all j ≡ false → IsPlaced (behind ++ more) (get_or later j j) t
    still_placed j t at kept =
        let p = state.placed j t at kept in
        let same = old_number j (slice_get_within before j t at) in
        record { other = p.other; found = ap (slice_get (behind ++ more)) same ∙ front_some behind more (get_or now j j) p.other p.found; bits = p.bits }

    still_front : (j : ℕ) → is_taken all j ≡ false → j < length before → list_all stores_none (take (suc j) (before ++ op ∷ [])) ≡ true → list_all stores_none (take (suc (get_or later j j)) (behind ++ more)) ≡ true
    still_front j kept low h =
        let place = below j kept low in
        let same = old_number j low in
        let before_same : take (suc j) (before ++ op ∷ []) ≡ take (suc j) before = take-append-le (suc j) before (op ∷ []) (omega (arith, low)) in
        let behind_same : take (suc (get_or later j j)) (behind ++ more) ≡ take (suc (get_or now j j)) behind =
        ap (λ n. take (suc n) (behind ++ more)) same ∙ take-append-le (suc (get_or now j j)) behind more (omega (arith, place)) in
        ap (list_all stores_none) behind_same ∙ state.fronts j kept low (ap (list_all stores_none) (sym before_same) ∙ h)

  -- the operation is dropped
  pub drops : is_taken all (length before) ≡ true → State all (before ++ op ∷ []) behind later
  drops taken = record {
    many = (let a = one_more now (length behind) in let b = one_more before op in omega (arith, a, b, state.many));
    few = (let b = one_more before op in omega (arith, b, state.few));
    placed = λ j t at kept. (
        elim (either_get before op j t at) [
          | inl old ↦ subst (λ (l : List OpTree). IsPlaced l (get_or later j j) t) (append-nil behind) (still_placed [] j t old kept)
          | inr last ↦ absurd (false≢true (sym kept ∙ (ap (is_taken all) last.0 ∙ taken)))
        ]);
    ordered = later_ordered;
    fronts = λ j kept low h. (let more = one_more before op in
        elim (split j (length before) (omega (arith, low, more))) [
          | inl old ↦ subst (λ (l : List OpTree). list_all stores_none (take (suc (get_or later j j)) l) ≡ true) (append-nil behind) (still_front [] j kept old h)
          | inr new ↦ absurd (false≢true (sym kept ∙ (ap (is_taken all) new ∙ taken)))
        ]);
    stores = λ h. state.stores (and_parts (list_all stores_none before) _ (sym (list_all-append stores_none before (op ∷ [])) ∙ h)).0;
  }

  -- it becomes this one
  module _ (made : OpTree) (bits : result_bits made.kind made.bits ≡ result_bits op.kind op.bits) (waits : stores_none op ≡ true → stores_none made ≡ true) where
    all_wait : list_all stores_none (before ++ op ∷ []) ≡ true → list_all stores_none (behind ++ made ∷ []) ≡ true
    all_wait h =
        let parts = and_parts (list_all stores_none before) (list_all stores_none (op ∷ [])) (sym (list_all-append stores_none before (op ∷ [])) ∙ h) in
        let first = (and_parts (stores_none op) true parts.1).0 in
        list_all-append stores_none behind (made ∷ []) ∙ ap₂ (λ (x : Bool) (y : Bool). x && (y && true)) (state.stores parts.0) (waits first)

    pub goes_on : State all (before ++ op ∷ []) (behind ++ made ∷ []) later
    goes_on = record {
      many = (let a = one_more now (length behind) in let b = one_more before op in omega (arith, a, b, state.many));
      few = (let a = one_more behind made in let b = one_more before op in omega (arith, a, b, state.few));
      placed = λ j t at kept. (elim (either_get before op j t at) [
        | inl old ↦ still_placed (made ∷ []) j t old kept
        | inr last ↦ record {
          other = made;
          found = ap (slice_get (behind ++ made ∷ [])) (new_number j last.0) ∙ last_get behind made;
          bits = bits ∙ ap (λ (x : OpTree). result_bits x.kind x.bits) last.1;
        }
      ]);
      ordered = later_ordered;
      fronts = λ j kept low h. (let more = one_more before op in
          elim (split j (length before) (omega (arith, low, more))) [
            | inl old ↦ still_front (made ∷ []) j kept old h
            | inr new ↦ (let ends : take (suc j) (before ++ op ∷ []) ≡ before ++ op ∷ [] = take_all (suc j) (before ++ op ∷ []) (omega (arith, new, more)) in
                let place = new_number j new in
                let length_ = one_more behind made in
                let other : take (suc (get_or later j j)) (behind ++ made ∷ []) ≡ behind ++ made ∷ [] = take_all (suc (get_or later j j)) (behind ++ made ∷ []) (omega (arith, place, length_)) in
                ap (list_all stores_none) other ∙ all_wait (ap (list_all stores_none) (sym ends) ∙ h))
          ]);
      stores = all_wait;
    }
