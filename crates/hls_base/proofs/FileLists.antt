-- Lists of files by name: the place of a name, and what stands under each name after one is written.
use Rattle.std.proofs.Common.{◌≡◌, ◌<◌, ◌+◌, ℕ, zero, suc, true, false, cond, List, [], ◌∷◌, ◌++◌, length, get_or, set, take, drop, drop-cons, Option, Some, None, sym, ◌∙◌, ap, refl, inl, inr, arith}
use Rattle.std.specs.Prelude.{position}
use Rattle.std.specs.List.{position_from}
use Rattle.std.specs.Str.{bytes_eq}
use Rattle.std.proofs.lemmas.Bool.{cases_Bool}
use Rattle.std.proofs.lemmas.List.Quantifiers.{position-Some}
use Rattle.std.proofs.lemmas.Iterator.Adapters.{position_from-zero}
use Rattle.std.proofs.lemmas.Slice.Eq.{bytes_eq-Decides}
use Rattle.hls_base.specs.Memory.{file_named, with_file, HasDistinctNames}
use Rattle.hls_base.specs.Outside.{IsWritten, IsCutShort}

abbrev pub Files : Type 0
Files = List (List ℕ × List ℕ)

abbrev pub place_named : List ℕ → Files → Option ℕ
place_named name files = position (λ file. bytes_eq file.0 name) files

-- the first file of this name stands at place i
pub record IsPlace (files : Files) (name : List ℕ) (i : ℕ) : Type 0 where
  pub within : i < length files
  pub named : (d : List ℕ × List ℕ) → bytes_eq (get_or files i d).0 name ≡ true
  pub first : (k : ℕ) (d : List ℕ × List ℕ) → k < i → bytes_eq (get_or files k d).0 name ≡ false

pub place_from_position : (files : Files) (name : List ℕ) (i : ℕ) → place_named name files ≡ Some i → IsPlace files name i
place_from_position files name i e =
    let at : (d : List ℕ × List ℕ) → _ = position-Some (λ file. bytes_eq file.0 name) files i in
    record { within = (at ([], []) e).0; named = λ d. (at d e).1; first = λ k d h. (at d e).2 k h }

later_place : (file : List ℕ × List ℕ) (files : Files) (name : List ℕ) (i : ℕ) → IsPlace (file ∷ files) name (suc i) → IsPlace files name i
later_place file files name i p = record {
  within = let h : suc i < suc (length files) = p.within in omega arith;
  named = λ d. p.named d;
  first = λ k d h. p.first (suc k) d (omega arith);
}

pub set_is_with_file : (files : Files) (name bytes : List ℕ) (i : ℕ) → IsPlace files name i → set files i (name, bytes) ≡ with_file files name bytes
set_is_with_file [] name bytes i p = let h : i < 0 = p.within in absurd (omega arith)
set_is_with_file (file ∷ files) name bytes zero p = rw (p.named file) refl
set_is_with_file (file ∷ files) name bytes (suc i) p =
    rw (p.first 0 file (omega arith)) (ap (λ rest. file ∷ rest) (set_is_with_file files name bytes i (later_place file files name i p)))

pub named_at_place : (files : Files) (name : List ℕ) (i : ℕ) (d : List ℕ × List ℕ) → IsPlace files name i → file_named files name ≡ Some (get_or files i d).1
named_at_place [] name i d p = let h : i < 0 = p.within in absurd (omega arith)
named_at_place (file ∷ files) name zero d p = rw (p.named file) refl
named_at_place (file ∷ files) name (suc i) d p =
    rw (p.first 0 file (omega arith)) (named_at_place files name i d (later_place file files name i p))

-- no file has this name
none_from_position_from : (files : Files) (name : List ℕ) (k : ℕ) → position_from (λ file. bytes_eq file.0 name) k files ≡ None → file_named files name ≡ None
none_from_position_from [] name k e = refl
none_from_position_from (file ∷ files) name k e =
    elim (cases_Bool (bytes_eq file.0 name)) [
      | inl same ↦ let clash = rw same at e in cc
      | inr other ↦ rw other (none_from_position_from files name (k + 1) (rw other at e))
    ]

pub none_from_position : (files : Files) (name : List ℕ) → place_named name files ≡ None → file_named files name ≡ None
none_from_position files name e =
    none_from_position_from files name 0 (sym (position_from-zero (λ (file : List ℕ × List ℕ). bytes_eq file.0 name) files) ∙ e)

pub push_is_with_file : (files : Files) (name bytes : List ℕ) → file_named files name ≡ None → files ++ (name, bytes) ∷ [] ≡ with_file files name bytes
push_is_with_file [] name bytes e = refl
push_is_with_file (file ∷ files) name bytes e =
    elim (cases_Bool (bytes_eq file.0 name)) [
      | inl same ↦ let clash = rw same at e in cc
      | inr other ↦ rw other (ap (λ rest. file ∷ rest) (push_is_with_file files name bytes (rw other at e)))
    ]

bytes_eq_self : (name : List ℕ) → bytes_eq name name ≡ true
bytes_eq_self name = (bytes_eq-Decides name name).1 refl

pub with_file_has_it : (files : Files) (name bytes : List ℕ) → file_named (with_file files name bytes) name ≡ Some bytes
with_file_has_it [] name bytes = rw (bytes_eq_self name) refl
with_file_has_it (file ∷ files) name bytes =
    elim (cases_Bool (bytes_eq file.0 name)) [
      | inl same ↦ rw (same, bytes_eq_self name) refl
      | inr other ↦ simp other (with_file_has_it files name bytes)
    ]

bytes_eq_other : (name other : List ℕ) → (other ≡ name → ⊥) → bytes_eq name other ≡ false
bytes_eq_other name other differ =
    elim (cases_Bool (bytes_eq name other)) [
      | inl same ↦ absurd (differ (sym ((bytes_eq-Decides name other).0 same)))
      | inr e ↦ e
    ]

pub with_file_keeps_others : (files : Files) (name bytes other : List ℕ) → (other ≡ name → ⊥) → file_named (with_file files name bytes) other ≡ file_named files other
with_file_keeps_others [] name bytes other differ = rw (bytes_eq_other name other differ) refl
with_file_keeps_others (file ∷ files) name bytes other differ =
    elim (cases_Bool (bytes_eq file.0 name)) [
      | inl same ↦
          let is_name : file.0 ≡ name = (bytes_eq-Decides file.0 name).0 same in
          rw (same, bytes_eq_other name other differ, is_name, bytes_eq_other name other differ) refl
      | inr unlike ↦
          let later = with_file_keeps_others files name bytes other differ in
          rw unlike (ap (λ rest. cond (bytes_eq file.0 other) (Some file.1) rest) later)
    ]

pub is_written : (old new : Files) (name bytes : List ℕ) → new ≡ with_file old name bytes → IsWritten name bytes (file_named old) (file_named new)
is_written old new name bytes e =
    rw e (record { whole = with_file_has_it old name bytes; others = with_file_keeps_others old name bytes })

pub is_cut_short : (old new : Files) (name bytes : List ℕ) (n : ℕ) → new ≡ with_file old name (take n bytes) → IsCutShort name bytes (file_named old) (file_named new)
is_cut_short old new name bytes n e =
    rw e (record {
      file = inr (n, with_file_has_it old name (take n bytes));
      others = with_file_keeps_others old name (take n bytes);
    })

-- from the later files on to this one
pub distinct_from_rest : (files : Files) (i : ℕ) (d : List ℕ × List ℕ) → i < length files → file_named (drop (suc i) files) (get_or files i d).0 ≡ None → HasDistinctNames (drop (suc i) files) → HasDistinctNames (drop i files)
distinct_from_rest files i d within alone rest = rw (drop-cons files i d) (alone, rest)

pub rest_from_distinct : (files : Files) (i : ℕ) (d : List ℕ × List ℕ) → i < length files → HasDistinctNames (drop i files) → (file_named (drop (suc i) files) (get_or files i d).0 ≡ None) × HasDistinctNames (drop (suc i) files)
rest_from_distinct files i d within all = let both = rw (drop-cons files i d) at all in (both.0, both.1)

-- no name comes twice by a write
pub distinct_with_file : (files : Files) (name bytes : List ℕ) → HasDistinctNames files → HasDistinctNames (with_file files name bytes)
distinct_with_file [] name bytes distinct = (refl, tt)
distinct_with_file (file ∷ files) name bytes distinct =
    elim (cases_Bool (bytes_eq file.0 name)) [
      | inl same ↦
          let is_name : file.0 ≡ name = (bytes_eq-Decides file.0 name).0 same in
          let alone : file_named files name ≡ None = rw (← is_name) distinct.0 in
          rw same (alone, distinct.1)
      | inr unlike ↦
          let differs : (file.0 ≡ name → ⊥) = λ e. let same = (bytes_eq-Decides file.0 name).1 e in let clash = rw unlike at same in cc in
          let alone : file_named (with_file files name bytes) file.0 ≡ None = rw (with_file_keeps_others files name bytes file.0 differs) distinct.0 in
          rw unlike (alone, distinct_with_file files name bytes distinct.1)
    ]
