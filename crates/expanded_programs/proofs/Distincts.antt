-- Variables and arrays of file scope and of the parameters of the top function are all different.
use Rattle.std.proofs.Common.{◌≡◌, ℕ, zero, suc, ◌+◌, ◌<◌, ◌≤◌, sym, refl, ap, subst, Bool, true, false, ◌||◌, List, [], ◌∷◌, length, slice_get, Some, None, arith, if◌then◌else◌}
use Rattle.std.specs.Prelude.{not}
use Rattle.std.proofs.lemmas.Option.{none-some, same_Some}
use Rattle.hls_base.specs.declared.number.VarId.{VarId}
use Rattle.hls_base.specs.declared.number.ArrayId.{ArrayId}
use Rattle.pieces.specs.Resolved.Core.{CoreObjectTree, FileObjectTree}
use Rattle.piece_making.specs.declared.frame.Home.{Home}
use Rattle.piece_making.specs.declared.frame.Home.TheVariants as home
use Rattle.piece_making.specs.declared.work.Slot.{Slot}
use Rattle.piece_making.specs.Making.{variable_number, array_number}
use Rattle.piece_making.specs.Objects.{array_like, file_info, first_value}
use Rattle.c_expand.specs.Expansion.{is_array}
use Rattle.expanded_programs.specs.Outlines.{kept_kinds, homes_from, files_of, hosts_of, tops_from, scalar_kinds}
use Rattle.expanded_programs.proofs.Calls.Owning.{IsVariable, IsLocal, same_variable}

abbrev pub IsArrayHome : Home → Type 0
IsArrayHome (home.Variable own) = ⊥
IsArrayHome (home.Array a) = Unit {0}
IsArrayHome (home.Constant word) = ⊥
IsArrayHome (home.Local slot) = ⊥

abbrev array_of_home : ArrayId → Home → ArrayId
array_of_home d (home.Array a) = a
array_of_home d (home.Variable own) = d
array_of_home d (home.Constant word) = d
array_of_home d (home.Local slot) = d

pub same_array : (a b : ArrayId) → Some (home.Array a) ≡ Some (home.Array b) → a ≡ b
same_array a b e = ap (array_of_home a) (same_Some (home.Array a) (home.Array b) e)

pub not_array_variable : (a : ArrayId) (u : VarId) → Some (home.Array a) ≡ Some (home.Variable u) → ⊥
not_array_variable a u e = subst IsArrayHome (same_Some (home.Array a) (home.Variable u) e) tt

pub record AreDistinct (v w a b : ℕ) (hs : List Home) : Type 0 where
  pub variables : (i : ℕ) (own : VarId) → slice_get hs i ≡ Some (home.Variable own) → (v ≤ own.0) × (own.0 < w)
  pub names : (i j : ℕ) (own own' : VarId) → slice_get hs i ≡ Some (home.Variable own) → slice_get hs j ≡ Some (home.Variable own') → own.0 ≡ own'.0 → i ≡ j
  pub arrays : (i : ℕ) (c : ArrayId) → slice_get hs i ≡ Some (home.Array c) → (a ≤ c.0) × (c.0 < b)
  pub array_names : (i j : ℕ) (c c' : ArrayId) → slice_get hs i ≡ Some (home.Array c) → slice_get hs j ≡ Some (home.Array c') → c.0 ≡ c'.0 → i ≡ j
  pub no_slots : (i : ℕ) (slot : Slot) → slice_get hs i ≡ Some (home.Local slot) → ⊥

distinct_nothing : (v w a b : ℕ) → AreDistinct v w a b []
distinct_nothing v w a b = record { variables = λ i own e. absurd (none-some _ e); names = λ i j own own' e e' q. absurd (none-some _ e); arrays = λ i c e. absurd (none-some _ e); array_names = λ i j c c' e e' q. absurd (none-some _ e); no_slots = λ i slot e. absurd (none-some _ e) }

-- a home before others, which have later variables and arrays
record IsFirst (v v1 w a a1 b : ℕ) (h : Home) : Type 0 where
  more : v ≤ v1
  more_arrays : a ≤ a1
  variable : (own : VarId) → h ≡ home.Variable own → (v ≤ own.0) × (own.0 < v1) × (own.0 < w)
  array : (c : ArrayId) → h ≡ home.Array c → (a ≤ c.0) × (c.0 < a1) × (c.0 < b)
  slot : (s : Slot) → h ≡ home.Local s → ⊥

distinct_more : (v v1 w a a1 b : ℕ) (h : Home) (hs : List Home) → IsFirst v v1 w a a1 b h → AreDistinct v1 w a1 b hs → AreDistinct v w a b (h ∷ hs)
distinct_more v v1 w a a1 b h hs first d = record { variables = variables_; names = names_; arrays = arrays_; array_names = array_names_; no_slots = slots_ }
  where
    variables_ : (i : ℕ) (own : VarId) → slice_get (h ∷ hs) i ≡ Some (home.Variable own) → (v ≤ own.0) × (own.0 < w)
    variables_ zero own e = (let q = first.variable own (same_Some h (home.Variable own) e) in (q.0, q.2))
    variables_ (suc i) own e = (let q = d.variables i own e in (let le = first.more in let ge = q.0 in omega (arith, le, ge), q.1))

    names_ : (i j : ℕ) (own own' : VarId) → slice_get (h ∷ hs) i ≡ Some (home.Variable own) → slice_get (h ∷ hs) j ≡ Some (home.Variable own') → own.0 ≡ own'.0 → i ≡ j
    names_ zero zero own own' e e' q = refl
    names_ zero (suc j) own own' e e' q = absurd (let lt = (first.variable own (same_Some h (home.Variable own) e)).1 in let ge = (d.variables j own' e').0 in omega (arith, lt, ge, q))
    names_ (suc i) zero own own' e e' q = absurd (let lt = (first.variable own' (same_Some h (home.Variable own') e')).1 in let ge = (d.variables i own e).0 in omega (arith, lt, ge, q))
    names_ (suc i) (suc j) own own' e e' q = ap suc (d.names i j own own' e e' q)

    arrays_ : (i : ℕ) (c : ArrayId) → slice_get (h ∷ hs) i ≡ Some (home.Array c) → (a ≤ c.0) × (c.0 < b)
    arrays_ zero c e = (let q = first.array c (same_Some h (home.Array c) e) in (q.0, q.2))
    arrays_ (suc i) c e = (let q = d.arrays i c e in (let le = first.more_arrays in let ge = q.0 in omega (arith, le, ge), q.1))

    array_names_ : (i j : ℕ) (c c' : ArrayId) → slice_get (h ∷ hs) i ≡ Some (home.Array c) → slice_get (h ∷ hs) j ≡ Some (home.Array c') → c.0 ≡ c'.0 → i ≡ j
    array_names_ zero zero c c' e e' q = refl
    array_names_ zero (suc j) c c' e e' q = absurd (let lt = (first.array c (same_Some h (home.Array c) e)).1 in let ge = (d.arrays j c' e').0 in omega (arith, lt, ge, q))
    array_names_ (suc i) zero c c' e e' q = absurd (let lt = (first.array c' (same_Some h (home.Array c') e')).1 in let ge = (d.arrays i c e).0 in omega (arith, lt, ge, q))
    array_names_ (suc i) (suc j) c c' e e' q = ap suc (d.array_names i j c c' e e' q)

    slots_ : (i : ℕ) (slot : Slot) → slice_get (h ∷ hs) i ≡ Some (home.Local slot) → ⊥
    slots_ zero slot e = first.slot slot (same_Some h (home.Local slot) e)
    slots_ (suc i) slot e = d.no_slots i slot e

first_variable : (v w a b : ℕ) → v < w → IsFirst v (v + 1) w a a b (home.Variable (variable_number v))
first_variable v w a b lt = record {
  more = omega arith;
  more_arrays = omega arith;
  variable = λ own e. (let q = ap (λ (z : VarId). z.0) (same_variable (variable_number v) own (ap Some e)) in (omega (arith, q), omega (arith, q), omega (arith, q, lt)));
  array = λ c e. absurd (not_array_variable c (variable_number v) (ap Some (sym e)));
  slot = λ s e. absurd (subst IsVariable e tt);
}

first_array : (v w a b : ℕ) → a < b → IsFirst v v w a (a + 1) b (home.Array (array_number a))
first_array v w a b lt = record {
  more = omega arith;
  more_arrays = omega arith;
  variable = λ own e. absurd (not_array_variable (array_number a) own (ap Some e));
  array = λ c e. (let q = ap (λ (z : ArrayId). z.0) (same_array (array_number a) c (ap Some e)) in (omega (arith, q), omega (arith, q), omega (arith, q, lt)));
  slot = λ s e. absurd (subst IsArrayHome e tt);
}

first_constant : (v w a b word : ℕ) → IsFirst v v w a a b (home.Constant word)
first_constant v w a b word = record {
  more = omega arith;
  more_arrays = omega arith;
  variable = λ own e. absurd (subst IsVariable (sym e) tt);
  array = λ c e. absurd (subst IsArrayHome (sym e) tt);
  slot = λ s e. absurd (subst IsLocal (sym e) tt);
}

file_step : (x y : Bool) (v w a b : ℕ) (o : FileObjectTree) (os : List FileObjectTree) → ((v1 a1 : ℕ) → v1 + length (kept_kinds os) ≤ w → a1 + length (files_of os) ≤ b → AreDistinct v1 w a1 b (homes_from v1 a1 os))
    → v + length (if not (x || y) then o.object.kind ∷ kept_kinds os else kept_kinds os) ≤ w → a + length (if x then file_info o ∷ files_of os else files_of os) ≤ b
    → AreDistinct v w a b (if x then home.Array (array_number a) ∷ homes_from v (a + 1) os else if y then home.Constant (first_value o.first) ∷ homes_from v a os else home.Variable (variable_number v) ∷ homes_from (v + 1) a os)
file_step true y v w a b o os h lv la = distinct_more v v w a (a + 1) b (home.Array (array_number a)) (homes_from v (a + 1) os) (first_array v w a b (omega (arith, la))) (h v (a + 1) lv (omega (arith, la)))
file_step false true v w a b o os h lv la = distinct_more v v w a a b (home.Constant (first_value o.first)) (homes_from v a os) (first_constant v w a b (first_value o.first)) (h v a lv la)
file_step false false v w a b o os h lv la = distinct_more v (v + 1) w a a b (home.Variable (variable_number v)) (homes_from (v + 1) a os) (first_variable v w a b (omega (arith, lv))) (h (v + 1) a (omega (arith, lv)) la)

pub file_distinct : (os : List FileObjectTree) (v w a b : ℕ) → v + length (kept_kinds os) ≤ w → a + length (files_of os) ≤ b → AreDistinct v w a b (homes_from v a os)
file_distinct [] v w a b lv la = distinct_nothing v w a b
file_distinct (o ∷ os) v w a b lv la = file_step (is_array o.object) o.object.constant v w a b o os (λ v1 a1 x y. file_distinct os v1 w a1 b x y) lv la

top_step : (x : Bool) (v w a b : ℕ) (o : CoreObjectTree) (os : List CoreObjectTree) → ((v1 a1 : ℕ) → v1 + length (scalar_kinds os) ≤ w → a1 + length (hosts_of os) ≤ b → AreDistinct v1 w a1 b (tops_from v1 a1 os))
    → v + length (if x then scalar_kinds os else o.kind ∷ scalar_kinds os) ≤ w → a + length (if x then array_like o None None true ∷ hosts_of os else hosts_of os) ≤ b
    → AreDistinct v w a b (if x then home.Array (array_number a) ∷ tops_from v (a + 1) os else home.Variable (variable_number v) ∷ tops_from (v + 1) a os)
top_step true v w a b o os h lv la = distinct_more v v w a (a + 1) b (home.Array (array_number a)) (tops_from v (a + 1) os) (first_array v w a b (omega (arith, la))) (h v (a + 1) lv (omega (arith, la)))
top_step false v w a b o os h lv la = distinct_more v (v + 1) w a a b (home.Variable (variable_number v)) (tops_from (v + 1) a os) (first_variable v w a b (omega (arith, lv))) (h (v + 1) a (omega (arith, lv)) la)

pub tops_distinct : (os : List CoreObjectTree) (v w a b : ℕ) → v + length (scalar_kinds os) ≤ w → a + length (hosts_of os) ≤ b → AreDistinct v w a b (tops_from v a os)
tops_distinct [] v w a b lv la = distinct_nothing v w a b
tops_distinct (o ∷ os) v w a b lv la = top_step (is_array o) v w a b o os (λ v1 a1 x y. tops_distinct os v1 w a1 b x y) lv la

tops_length_step : (x : Bool) (v a : ℕ) (os : List CoreObjectTree) → ((v1 a1 : ℕ) → length (tops_from v1 a1 os) ≡ length os) → length (if x then home.Array (array_number a) ∷ tops_from v (a + 1) os else home.Variable (variable_number v) ∷ tops_from (v + 1) a os) ≡ suc (length os)
tops_length_step true v a os h = ap suc (h v (a + 1))
tops_length_step false v a os h = ap suc (h (v + 1) a)

pub tops_length : (os : List CoreObjectTree) (v a : ℕ) → length (tops_from v a os) ≡ length os
tops_length [] v a = refl
tops_length (o ∷ os) v a = tops_length_step (is_array o) v a os (λ v1 a1. tops_length os v1 a1)
