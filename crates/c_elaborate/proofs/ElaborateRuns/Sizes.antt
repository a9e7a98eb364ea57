-- The lengths of objects of programs without faults.
use Rattle.std.proofs.Common.{◌≡◌, ℕ, zero, suc, ◌+◌, ◌*◌, ◌^◌, ◌≤◌, ◌==◌, ◌&&◌, ◌||◌, not, ◌∙◌, sym, refl, ap, ap₂, subst, Bool, true, false, true≢false, if◌then◌else◌, nat_lt, nat_le, cond, is_none, pos, negsuc, List, [], ◌∷◌, ◌++◌, map, length, Option, Some, None, le_trans, le-leb, leb-true, ltb-false, arith}
use Rattle.std.specs.List.{count_by, list_any}
use Rattle.std.proofs.lemmas.List.{length-map}
use Rattle.std.proofs.lemmas.List.Sums.{sum_by-cons}
use Rattle.std.proofs.lemmas.Nat.{pow-add, pow_pos}
use Rattle.std.proofs.Math.Nat.{mul-le-mul_left, mul-le-mul_right}
use Rattle.hls_base.specs.declared.place.Place.{Place}
use Rattle.hls_base.specs.ArrayAddress.{element_count, subscript_bits, address_bits}
use Rattle.c_tree.specs.Tree.{Tree, ObjectTree}
use Rattle.c_meaning.specs.Checks.Faults.{fault_if}
use Rattle.c_meaning.specs.Checks.Lengths.{Length, number, left_out, no_constant, all_lengths, items_in, lengths_of, usable, all_usable, with_first, rounded_product, product_of, is_out_of_range, is_no_constant, has_bad_length, has_bad_shape, form_faults, is_variable}
use Rattle.c_meaning.specs.Store.{lengths_in, within_limits}
use Rattle.c_elaborate.specs.Homes.{Each}
use Rattle.c_elaborate.specs.Resolved.{HasLengths}

-- ---- lists without faults

pub left_nil : {A : Type 0} (xs ys : List A) → xs ++ ys ≡ [] → xs ≡ []
left_nil [] ys h = refl
left_nil (x ∷ xs) ys h = absurd cc

pub right_nil : {A : Type 0} (xs ys : List A) → xs ++ ys ≡ [] → ys ≡ []
right_nil [] ys h = h
right_nil (x ∷ xs) ys h = absurd cc

pub unbroken : (y : Bool) (rule : ℕ) (at : Place) → fault_if y rule at ≡ [] → y ≡ false
unbroken true rule at h = absurd cc
unbroken false rule at h = refl

pub neither : (a b : Bool) → (a || b) ≡ false → (a ≡ false) × (b ≡ false)
neither true b h = absurd (true≢false h)
neither false b h = (refl, h)

pub both_true : (a b : Bool) → (a && b) ≡ true → (a ≡ true) × (b ≡ true)
both_true true b h = (refl, h)
both_true false b h = absurd (true≢false (sym h))

pub holds : (y : Bool) → not y ≡ false → y ≡ true
holds true h = refl
holds false h = absurd (true≢false h)

-- ---- rounded lengths

-- so many numbers from this one on
abbrev rung : ℕ → ℕ → List ℕ
rung k zero = []
rung k (suc m) = k ∷ rung (suc k) m

step : (m k n : ℕ) (y : Bool) → nat_lt (2 ^ k) n ≡ y → n ≤ 2 ^ (suc k + count_by (λ j. nat_lt (2 ^ j) n) (rung (suc k) m)) → n ≤ 2 ^ (k + (cond y 1 0 + count_by (λ j. nat_lt (2 ^ j) n) (rung (suc k) m)))
step m k n true e rest = subst (λ x. n ≤ 2 ^ x) (let e : suc k + count_by (λ j. nat_lt (2 ^ j) n) (rung (suc k) m) ≡ k + (1 + count_by (λ j. nat_lt (2 ^ j) n) (rung (suc k) m)) = omega arith in e) rest
step m k n false e rest =
    let c = 0 + count_by (λ j. nat_lt (2 ^ j) n) (rung (suc k) m) in
    let low = ltb-false (2 ^ k) n e in
    let more : 2 ^ k * 1 ≤ 2 ^ k * 2 ^ c = mul-le-mul_left (2 ^ k) (pow_pos c) in
    subst (λ x. n ≤ x) (sym (pow-add 2 k c)) (omega (arith, low, more))

above : (m k n : ℕ) → n ≤ 2 ^ (k + m) → n ≤ 2 ^ (k + count_by (λ j. nat_lt (2 ^ j) n) (rung k m))
above zero k n le = le
above (suc m) k n le =
    subst (λ c. n ≤ 2 ^ (k + c)) (sym (sum_by-cons (λ j. cond (nat_lt (2 ^ j) n) 1 0) k (rung (suc k) m)))
    (step m k n (nat_lt (2 ^ k) n) refl (above m (suc k) n (subst (λ x. n ≤ 2 ^ x) (let e : k + suc m ≡ suc k + m = omega arith in e) le)))

within_bits : (n : ℕ) → n ≤ 65536 → n ≤ 2 ^ subscript_bits n
within_bits n le = above 15 1 n le

within_address : (ns : List ℕ) → Each (λ n. n ≤ 65536) ns → element_count ns ≤ 2 ^ address_bits ns
within_address [] h = omega arith
within_address (n ∷ ns) h =
    let a = mul-le-mul_right (element_count ns) (within_bits n h.0) in
    let b = mul-le-mul_left (2 ^ subscript_bits n) (within_address ns h.1) in
    subst (λ x. n * element_count ns ≤ x) (sym (pow-add 2 (subscript_bits n) (address_bits ns))) (le_trans a b)

-- ---- the lengths of an object

all_some : (ns : List ℕ) → all_usable (map (λ (n : ℕ). Some n) ns) ≡ Some ns
all_some [] = refl
all_some (n ∷ ns) = ap (with_first n) (all_some ns)

record Sizes (ls : List Length) : Type 0 where
  ns : List ℕ
  usables : map usable ls ≡ map (λ (n : ℕ). Some n) ns
  small : Each (λ n. n ≤ 65536) ns
  count : length ns ≡ length ls

one_size : (l : Length) → is_out_of_range l ≡ false → is_no_constant l ≡ false → (n : ℕ) × (usable l ≡ Some n) × (n ≤ 65536)
one_size left_out h g = absurd (true≢false h)
one_size no_constant h g = absurd (true≢false g)
one_size (number (negsuc n)) h g = absurd (true≢false h)
one_size (number (pos n)) h g = by (nat_lt 0 n && nat_le n 65536) refl h
  where
    by : (y : Bool) → (nat_lt 0 n && nat_le n 65536) ≡ y → is_none (if y then Some n else None) ≡ false → (m : ℕ) × ((if nat_lt 0 n && nat_le n 65536 then Some n else None) ≡ Some m) × (m ≤ 65536)
    by true e k = (n, ap (λ (z : Bool). if z then Some n else None) e, leb-true n 65536 (both_true (nat_lt 0 n) (nat_le n 65536) e).1)
    by false e k = absurd (true≢false k)

sizes : (ls : List Length) → list_any is_out_of_range ls ≡ false → list_any is_no_constant ls ≡ false → Sizes ls
sizes [] h g = record { ns = []; usables = refl; small = tt; count = refl }
sizes (l ∷ ls) h g =
    let a = neither (is_out_of_range l) (list_any is_out_of_range ls) h in
    let b = neither (is_no_constant l) (list_any is_no_constant ls) g in
    let one = one_size l a.0 b.0 in
    let rest = sizes ls a.1 b.1 in
    record { ns = one.0 ∷ rest.ns; usables = ap₂ ◌∷◌ one.1 rest.usables; small = (one.2, rest.small); count = ap suc rest.count }

lengths_kept : (items : Option ℕ) (ls : List (Option Tree)) → length (all_lengths items ls) ≡ length ls
lengths_kept items [] = refl
lengths_kept items (l ∷ ls) = ap suc (lengths_kept None ls)

-- What the lengths of an object are, which have no faults.
pub record Sized (o : ObjectTree) : Type 0 where
  pub are : map usable (lengths_of o) ≡ map (λ (n : ℕ). Some n) (lengths_in o)
  pub count : length (lengths_in o) ≡ length o.lengths

pub shape_count : (o : ObjectTree) → length (map usable (lengths_of o)) ≡ length o.lengths
shape_count o = length-map (lengths_of o) usable ∙ lengths_kept (items_in o.init) o.lengths

pub sized : (at_file : Bool) (o : ObjectTree) → form_faults at_file o ≡ [] → Sized o
sized at_file o h =
    let ls = lengths_of o in
    let first = unbroken (has_bad_length ls) 13 o.at (left_nil (fault_if (has_bad_length ls) 13 o.at) _ h) in
    let second = unbroken (list_any is_no_constant ls || (at_file && is_variable o.init)) 17 o.at (left_nil (fault_if (list_any is_no_constant ls || (at_file && is_variable o.init)) 17 o.at) _ (right_nil (fault_if (has_bad_length ls) 13 o.at) _ h)) in
    let a = neither (list_any is_out_of_range ls) (nat_lt 65536 (rounded_product (map usable ls))) first in
    let b = neither (list_any is_no_constant ls) (at_file && is_variable o.init) second in
    let s = sizes ls a.0 b.0 in
    let whole : all_usable (map usable ls) ≡ Some s.ns = ap all_usable s.usables ∙ all_some s.ns in
    let limit : 2 ^ address_bits s.ns ≤ 65536 = ltb-false 65536 (2 ^ address_bits s.ns) (subst (λ q. nat_lt 65536 (product_of q) ≡ false) whole a.1) in
    let few : nat_le (element_count s.ns) 65536 ≡ true = le-leb (element_count s.ns) 65536 (le_trans (within_address s.ns s.small) limit) in
    let is : lengths_in o ≡ s.ns = ap within_limits whole ∙ ap (λ (z : Bool). if z then s.ns else []) few in
    record {
      are = s.usables ∙ ap (map (λ (n : ℕ). Some n)) (sym is);
      count = ap length is ∙ (s.count ∙ lengths_kept (items_in o.init) o.lengths);
    }

pub shaped : (at_file : Bool) (o : ObjectTree) → form_faults at_file o ≡ [] → has_bad_shape (map usable (lengths_of o)) o.init ≡ false
shaped at_file o h =
    let ls = lengths_of o in
    unbroken (has_bad_shape (map usable ls) o.init) 22 o.at
    (right_nil (fault_if (list_any is_no_constant ls || (at_file && is_variable o.init)) 17 o.at) _ (right_nil (fault_if (has_bad_length ls) 13 o.at) _ h))

pub has_lengths : (o : ObjectTree) → Sized o → HasLengths o
has_lengths o s = ap (λ n. n == 0) s.count
