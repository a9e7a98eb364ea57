-- Places in lists, and the elements that stand at the addresses of arrays.
use Rattle.std.proofs.Common.{◌≡◌, ◌<◌, ◌≤◌, ℕ, zero, suc, ◌+◌, ◌*◌, ◌^◌, ◌==◌, List, [], ◌∷◌, ◌++◌, map, length, get_or, Some, refl, ap, ◌∙◌, subst, arith}
use Rattle.std.specs.Prelude.{slice_get, slice_set}
use Rattle.std.specs.List.{position_from}
use Rattle.std.proofs.Math.Seq.{get_or-append_seam, set-append_seam}
use Rattle.std.proofs.lemmas.Bool.{eq-eqb, ne_eqb, cond-true, cond-false}
use Rattle.std.proofs.lemmas.Iterator.Adapters.{position_from-zero}
use Rattle.std.proofs.lemmas.List.{length-map, length-append}
use Rattle.hls_base.specs.ArrayAddress.{row_addresses, addresses, address_bits, element_count, element_at}
use Rattle.ir_core.specs.AddressWords.{AreShort, AreRising}
use Rattle.ir_core.proofs.Rising.{rising-bound, addresses-rise}

-- ---- what stands behind so many others

pub there : {A : Type 0} (before after : List A) (x d : A) (k : ℕ) → length before ≡ k → get_or (before ++ x ∷ after) k d ≡ x
there before after x d k e = subst (λ n. get_or (before ++ x ∷ after) n d ≡ x) e (get_or-append_seam before x after d)

pub set_there : {A : Type 0} (before after : List A) (x y : A) (k : ℕ) → length before ≡ k → slice_set (before ++ x ∷ after) k y ≡ before ++ y ∷ after
set_there before after x y k e = subst (λ n. slice_set (before ++ x ∷ after) n y ≡ before ++ y ∷ after) e (set-append_seam before x after y)

got_at : {A : Type 0} (before after : List A) (x : A) → slice_get (before ++ x ∷ after) (length before) ≡ Some x
got_at [] after x = refl
got_at (y ∷ before) after x = got_at before after x

pub got_there : {A : Type 0} (whole before after : List A) (x : A) (k : ℕ) → whole ≡ before ++ x ∷ after → length before ≡ k → slice_get whole k ≡ Some x
got_there whole before after x k is e = ap (λ l. slice_get l k) is ∙ subst (λ n. slice_get (before ++ x ∷ after) n ≡ Some x) e (got_at before after x)

pub one_longer : {A : Type 0} (before : List A) (x : A) → length (before ++ x ∷ []) ≡ suc (length before)
one_longer before x = length-append before (x ∷ []) ∙ (let e : length before + 1 ≡ suc (length before) = omega arith in e)

-- ---- elements

rising_there : (lo hi a : ℕ) (front rest : List ℕ) → AreRising lo (front ++ a ∷ rest) hi → (lo ≤ a) × (a < hi)
rising_there lo hi a [] rest r = (r.0, let b = rising-bound (suc a) hi rest r.1 in omega (arith, b))
rising_there lo hi a (x ∷ front) rest r =
    let later = rising_there (suc x) hi a front rest r.1 in
    let first = r.0 in
    (omega (arith, first, later.0), later.1)

found_there : (lo hi i a : ℕ) (front rest : List ℕ) → AreRising lo (front ++ a ∷ rest) hi → position_from (λ b. b == a) i (front ++ a ∷ rest) ≡ Some (i + length front)
found_there lo hi i a [] rest r = cond-true _ _ _ (eq-eqb a a refl) ∙ ap (λ n. Some n) (let e : i ≡ i + 0 = omega arith in e)
found_there lo hi i a (x ∷ front) rest r =
    let later = (rising_there (suc x) hi a front rest r.1).0 in
    cond-false _ _ _ (ne_eqb x a (λ e. omega (arith, e, later)))
    ∙ found_there (suc x) hi (i + 1) a front rest r.1
    ∙ ap (λ n. Some n) (let e : i + 1 + length front ≡ i + suc (length front) = omega arith in e)

module _ (dims front rest : List ℕ) (a : ℕ) (short : AreShort dims) (is : addresses dims ≡ front ++ a ∷ rest) where
  rising : AreRising 0 (front ++ a ∷ rest) (2 ^ address_bits dims)
  rising = subst (λ l. AreRising 0 l (2 ^ address_bits dims)) is (addresses-rise dims short)

  -- the element at an address is the one of the same number
  pub element_there : element_at dims a ≡ Some (length front)
  element_there =
      position_from-zero (λ b. b == a) (addresses dims) ∙ ap (position_from (λ b. b == a) 0) is ∙ found_there 0 (2 ^ address_bits dims) 0 a front rest rising
      ∙ ap (λ n. Some n) (let e : 0 + length front ≡ length front = omega arith in e)

  pub address_below : a < 2 ^ address_bits dims
  address_below = (rising_there 0 (2 ^ address_bits dims) a front rest rising).1

-- ---- how many there are

row_count : (bits : ℕ) (row : List ℕ) (i n : ℕ) → length (row_addresses bits row i n) ≡ n * length row
row_count bits row i zero = omega arith
row_count bits row i (suc n) =
    let low = λ (low : ℕ). i * 2 ^ bits + low in
    let rest = row_count bits row (suc i) n in
    let first = length-map row low in
    length-append (map low row) (row_addresses bits row (suc i) n) ∙ omega (arith, rest, first)

pub address_count : (dims : List ℕ) → length (addresses dims) ≡ element_count dims
address_count [] = refl
address_count (len ∷ dims) = row_count (address_bits dims) (addresses dims) 0 len ∙ ap (λ n. len * n) (address_count dims)
