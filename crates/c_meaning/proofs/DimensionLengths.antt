-- Lengths of dimensions, one after another.
use Rattle.std.proofs.Common.{◌≡◌, ℕ, ◌*◌, ◌<◌, ◌≤◌, sym, refl, ap, List, [], ◌∷◌, ◌++◌, map, length, Option, Some, None, arith, append_assoc, subst, inl, inr, true, if◌then◌else◌}
use Rattle.std.specs.Prelude.{nat_le}
use Rattle.std.proofs.lemmas.Bool.{cases_Bool, cases_lt, le-leb, leb-true}
use Rattle.std.specs.List.{All}
use Rattle.std.proofs.lemmas.List.Elements.{All-head, All-tail}
use Rattle.std.proofs.Math.Nat.{mul-le-mul_left, mul-le-mul_right}
use Rattle.hls_base.specs.ArrayAddress.{element_count}
use Rattle.c_tree.specs.Tree.{Tree, InitTree, init_row}
use Rattle.c_meaning.specs.Checks.Lengths.{usable, length_of, all_lengths, all_usable, with_first, item_count}

-- these lengths before others, if those are there
abbrev pub before : List ℕ → Option (List ℕ) → Option (List ℕ)
before ns None = None
before ns (Some more) = Some (ns ++ more)

before-first : (ns : List ℕ) (n : ℕ) (o : Option (List ℕ)) → before ns (with_first n o) ≡ before (ns ++ n ∷ []) o
before-first ns n None = refl
before-first ns n (Some more) = ap (λ l. Some l) (sym (append_assoc ns (n ∷ []) more))

pub usable-found : (ns : List ℕ) (n : ℕ) (items : Option ℕ) (length : Option Tree) (lengths : List (Option Tree)) → usable (length_of items length) ≡ Some n
    → before ns (all_usable (map usable (all_lengths items (length ∷ lengths)))) ≡ before (ns ++ n ∷ []) (all_usable (map usable (all_lengths None lengths)))
usable-found ns n items length lengths e = rw e (before-first ns n (all_usable (map usable (all_lengths None lengths))))

pub usable-none : (ns : List ℕ) (items : Option ℕ) (length : Option Tree) (lengths : List (Option Tree)) → usable (length_of items length) ≡ None
    → before ns (all_usable (map usable (all_lengths items (length ∷ lengths)))) ≡ None
usable-none ns items length lengths e = rw e refl

pub item_count-length : (inits : List InitTree) → item_count (init_row inits) ≡ length inits
item_count-length [] = refl
item_count-length (i ∷ inits) = omega (arith, item_count-length inits)

-- each of the counts of inner rows is at most that of the whole
pub inner_count-le : (len : ℕ) (lengths : List ℕ) → 0 < len → element_count lengths ≤ element_count (len ∷ lengths)
inner_count-le len lengths h = omega (arith, mul-le-mul_right (element_count lengths) h)

positive_count : (lengths : List ℕ) → All (λ n. 0 < n) lengths → 0 < element_count lengths
positive_count [] h = omega arith
positive_count (len ∷ lengths) h =
    let P : ℕ → Type 0 = λ n. 0 < n in
    let rest = positive_count lengths (All-tail P len lengths h) in
    let le = inner_count-le len lengths (All-head P len lengths h) in
    omega (arith, rest, le)

-- the number of elements, if it is at most 65,536
abbrev limited : ℕ → Option ℕ
limited n = if nat_le n 65536 then Some n else None

too_many : (n : ℕ) → None ≡ limited n → 65536 < n
too_many n h = elim (cases_lt 65536 n) [ inl lt ↦ lt | inr le ↦ absurd (let e : nat_le n 65536 ≡ true = le-leb n 65536 le in let g : None ≡ Some n = rw e at h in cc) ]

over : (n : ℕ) → 65536 < n → None ≡ limited n
over n lt = elim (cases_Bool (nat_le n 65536)) [ inl t ↦ absurd (omega (arith, lt, leb-true n 65536 t)) | inr f ↦ rw f refl ]

exactly : (n m : ℕ) → Some m ≡ limited n → m ≡ n
exactly n m h = elim (cases_Bool (nat_le n 65536)) [ inl t ↦ (let g : Some m ≡ Some n = rw t at h in cc) | inr f ↦ absurd (let g : Some m ≡ None = rw f at h in cc) ]

pub many_inside : (lengths : List ℕ) (len : ℕ) (inner : List ℕ) → lengths ≡ len ∷ inner → All (λ n. 0 < n) lengths → None ≡ limited (element_count inner) → None ≡ limited (element_count lengths)
many_inside lengths len inner is h none =
    let g : All (λ n. 0 < n) (len ∷ inner) = subst (All (λ n. 0 < n)) is h in
    let le = inner_count-le len inner (All-head (λ n. 0 < n) len inner g) in
    subst (λ l. None ≡ limited (element_count l)) (sym is) (over (element_count (len ∷ inner)) (omega (arith, le, too_many (element_count inner) none)))

pub many_together : (lengths : List ℕ) (len : ℕ) (inner : List ℕ) (count : ℕ) → lengths ≡ len ∷ inner → All (λ n. 0 < n) lengths → Some count ≡ limited (element_count inner) → 65536 < len * count → None ≡ limited (element_count lengths)
many_together lengths len inner count is h some many =
    let e = exactly (element_count inner) count some in
    let over_ : 65536 < len * element_count inner = subst (λ k. 65536 < len * k) e many in
    subst (λ l. None ≡ limited (element_count l)) (sym is) (over (element_count (len ∷ inner)) over_)

pub many_wide : (lengths : List ℕ) (len : ℕ) (inner : List ℕ) → lengths ≡ len ∷ inner → All (λ n. 0 < n) lengths → 65536 < len → None ≡ limited (element_count lengths)
many_wide lengths len inner is h wide =
    let g : All (λ n. 0 < n) (len ∷ inner) = subst (All (λ n. 0 < n)) is h in
    let some = positive_count inner (All-tail (λ n. 0 < n) len inner g) in
    let le = mul-le-mul_left len some in
    subst (λ l. None ≡ limited (element_count l)) (sym is) (over (element_count (len ∷ inner)) (omega (arith, wide, le)))

pub ruleset dimensions = (item_count-length, usable-found, usable-none)
