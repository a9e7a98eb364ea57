-- A module that means a valid circuit has no fault: declarations, header and slots.
use Rattle.std.proofs.Common.{◌≡◌, ◌≢◌, inl, inr, ℕ, zero, suc, ◌+◌, ◌^◌, ◌<◌, ◌≤◌, Bool, true, false, not, ◌&&◌, ◌||◌, cond, ltb, leb, List, [], ◌∷◌, ◌++◌, length, map, take, get_or, Option, Some, None, append_assoc, append-nil, refl, sym, ap, ◌∙◌, subst, arith, get_or-set_same, get_or-set_other}
use Rattle.std.specs.Prelude.{slice_get, slice_set, is_some, bytes_eq, IsPermutation}
use Rattle.std.specs.List.{All, list_any, sum_by}
use Rattle.std.proofs.lemmas.Bool.{false≢true, cases_Bool, cases_eq, cases_order, lt-ltb, le-leb, eq-eqb, ne_eqb, and_from}
use Rattle.std.proofs.lemmas.Option.{none-some, same_Some}
use Rattle.std.proofs.lemmas.List.Elements.{All-nil, All-cons, All-head, All-tail}
use Rattle.std.proofs.lemmas.List.Sums.{sum_by-cons}
use Rattle.std.proofs.lemmas.List.Sorted.{sum_by-IsPermutation}
use Rattle.rtl_core.specs.declared.design.Wire.{Wire}
use Rattle.rtl_core.specs.Netlist.{Netlist}
use Rattle.rtl_core.specs.ClockStep.{widths_after}
use Rattle.rtl_core.specs.Valid.{IsBetween, AreDistinct, NetFits, WiresFit}
use Rattle.rtl_core.specs.ModuleTokens.{number_value}
use Rattle.rtl_core.specs.ModuleText.{InOrder, none, another}
use Rattle.verilog_read.specs.declared.names.Sort.{Sort}
use Rattle.verilog_read.specs.declared.names.Sort.TheVariants as sort
use Rattle.verilog_read.specs.declared.names.Entry.{Entry}
use Rattle.verilog_read.specs.Numbers.{declared_bits, log_from, depth_of}
use Rattle.verilog_syntax.specs.PlacedSyntax.{PlacedName, PlacedDeclared, PlacedMemory, PlacedWire}
use Rattle.verilog_read.specs.Scope.{Scope, Declaration, declared_from, memories_from, wires_from, with_entry}
use Rattle.verilog_read.specs.Faults.{unless, allowed, declaration_faults, declared_faults, turn_faults, lacking_faults, Slots, slot, is_free, filled, filled_by, never_faults}
use Rattle.verilog_read.proofs.NoFaults.{none_both, unless_none}
use Rattle.verilog_syntax.proofs.Unplaced.{name_plain}
use Rattle.verilog_read.proofs.Declared.{names_of, bytes_same, same_bytes, IsAllowed}
use Rattle.verilog_read.proofs.Distinct.{place_among, all_among, distinct_places}
use Rattle.verilog_read.proofs.Slots.{fills, IsFree, AreFree, by_long, fills_keep}
use Rattle.verilog_read.proofs.OneCircuit.{same_log}

-- ---- lists

pub take_back : {X : Type 0} (xs : List X) (n k : ℕ) (x : X) → slice_get (take n xs) k ≡ Some x → (k < n) × (slice_get xs k ≡ Some x)
take_back [] zero k x e = absurd (none-some x e)
take_back [] (suc n) k x e = absurd (none-some x e)
take_back (y ∷ xs) zero k x e = absurd (none-some x e)
take_back (y ∷ xs) (suc n) zero x e = (omega arith, e)
take_back (y ∷ xs) (suc n) (suc k) x e = let r = take_back xs n k x e in (omega (arith, r.0), r.1)

pub in_order_of : {A B : Type 0} (R : A → B → Type 0) (xs : List A) (ys : List B) → InOrder R xs ys → (k : ℕ) (x : A) → slice_get xs k ≡ Some x → (y : B) × (slice_get ys k ≡ Some y) × R x y
in_order_of R _ _ none k x e = absurd (none-some x e)
in_order_of R _ _ (another u y us ys h hs) zero x e = (y, refl, subst (λ z. R z y) (same_Some u x e) h)
in_order_of R _ _ (another u y us ys h hs) (suc k) x e = in_order_of R us ys hs k x e

pub any_true : {A : Type 0} (p : A → Bool) (xs : List A) (k : ℕ) (x : A) → slice_get xs k ≡ Some x → p x ≡ true → list_any p xs ≡ true
any_true p [] k x e h = absurd (none-some x e)
any_true p (y ∷ ys) zero x e h = ap (λ z. p z || list_any p ys) (same_Some y x e) ∙ ap (λ b. b || list_any p ys) h
any_true p (y ∷ ys) (suc k) x e h = ap (λ b. p y || b) (any_true p ys k x e h) ∙ or_true (p y)
  where
    or_true : (b : Bool) → (b || true) ≡ true
    or_true true = refl
    or_true false = refl

pub wires_at : (d : Netlist) (before ws : List Wire) → WiresFit d before ws → (k : ℕ) (w : Wire) → slice_get ws k ≡ Some w → IsBetween 1 128 w.bits × NetFits (widths_after d (before ++ take k ws)) d.mems w.bits w.net
wires_at d before [] h k w e = absurd (none-some w e)
wires_at d before (v ∷ ws) h zero w e =
    subst (λ x. IsBetween 1 128 x.bits × NetFits (widths_after d (before ++ [])) d.mems x.bits x.net) (same_Some v w e)
    (h.0, subst (λ b. NetFits (widths_after d b) d.mems v.bits v.net) (sym (append-nil before)) h.1)
wires_at d before (v ∷ ws) h (suc k) w e =
    let r = wires_at d (before ++ v ∷ []) ws h.2 k w e in (r.0, subst (λ b. NetFits (widths_after d b) d.mems w.bits w.net) (append_assoc before (v ∷ []) (take k ws)) r.1)

-- ---- lists with the same elements have no repetition together

abbrev one_if : List ℕ → List ℕ → ℕ
one_if z y = cond (bytes_eq z y) 1 0

one_same : (z y : List ℕ) → z ≡ y → one_if z y ≡ 1
one_same z y e = ap (λ b. cond b 1 0) (bytes_same z y e)

one_when : (z y : List ℕ) → bytes_eq z y ≡ true → one_if z y ≡ 1
one_when z y e = ap (λ b. cond b 1 0) e

zero_when : (z y : List ℕ) → bytes_eq z y ≡ false → one_if z y ≡ 0
zero_when z y e = ap (λ b. cond b 1 0) e

counted_once : (z : List ℕ) (ys : List (List ℕ)) → AreDistinct ys → sum_by (one_if z) ys ≤ 1
counted_once z [] d = omega arith
counted_once z (y ∷ ys) d =
    elim (cases_Bool (bytes_eq z y)) [
      | inl t ↦
          let nothing : sum_by (one_if z) ys ≡ 0 = never z ys (λ k x e same. all_among (λ v. y ≢ v) ys x d.0 (place_among ys k x e) (sym (same_bytes z y t) ∙ same)) in
          omega (arith, sum_by-cons (one_if z) y ys, nothing, one_when z y t)
      | inr f ↦ omega (arith, sum_by-cons (one_if z) y ys, counted_once z ys d.1, zero_when z y f)
    ]
  where
    never : (z : List ℕ) (vs : List (List ℕ)) → ((k : ℕ) (x : List ℕ) → slice_get vs k ≡ Some x → z ≡ x → ⊥) → sum_by (one_if z) vs ≡ 0
    never z [] h = refl
    never z (v ∷ vs) h =
        elim (cases_Bool (bytes_eq z v)) [
          | inl t ↦ absurd (h 0 v refl (same_bytes z v t))
          | inr f ↦ omega (arith, sum_by-cons (one_if z) v vs, never z vs (λ k x e same. h (suc k) x e same), zero_when z v f)
        ]

counted_some : (z : List ℕ) (ys : List (List ℕ)) (k : ℕ) → slice_get ys k ≡ Some z → 1 ≤ sum_by (one_if z) ys
counted_some z [] k e = absurd (none-some z e)
counted_some z (y ∷ ys) zero e = omega (arith, sum_by-cons (one_if z) y ys, one_same z y (sym (same_Some y z e)))
counted_some z (y ∷ ys) (suc k) e = omega (arith, sum_by-cons (one_if z) y ys, counted_some z ys k e)

counted_twice : (z : List ℕ) (ys : List (List ℕ)) (j k : ℕ) → j < k → slice_get ys j ≡ Some z → slice_get ys k ≡ Some z → 2 ≤ sum_by (one_if z) ys
counted_twice z [] j k low a b = absurd (none-some z a)
counted_twice z (y ∷ ys) zero zero low a b = absurd (omega arith)
counted_twice z (y ∷ ys) zero (suc k) low a b = omega (arith, sum_by-cons (one_if z) y ys, one_same z y (sym (same_Some y z a)), counted_some z ys k b)
counted_twice z (y ∷ ys) (suc j) zero low a b = absurd (omega arith)
counted_twice z (y ∷ ys) (suc j) (suc k) low a b = omega (arith, sum_by-cons (one_if z) y ys, counted_twice z ys j k (omega arith) a b)

pub permuted_apart : (xs ys : List (List ℕ)) → IsPermutation xs ys → AreDistinct ys → AreDistinct xs
permuted_apart xs ys p d =
    distinct_places xs
    (λ j k z a b.
    let total = sum_by-IsPermutation (one_if z) xs ys p in
    let most = counted_once z ys d in
    elim (cases_order j k) [
      | inl same ↦ same
      | inr (inl low) ↦ absurd (omega (arith, total, most, counted_twice z xs j k low a b))
      | inr (inr low) ↦ absurd (omega (arith, total, most, counted_twice z xs k j low b a))
    ])

-- ---- declarations

pub declared_none : (scope : Scope) (ds : List Declaration) → All (λ name. scope name ≡ None) (names_of ds) → AreDistinct (names_of ds) → All IsAllowed ds → declared_faults scope ds ≡ []
declared_none scope [] free apart all = refl
declared_none scope (d ∷ ds) free apart all =
    let next = with_entry scope d.name.text d.entry in
    let twice = unless_none (not (is_some (scope d.name.text))) 52 d.name.place (ap (λ o. not (is_some o)) (All-head (λ name. scope name ≡ None) d.name.text (names_of ds) free)) in
    let wide = unless_none (allowed d.entry.sort d.entry.bits d.entry.depth) 53 d.name.place (All-head IsAllowed d ds all) in
    let rest : All (λ name. next name ≡ None) (names_of ds) =
    (λ k q lt.
    let at = get_or (names_of ds) k q in
    let here : scope at ≡ None = All-tail (λ name. scope name ≡ None) d.name.text (names_of ds) free k q lt in
    let other : bytes_eq at d.name.text ≡ false = differs at d.name.text (λ e. apart.0 k q lt (sym e)) in
    ap (λ o. cond (is_some o) o (cond (bytes_eq at d.name.text) (Some d.entry) None)) here ∙ ap (λ b. cond b (Some d.entry) None) other) in
    none_both (declaration_faults scope d) (declared_faults next ds) (none_both (unless (not (is_some (scope d.name.text))) 52 d.name.place) _ twice wide) (declared_none next ds rest apart.1 (All-tail IsAllowed d ds all))
  where
    differs : (x y : List ℕ) → (x ≡ y → ⊥) → bytes_eq x y ≡ false
    differs x y h = elim (cases_Bool (bytes_eq x y)) [ inl t ↦ absurd (h (same_bytes x y t)) | inr f ↦ f ]

pub section_allowed : (s : Sort) (j : ℕ) (xs : List PlacedDeclared) → ((k : ℕ) (x : PlacedDeclared) → slice_get xs k ≡ Some x → allowed s (declared_bits x.high) None ≡ true) → All IsAllowed (declared_from s j xs)
section_allowed s j [] h = All-nil IsAllowed
section_allowed s j (x ∷ xs) h = All-cons IsAllowed _ (declared_from s (j + 1) xs) (h 0 x refl) (section_allowed s (j + 1) xs (λ k y e. h (suc k) y e))

pub memories_allowed : (j : ℕ) (xs : List PlacedMemory) → ((k : ℕ) (x : PlacedMemory) → slice_get xs k ≡ Some x → allowed sort.Memory (declared_bits x.high) (depth_of x.last) ≡ true) → All IsAllowed (memories_from j xs)
memories_allowed j [] h = All-nil IsAllowed
memories_allowed j (x ∷ xs) h = All-cons IsAllowed _ (memories_from (j + 1) xs) (h 0 x refl) (memories_allowed (j + 1) xs (λ k y e. h (suc k) y e))

pub wires_allowed : (j : ℕ) (xs : List PlacedWire) → ((k : ℕ) (x : PlacedWire) → slice_get xs k ≡ Some x → allowed sort.Wire (declared_bits x.high) None ≡ true) → All IsAllowed (wires_from j xs)
wires_allowed j [] h = All-nil IsAllowed
wires_allowed j (x ∷ xs) h = All-cons IsAllowed _ (wires_from (j + 1) xs) (h 0 x refl) (wires_allowed (j + 1) xs (λ k y e. h (suc k) y e))

pub bits_exact : (high : List ℕ) → suc (number_value high) ≤ 128 → declared_bits high ≡ suc (number_value high)
bits_exact high h = omega (arith, h)

pub between_true : (low high n : ℕ) → IsBetween low high n → (leb low n && leb n high) ≡ true
between_true low high n h = and_from (leb low n) (leb n high) (le-leb low n h.0) (le-leb n high h.1)

pub log_found : (n k depth r : ℕ) → depth ≡ 2 ^ r → k ≤ r → r < k + n → log_from n k depth ≡ Some r
log_found zero k depth r e low high = absurd (omega (arith, low, high))
log_found (suc n) k depth r e low high =
    elim (cases_eq k r) [
      | inl same ↦ ap (λ b. cond b (Some k) (log_from n (k + 1) depth)) (eq-eqb depth (2 ^ k) (e ∙ ap (λ x. 2 ^ x) (sym same))) ∙ ap Some same
      | inr other ↦
          ap (λ b. cond b (Some k) (log_from n (k + 1) depth)) (ne_eqb depth (2 ^ k) (λ f. other (same_log k r (sym f ∙ e))))
          ∙ log_found n (k + 1) depth r e (omega (arith, low, other_low k r low other)) (omega (arith, high))
    ]
  where
    other_low : (k r : ℕ) → k ≤ r → (k ≡ r → ⊥) → k < r
    other_low k r low other = elim (cases_order k r) [ inl same ↦ absurd (other same) | inr (inl h) ↦ h | inr (inr h) ↦ absurd (omega (arith, h, low)) ]

-- ---- the header

pub header_none : (xs : List PlacedName) (ds : List Declaration) → map name_plain xs ≡ names_of ds → (turn_faults xs ds ≡ []) × (lacking_faults xs ds ≡ [])
header_none [] [] e = (refl, refl)
header_none [] (d ∷ ds) e = absurd cc
header_none (x ∷ xs) [] e = absurd cc
header_none (x ∷ xs) (d ∷ ds) e =
    let head : x.text ≡ d.name.text = cc in
    let tail : map name_plain xs ≡ names_of ds = cc in
    let r = header_none xs ds tail in (
      none_both (unless (bytes_eq d.name.text x.text) 52 x.place) (turn_faults xs ds) (unless_none (bytes_eq d.name.text x.text) 52 x.place (bytes_same d.name.text x.text (sym head))) r.0,
      none_both (unless (ltb 0 (length (x ∷ xs))) 52 d.name.place) (lacking_faults xs ds) (unless_none (ltb 0 (length (x ∷ xs))) 52 d.name.place (lt-ltb 0 (length (x ∷ xs)) (omega arith))) r.1,
    )

-- ---- slots

none_free : (slots : Slots) (k : ℕ) → slot slots k ≡ None → is_free slots k ≡ true
none_free slots k e = ap (λ o. not (is_some o)) e

filled_other : (slots : Slots) (k x n : ℕ) → (n ≡ k → ⊥) → slot slots n ≡ None → slot (filled slots k x) n ≡ None
filled_other slots k x n other e =
    elim (cases_Bool (is_free slots k)) [
      | inl t ↦ ap (λ s. slot s n) (ap (λ b. cond b (slice_set slots k (Some x)) slots) t) ∙ (get_or-set_other slots k n (Some x) None other ∙ e)
      | inr f ↦ ap (λ s. slot s n) (ap (λ b. cond b (slice_set slots k (Some x)) slots) f) ∙ e
    ]

by_other : (slots : Slots) (o : Option Entry) (x n : ℕ) → ((e : Entry) → o ≡ Some e → n ≡ e.number → ⊥) → slot slots n ≡ None → slot (filled_by slots o x) n ≡ None
by_other slots None x n other e = e
by_other slots (Some f) x n other e = filled_other slots f.number x n (other f refl) e

is_none_free : (slots : Slots) (o : Option Entry) → ((e : Entry) → o ≡ Some e → slot slots e.number ≡ None) → IsFree slots o
is_none_free slots None h = tt
is_none_free slots (Some e) h = none_free slots e.number (h e refl)

-- targets with different numbers, where their slots are free
pub all_free : (slots : Slots) (i : ℕ) (os : List (Option Entry)) → ((j : ℕ) (e : Entry) → slice_get os j ≡ Some (Some e) → slot slots e.number ≡ None)
    → ((j k : ℕ) (e f : Entry) → slice_get os j ≡ Some (Some e) → slice_get os k ≡ Some (Some f) → e.number ≡ f.number → j ≡ k) → AreFree slots i os
all_free slots i [] free apart = tt
all_free slots i (o ∷ os) free apart = (
  is_none_free slots o (λ e s. free 0 e (ap Some s)),
  all_free (filled_by slots o i) (i + 1) os
      (λ j e at. by_other slots o i e.number (λ f s same. absurd (no_zero (suc j) (apart (suc j) 0 e f at (ap Some s) same) (omega arith))) (free (suc j) e at))
      (λ j k e f a b same. let up : suc j ≡ suc k = apart (suc j) (suc k) e f a b same in omega (arith, up)),
)
  where
    no_zero : (n : ℕ) → n ≡ 0 → 0 < n → ⊥
    no_zero n e h = omega (arith, e, h)

-- a target fills its slot, if that is not filled before
pub fills_some : (slots : Slots) (i : ℕ) (os : List (Option Entry)) (j : ℕ) (e : Entry) → slice_get os j ≡ Some (Some e) → e.number < length slots → is_some (slot (fills slots i os) e.number) ≡ true
fills_some slots i [] j e at low = absurd (none-some (Some e) at)
fills_some slots i (o ∷ os) zero e at low =
    let same : o ≡ Some e = same_Some o (Some e) at in
    let r = first_some slots e i low in
    ap is_some (ap (λ p. slot (fills (filled_by slots p i) (i + 1) os) e.number) same ∙ fills_keep (filled slots e.number i) (i + 1) os e.number r.0 r.1)
  where
    first_some : (s : Slots) (e : Entry) (i : ℕ) → e.number < length s → (y : ℕ) × (slot (filled s e.number i) e.number ≡ Some y)
    first_some s e i low =
        elim (cases_Bool (is_free s e.number)) [
          | inl t ↦ (i, ap (λ x. slot x e.number) (ap (λ b. cond b (slice_set s e.number (Some i)) s) t) ∙ get_or-set_same s e.number (Some i) None low)
          | inr f ↦ let y = there (slot s e.number) f in (y.0, ap (λ x. slot x e.number) (ap (λ b. cond b (slice_set s e.number (Some i)) s) f) ∙ y.1)
        ]
      where
        there : (o : Option ℕ) → not (is_some o) ≡ false → (y : ℕ) × (o ≡ Some y)
        there None h = absurd (false≢true (sym h))
        there (Some y) h = (y, refl)
fills_some slots i (o ∷ os) (suc j) e at low = fills_some (filled_by slots o i) (i + 1) os j e at (omega (arith, low, by_long slots o i))

pub never_absent : (slots : Slots) (i : ℕ) (xs : List PlacedName) → ((k : ℕ) → k < length xs → is_some (slot slots (i + k)) ≡ true) → never_faults slots i xs ≡ []
never_absent slots i [] h = refl
never_absent slots i (x ∷ xs) h =
    let sum : i + 0 ≡ i = omega arith in
    none_both (unless (is_some (slot slots i)) 54 x.place) (never_faults slots (i + 1) xs) (unless_none (is_some (slot slots i)) 54 x.place (subst (λ n. is_some (slot slots n) ≡ true) sum (h 0 (omega arith))))
    (never_absent slots (i + 1) xs (λ k low. let next : i + suc k ≡ i + 1 + k = omega arith in subst (λ n. is_some (slot slots n) ≡ true) next (h (suc k) (omega arith))))
