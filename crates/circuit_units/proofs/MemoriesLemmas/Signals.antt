-- The signals at the ports of arrays.
use Rattle.std.proofs.Common.{◌≡◌, ◌⊎◌, inl, inr, ℕ, zero, suc, ◌+◌, List, [], ◌∷◌, ◌++◌, length, slice_get, Some, refl, sym, ap, ◌∙◌, subst, arith}
use Rattle.std.specs.Prelude.{flat_map, get_or}
use Rattle.std.specs.List.{All, enumerate_from}
use Rattle.std.proofs.lemmas.List.{append-nil}
use Rattle.std.proofs.lemmas.List.Elements.{All-nil, All-get_or, All-from_get_or}
use Rattle.std.proofs.lemmas.Grind.{flat_map-append}
use Rattle.std.proofs.lemmas.Option.{none-some, same_Some, slice_get_within, get_or_from_slice_get, slice_get-get_or}
use Rattle.rtl_core.proofs.Stability.{get_same}
use Rattle.datapath.specs.Cycles.{AddressOf, StoredOf}
use Rattle.circuit_context.specs.Wanted.Driving.{Seen}
use Rattle.circuit_units.specs.declared.memories.memories.PortWires.{PortWires}
use Rattle.circuit_units.specs.Memories.{port_signals, array_signals}

-- ---- lists within others

abbrev pub Within : List Seen → List Seen → Type 0
Within xs ys = (k : ℕ) (x : Seen) → slice_get xs k ≡ Some x → (j : ℕ) × (slice_get ys j ≡ Some x)

pub within_first : (xs ys : List Seen) → Within xs (xs ++ ys)
within_first xs ys k x at = (k, get_same xs (xs ++ ys) ys k x refl at)

pub within_last : (xs ys : List Seen) → Within ys (xs ++ ys)
within_last xs ys k x at = (length xs + k, behind xs k at) where
  behind : (zs : List Seen) (k : ℕ) → slice_get ys k ≡ Some x → slice_get (zs ++ ys) (length zs + k) ≡ Some x
  behind [] k at = let e : 0 + k ≡ k = omega arith in ap (slice_get ys) e ∙ at
  behind (z ∷ zs) k at = let e : suc (length zs) + k ≡ suc (length zs + k) = omega arith in ap (slice_get (z ∷ zs ++ ys)) e ∙ behind zs k at

-- a signal of both is one of the first or of the last
pub one_of : (xs ys : List Seen) (k : ℕ) (x : Seen) → slice_get (xs ++ ys) k ≡ Some x → ((j : ℕ) × (slice_get xs j ≡ Some x)) ⊎ ((j : ℕ) × (slice_get ys j ≡ Some x))
one_of [] ys k x at = inr (k, at)
one_of (z ∷ xs) ys zero x at = inl (0, at)
one_of (z ∷ xs) ys (suc k) x at = later (one_of xs ys k x at) where
  later : ((j : ℕ) × (slice_get xs j ≡ Some x)) ⊎ ((j : ℕ) × (slice_get ys j ≡ Some x)) → ((j : ℕ) × (slice_get (z ∷ xs) j ≡ Some x)) ⊎ ((j : ℕ) × (slice_get ys j ≡ Some x))
  later (inl first) = inl (suc first.0, first.1)
  later (inr last) = inr last

-- what holds of all holds of those within
pub all_within : (P : Seen → Type 0) (xs ys : List Seen) → Within xs ys → All P ys → All P xs
all_within P [] ys within h = All-nil P
all_within P (x ∷ xs) ys within h = All-from_get_or P (x ∷ xs) x (λ i less.
    let at : slice_get (x ∷ xs) i ≡ Some (get_or (x ∷ xs) i x) = slice_get-get_or (x ∷ xs) i x less in
    let there = within i (get_or (x ∷ xs) i x) at in
    let inside = slice_get_within ys there.0 (get_or (x ∷ xs) i x) there.1 in
    subst P (get_or_from_slice_get ys there.0 (get_or (x ∷ xs) i x) x there.1) (All-get_or P ys there.0 x inside h))

-- ---- the signals of one array

-- the signals from port number m on
abbrev from_port : ℕ → ℕ → List PortWires → List Seen
from_port a m wires = flat_map (port_signals a) (enumerate_from m wires)

address_from : (a m n : ℕ) (wires : List PortWires) (w : PortWires) → slice_get wires n ≡ Some w → (k : ℕ) × (slice_get (from_port a m wires) k ≡ Some (AddressOf a (m + n), w.address))
address_from a m n [] w at = absurd (none-some w at)
address_from a m zero (v ∷ wires) w at =
    let e : m ≡ m + 0 = omega arith in
    (0, ap (λ (u : PortWires). Some (AddressOf a m, u.address)) (same_Some v w at) ∙ ap (λ (i : ℕ). Some (AddressOf a i, w.address)) e)
address_from a m (suc n) (v ∷ wires) w at =
    let e : m + 1 + n ≡ m + suc n = omega arith in
    let there = address_from a (m + 1) n wires w at in (suc (suc there.0), there.1 ∙ ap (λ (i : ℕ). Some (AddressOf a i, w.address)) e)

stored_from : (a m n : ℕ) (wires : List PortWires) (w : PortWires) → slice_get wires n ≡ Some w → (k : ℕ) × (slice_get (from_port a m wires) k ≡ Some (StoredOf a (m + n), w.stored))
stored_from a m n [] w at = absurd (none-some w at)
stored_from a m zero (v ∷ wires) w at =
    let e : m ≡ m + 0 = omega arith in
    (1, ap (λ (u : PortWires). Some (StoredOf a m, u.stored)) (same_Some v w at) ∙ ap (λ (i : ℕ). Some (StoredOf a i, w.stored)) e)
stored_from a m (suc n) (v ∷ wires) w at =
    let e : m + 1 + n ≡ m + suc n = omega arith in
    let there = stored_from a (m + 1) n wires w at in (suc (suc there.0), there.1 ∙ ap (λ (i : ℕ). Some (StoredOf a i, w.stored)) e)

pub address_there : (a n : ℕ) (wires : List PortWires) (w : PortWires) → slice_get wires n ≡ Some w → (k : ℕ) × (slice_get (array_signals (a, wires)) k ≡ Some (AddressOf a n, w.address))
address_there a n wires w at =
    let e : 0 + n ≡ n = omega arith in
    let there = address_from a 0 n wires w at in (there.0, there.1 ∙ ap (λ (i : ℕ). Some (AddressOf a i, w.address)) e)

pub stored_there : (a n : ℕ) (wires : List PortWires) (w : PortWires) → slice_get wires n ≡ Some w → (k : ℕ) × (slice_get (array_signals (a, wires)) k ≡ Some (StoredOf a n, w.stored))
stored_there a n wires w at =
    let e : 0 + n ≡ n = omega arith in
    let there = stored_from a 0 n wires w at in (there.0, there.1 ∙ ap (λ (i : ℕ). Some (StoredOf a i, w.stored)) e)

-- a signal of an array is the address or the stored word at a port
at_from : (a m k : ℕ) (wires : List PortWires) (x : Seen) → slice_get (from_port a m wires) k ≡ Some x
    → (n : ℕ) × (w : PortWires) × (slice_get wires n ≡ Some w) × ((x ≡ (AddressOf a (m + n), w.address)) ⊎ (x ≡ (StoredOf a (m + n), w.stored)))
at_from a m k [] x at = absurd (none-some x at)
at_from a m zero (v ∷ wires) x at =
    let e : m ≡ m + 0 = omega arith in (0, v, refl, inl (sym (same_Some (AddressOf a m, v.address) x at) ∙ ap (λ (i : ℕ). (AddressOf a i, v.address)) e))
at_from a m (suc zero) (v ∷ wires) x at =
    let e : m ≡ m + 0 = omega arith in (0, v, refl, inr (sym (same_Some (StoredOf a m, v.stored) x at) ∙ ap (λ (i : ℕ). (StoredOf a i, v.stored)) e))
at_from a m (suc (suc k)) (v ∷ wires) x at =
    let there = at_from a (m + 1) k wires x at in
    let e : m + 1 + there.0 ≡ m + suc there.0 = omega arith in
    (suc there.0, there.1, there.2, subst (λ (i : ℕ). (x ≡ (AddressOf a i, there.1.address)) ⊎ (x ≡ (StoredOf a i, there.1.stored))) e there.3)

pub at_port_of : (a k : ℕ) (wires : List PortWires) (x : Seen) → slice_get (array_signals (a, wires)) k ≡ Some x
    → (n : ℕ) × (w : PortWires) × (slice_get wires n ≡ Some w) × ((x ≡ (AddressOf a n, w.address)) ⊎ (x ≡ (StoredOf a n, w.stored)))
at_port_of a k wires x at =
    let there = at_from a 0 k wires x at in
    let e : 0 + there.0 ≡ there.0 = omega arith in
    (there.0, there.1, there.2, subst (λ (i : ℕ). (x ≡ (AddressOf a i, there.1.address)) ⊎ (x ≡ (StoredOf a i, there.1.stored))) e there.3)

-- ---- the signals of several arrays

abbrev pub signals_in : List (List PortWires) → List Seen
signals_in tables = flat_map array_signals (enumerate_from 0 tables)

enumerate_more : {X : Type 0} (k : ℕ) (xs : List X) (x : X) → enumerate_from k (xs ++ x ∷ []) ≡ enumerate_from k xs ++ (k + length xs, x) ∷ []
enumerate_more k [] x = let e : k ≡ k + 0 = omega arith in ap (λ (i : ℕ). (i, x) ∷ []) e
enumerate_more {X} k (y ∷ xs) x =
    let e : k + 1 + length xs ≡ k + suc (length xs) = omega arith in
    ap (λ (l : List (ℕ × X)). (k, y) ∷ l) (enumerate_more (k + 1) xs x ∙ ap (λ (i : ℕ). enumerate_from (k + 1) xs ++ (i, x) ∷ []) e)

pub signals_more : (tables : List (List PortWires)) (wires : List PortWires) → signals_in (tables ++ wires ∷ []) ≡ signals_in tables ++ array_signals (length tables, wires)
signals_more tables wires =
    let e : 0 + length tables ≡ length tables = omega arith in
    ap (flat_map array_signals) (enumerate_more 0 tables wires)
    ∙ (flat_map-append array_signals (enumerate_from 0 tables) ((0 + length tables, wires) ∷ [])
    ∙ (ap (λ l. signals_in tables ++ l) (append-nil (array_signals (0 + length tables, wires))) ∙ ap (λ (i : ℕ). signals_in tables ++ array_signals (i, wires)) e))
