-- The arrays of a compiled program, by their sorts.
use Rattle.std.proofs.Common.{◌≡◌, ℕ, zero, suc, ◌+◌, ◌^◌, ◌<◌, ◌≤◌, ◌⊎◌, inl, inr, Bool, true, false, List, [], ◌∷◌, map, length, get_or, Some, None, refl, sym, ap, ◌∙◌, subst, arith}
use Rattle.std.specs.Prelude.{slice_get, filter, nat_lt}
use Rattle.std.proofs.lemmas.Bool.{cases_Bool, cases_lt, lt-ltb, le-ltb, ltb-true, cond-true, cond-false, false≢true}
use Rattle.hls_base.specs.ArrayAddress.{addresses}
use Rattle.ir_core.specs.AddressWords.{AreShort, AreRising}
use Rattle.ir_core.proofs.Rising.{addresses-rise}
use Rattle.ir_core.specs.declared.cfg.Memory.{Memory}
use Rattle.clock_runs.specs.Premises.{Each}
use Rattle.clock_runs.proofs.Lists.{no_some}
use Rattle.datapath.specs.Plans.{Plan, Array, array_of, no_array, array_at, depth, host_arrays}
use Rattle.circuit_agreement.specs.CircuitFlow.Compiled.{IsCompiled}
use Rattle.circuit_agreement.proofs.CircuitStores.Turns.{arrays_are}
use Rattle.circuit_agreement.proofs.CircuitStores.Elements.{get_within}

-- ---- what comes first in a list

record First (test : Array → Bool) (xs : List Array) (a : ℕ) : Type 0 where
  one : Array
  there : slice_get xs a ≡ Some one
  kept : slice_get (filter test xs) a ≡ Some one

none_kept : (test : Array → Bool) (xs : List Array) → ((a : ℕ) (x : Array) → slice_get xs a ≡ Some x → test x ≡ false) → filter test xs ≡ []
none_kept test [] h = refl
none_kept test (x ∷ xs) h = cond-false _ _ _ (h 0 x refl) ∙ none_kept test xs (λ a y e. h (suc a) y e)

first_at : (test : Array → Bool) (xs : List Array) (k n : ℕ) → ((a : ℕ) (x : Array) → slice_get xs a ≡ Some x → test x ≡ nat_lt (k + a) n) → (a : ℕ) → a < length (filter test xs) → First test xs a
first_at test [] k n h a low = absurd (omega (arith, low))
first_at test (x ∷ xs) k n h a low =
    let here : k + 0 ≡ k = omega arith in
    elim (cases_Bool (test x)) [
      | inl yes_ ↦
          let is : filter test (x ∷ xs) ≡ x ∷ filter test xs = cond-true _ _ _ yes_ in
          at_place a is (subst (λ (l : List Array). a < length l) is low)
          (λ b. first_at test xs (k + 1) n (λ c y e. h (suc c) y e ∙ ap (λ q. nat_lt q n) (let z : k + suc c ≡ k + 1 + c = omega arith in z)) b)
      | inr no_ ↦
          let over : n ≤ k = (elim (cases_lt (k + 0) n) [
            | inl under ↦ absurd (false≢true (sym no_ ∙ (h 0 x refl ∙ lt-ltb (k + 0) n under)))
            | inr above ↦ omega (arith, above)
          ]) in
          let none : filter test (x ∷ xs) ≡ [] = none_kept test (x ∷ xs) (λ b y e. h b y e ∙ le-ltb (k + b) n (omega (arith, over))) in
          absurd (let z = subst (λ (l : List Array). a < length l) none low in omega (arith, z))
    ]
  where
    at_place : (a : ℕ) → filter test (x ∷ xs) ≡ x ∷ filter test xs → a < length (x ∷ filter test xs) → ((b : ℕ) → b < length (filter test xs) → First test xs b) → First test (x ∷ xs) a
    at_place zero is low rest = record { one = x; there = refl; kept = ap (λ (l : List Array). slice_get l 0) is }
    at_place (suc b) is low rest =
        let r = rest b (omega (arith, low)) in
        record { one = r.one; there = r.there; kept = ap (λ (l : List Array). slice_get l (suc b)) is ∙ r.kept }

-- ---- the arrays of the plan

there_or_not : (xs : List Array) (a : ℕ) → (slice_get xs a ≡ Some (get_or xs a no_array)) ⊎ (get_or xs a no_array ≡ no_array)
there_or_not [] a = inr refl
there_or_not (x ∷ xs) zero = inl refl
there_or_not (x ∷ xs) (suc a) = there_or_not xs a

short_at : (ms : List Memory) (a : ℕ) → Each (λ (dims : List ℕ). Each (λ len. len ≤ 65536) dims) (map (λ (m : Memory). m.dims.items) ms) → Each (λ len. len ≤ 65536) (get_or (map array_of ms) a no_array).dims
short_at [] a h = tt
short_at (m ∷ ms) zero h = h.0
short_at (m ∷ ms) (suc a) h = short_at ms a h.1

are_short : (dims : List ℕ) → Each (λ len. len ≤ 65536) dims → AreShort dims
are_short [] h = tt
are_short (len ∷ dims) h = (h.0, are_short dims h.1)

module _ (p : Plan) (k : IsCompiled p) where
  pub short_dims : (a : ℕ) → AreShort (array_at p a).dims
  short_dims a =
      are_short (array_at p a).dims (subst (λ (xs : List Array). Each (λ len. len ≤ 65536) (get_or xs a no_array).dims) (sym (arrays_are p k))
      (short_at k.untimed.frame.memories.items a k.sound.dims))

  pub rising : (a : ℕ) → AreRising 0 (addresses (array_at p a).dims) (2 ^ depth p a)
  rising a = addresses-rise (array_at p a).dims (short_dims a)

  pub record HostArray (a : ℕ) : Type 0 where
    pub there : slice_get p.arrays a ≡ Some (array_at p a)
    pub in_hosts : slice_get (host_arrays p) a ≡ Some (array_at p a)
    pub host : (array_at p a).host ≡ true
    pub plain : (array_at p a).table ≡ None
    pub first : (array_at p a).first ≡ None

  pub host_array : (a : ℕ) → a < length (host_arrays p) → HostArray a
  host_array a low =
      let r : First (λ (x : Array). x.host) p.arrays a = first_at (λ (x : Array). x.host) p.arrays 0 (length (host_arrays p))
      (λ b x e. k.frame.hosts_first b x e ∙ ap (λ q. nat_lt q (length (host_arrays p))) (let z : b ≡ 0 + b = omega arith in z)) a low in
      let same : array_at p a ≡ r.one = get_within p.arrays a no_array r.one r.there in
      let at_ : slice_get p.arrays a ≡ Some (array_at p a) = r.there ∙ ap (λ (x : Array). Some x) (sym same) in
      let host : (array_at p a).host ≡ true = k.frame.hosts_first a (array_at p a) at_ ∙ lt-ltb a (length (host_arrays p)) low in
      let sort = k.frame.hosts a (array_at p a) at_ host in
      record { there = at_; in_hosts = r.kept ∙ ap (λ (x : Array). Some x) (sym same); host = host; plain = sort.0; first = sort.1 }

  -- the host reaches no other array
  pub host_below : (a : ℕ) → (array_at p a).host ≡ true → a < length (host_arrays p)
  host_below a e =
      elim (there_or_not p.arrays a) [
        | inl at_ ↦ ltb-true a (length (host_arrays p)) (sym (k.frame.hosts_first a (array_at p a) at_) ∙ e)
        | inr none ↦ absurd (false≢true (sym (ap (λ (x : Array). x.host) none) ∙ e))
      ]

  pub record FileArray (a : ℕ) (first : List ℕ) : Type 0 where
    pub there : slice_get p.arrays a ≡ Some (array_at p a)
    pub plain : (array_at p a).table ≡ None
    pub unreached : (array_at p a).host ≡ false
    pub full : length first ≡ length (addresses (array_at p a).dims)

  pub file_array : (a : ℕ) (first : List ℕ) → (array_at p a).first ≡ Some first → FileArray a first
  file_array a first e =
      elim (there_or_not p.arrays a) [
        | inr none ↦ absurd (no_some (sym (ap (λ (x : Array). x.first) none) ∙ e))
        | inl at_ ↦
            let sort = k.frame.firsts a (array_at p a) first at_ e in
            record {
              there = at_;
              plain = sort.0;
              unreached = elim (cases_Bool (array_at p a).host) [
                | inl yes_ ↦ absurd (no_some (sym (k.frame.hosts a (array_at p a) at_ yes_).1 ∙ e))
                | inr no_ ↦ no_
              ];
              full = sort.1;
            }
      ]

  pub table_unreached : (a : ℕ) (words : List ℕ) → (array_at p a).table ≡ Some words → (array_at p a).host ≡ false
  table_unreached a words e =
      elim (cases_Bool (array_at p a).host) [
        | inl yes_ ↦ absurd (no_some (sym (host_array a (host_below a yes_)).plain ∙ e))
        | inr no_ ↦ no_
      ]
