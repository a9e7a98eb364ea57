-- Where an equal operation stays, the first such one is found.
use Rattle.std.proofs.Common.{◌≡◌, ◌∙◌, ◌≤◌, ℕ, zero, suc, ◌+◌, Bool, true, false, ◌&&◌, not, refl, ap, ap₂, sym, arith, List, [], ◌∷◌, Option, Some, None}
use Rattle.std.specs.Prelude.{slice_get, is_some, if◌then◌else◌}
use Rattle.ir_core.specs.Bodies.{OpTree}
use Rattle.passes.specs.Numbering.Equal.{is_equal}
use Rattle.passes.specs.Numbering.{Kept, First, first_equal, joined, earlier, is_common}
use Rattle.passes.proofs.Equalities.{first, second}
use Rattle.passes.proofs.NumberRuns.Finding.{not_there}

module _ (op : OpTree) where
  abbrev fits : Kept → Bool
  fits k = not (is_some k.op.guard) && is_equal op k.op

  it_fits : (k : Kept) → k.op.guard ≡ None → is_equal op k.op ≡ true → fits k ≡ true
  it_fits k g e = ap₂ (λ guard b. not (is_some guard) && b) g e

  -- the first one that is equal, which stands at this number or before it
  pub record Found (ks : List Kept) (start i : ℕ) : Type 0 where
    pub found : First
    pub is_first : first_equal op ks start ≡ Some found
    pub number : ℕ
    pub kept : Kept
    pub at : slice_get ks number ≡ Some kept
    pub guard : kept.op.guard ≡ None
    pub equal : is_equal op kept.op ≡ true
    pub flag : kept.makes_out ≡ found.makes_out
    pub early : number ≤ i

  abbrev first_of : Kept → List Kept → ℕ → Bool → Option First
  first_of k ks start b = if b then Some (record { op = start; makes_out = k.makes_out }) else first_equal op ks (start + 1)

  found_here : (k : Kept) (ks : List Kept) (start i : ℕ) → fits k ≡ true → Found (k ∷ ks) start i
  found_here k ks start i t = record {
    found = record { op = start; makes_out = k.makes_out };
    is_first = ap (first_of k ks start) t;
    number = 0;
    kept = k;
    at = refl;
    guard = not_there k.op.guard (first (not (is_some k.op.guard)) (is_equal op k.op) t);
    equal = second (not (is_some k.op.guard)) (is_equal op k.op) t;
    flag = refl;
    early = omega arith;
  }

  found_later : (k : Kept) (ks : List Kept) (start i : ℕ) → fits k ≡ false → Found ks (start + 1) i → Found (k ∷ ks) start (suc i)
  found_later k ks start i t h = record {
    found = h.found;
    is_first = ap (first_of k ks start) t ∙ h.is_first;
    number = suc h.number;
    kept = h.kept;
    at = h.at;
    guard = h.guard;
    equal = h.equal;
    flag = h.flag;
    early = let e = h.early in omega (arith, e);
  }

  same_kept : (x y : Kept) → Some x ≡ Some y → x ≡ y
  same_kept x y e = cc

  pub first_found : (ks : List Kept) (start i : ℕ) (k : Kept) → slice_get ks i ≡ Some k → k.op.guard ≡ None → is_equal op k.op ≡ true → Found ks start i
  first_found [] start i k at g e = absurd cc
  first_found (x ∷ ks) start zero k at g e =
      let p = same_kept x k at in
      found_here x ks start 0 (it_fits x (ap (λ (y : Kept). y.op.guard) p ∙ g) (ap (λ (y : Kept). is_equal op y.op) p ∙ e))
  first_found (x ∷ ks) start (suc i) k at g e = by_test (first_found ks (start + 1) i k at g e) (fits x) refl where
    by_test : Found ks (start + 1) i → (b : Bool) → fits x ≡ b → Found (x ∷ ks) start (suc i)
    by_test h true t = found_here x ks start (suc i) t
    by_test h false t = found_later x ks start i t h

  -- ---- an operation that stays beside an equal one

  nothing_joined : (n : ℕ) (b : Bool) → (if b then None else Some n) ≡ None → b ≡ true
  nothing_joined n true e = refl
  nothing_joined n false e = absurd cc

  -- Both make outs that are to stay apart.
  pub stays_beside : (is_apart : Bool) (ks : List Kept) (f : First) → first_equal op ks 0 ≡ Some f → op.guard ≡ None → is_common op.kind ≡ true → earlier is_apart op ks ≡ None → (is_apart ≡ true) × (f.makes_out ≡ true)
  stays_beside is_apart ks f found g c e =
      let open_ : (if not (is_some op.guard) && is_common op.kind then joined is_apart (first_equal op ks 0) else None) ≡ joined is_apart (first_equal op ks 0)
      = ap₂ (λ guard b. if not (is_some guard) && b then joined is_apart (first_equal op ks 0) else None) g c in
      let t = nothing_joined f.op (is_apart && f.makes_out) (ap (joined is_apart) (sym found) ∙ sym open_ ∙ e) in
      (first is_apart f.makes_out t, second is_apart f.makes_out t)
