-- The first equal operation is there, has no guard, and is equal.
use Rattle.std.proofs.Common.{◌≡◌, ◌∙◌, ℕ, suc, ◌+◌, Bool, true, false, ◌&&◌, not, refl, subst, arith, List, [], ◌∷◌, Option, Some, None}
use Rattle.std.specs.Prelude.{slice_get, is_some, if◌then◌else◌}
use Rattle.ir_core.specs.declared.body.Operand.{Operand}
use Rattle.ir_core.specs.Bodies.{OpTree}
use Rattle.passes.specs.Numbering.Equal.{is_equal}
use Rattle.passes.specs.Numbering.{Kept, First, first_equal, joined, earlier, is_common, ops_of}
use Rattle.passes.proofs.Equalities.{false_true, first, second}

none_some : {A : Type 0} (x : A) → None ≡ Some x → ⊥
none_some x e = cc

pub not_there : (guard : Option Operand) → not (is_some guard) ≡ true → guard ≡ None
not_there None e = refl
not_there (Some x) e = false_true e

-- an operation that stays, at this number, with which another becomes one
pub record Joins (op : OpTree) (kept : List OpTree) (j : ℕ) : Type 0 where
  pub other : OpTree
  pub at : slice_get kept j ≡ Some other
  pub open_ : other.guard ≡ None
  pub equal : is_equal op other ≡ true

abbrev FoundAt : OpTree → List Kept → ℕ → ℕ → Type 0
FoundAt op kept i j = (m : ℕ) × (j ≡ m + i) × Joins op (ops_of kept) m

found_at : (op : OpTree) (kept : List Kept) (i : ℕ) (f : First) → first_equal op kept i ≡ Some f → FoundAt op kept i f.op
found_at op [] i f e = absurd (none_some f e)
found_at op (k ∷ ks) i f e = by_test (λ h. found_at op ks (i + 1) f h) (not (is_some k.op.guard) && is_equal op k.op) refl e where
  number : (x y : First) → Some x ≡ Some y → y.op ≡ x.op
  number x y h = cc

  later : FoundAt op ks (i + 1) f.op → FoundAt op (k ∷ ks) i f.op
  later (m, p, h) = (suc m, omega (arith, p), record { other = h.other; at = h.at; open_ = h.open_; equal = h.equal })

  by_test : (first_equal op ks (i + 1) ≡ Some f → FoundAt op ks (i + 1) f.op) → (b : Bool) → (not (is_some k.op.guard) && is_equal op k.op) ≡ b
      → (if b then Some (record { op = i; makes_out = k.makes_out }) else first_equal op ks (i + 1)) ≡ Some f → FoundAt op (k ∷ ks) i f.op
  by_test further true t h = (
    0,
    number (record { op = i; makes_out = k.makes_out }) f h ∙ omega arith,
    record {
      other = k.op;
      at = refl;
      open_ = not_there k.op.guard (first (not (is_some k.op.guard)) (is_equal op k.op) t);
      equal = second (not (is_some k.op.guard)) (is_equal op k.op) t;
    },
  )
  by_test further false t h = later (further h)

found_first : (op : OpTree) (kept : List Kept) (f : First) → first_equal op kept 0 ≡ Some f → Joins op (ops_of kept) f.op
found_first op kept f e = let r = found_at op kept 0 f e in at_number r.0 r.1 r.2 where
  at_number : (m : ℕ) → f.op ≡ m + 0 → Joins op (ops_of kept) m → Joins op (ops_of kept) f.op
  at_number m p h = let q : m ≡ f.op = omega (arith, p) in subst (λ j. Joins op (ops_of kept) j) q h

-- the operation has no guard, is no load and no store, and becomes one with the one at this number
pub record Earlier (op : OpTree) (kept : List OpTree) (j : ℕ) : Type 0 where
  pub common : is_common op.kind ≡ true
  pub joins : Joins op kept j

pub earlier_found : (apart : Bool) (op : OpTree) (kept : List Kept) (j : ℕ) → earlier apart op kept ≡ Some j → Earlier op (ops_of kept) j
earlier_found apart op kept j e = by_test (not (is_some op.guard) && is_common op.kind) refl e where
  by_flag : (f : First) (b : Bool) → first_equal op kept 0 ≡ Some f → (if b then None else Some f.op) ≡ Some j → Joins op (ops_of kept) j
  by_flag f true h k = absurd (none_some j k)
  by_flag f false h k = subst (λ i. Joins op (ops_of kept) i) (the_same f.op j k) (found_first op kept f h) where
    the_same : (x y : ℕ) → Some x ≡ Some y → x ≡ y
    the_same x y h1 = cc

  by_first : (f : Option First) → first_equal op kept 0 ≡ f → joined apart f ≡ Some j → Joins op (ops_of kept) j
  by_first None h k = absurd (none_some j k)
  by_first (Some f) h k = by_flag f (apart && f.makes_out) h k

  by_test : (b : Bool) → (not (is_some op.guard) && is_common op.kind) ≡ b → (if b then joined apart (first_equal op kept 0) else None) ≡ Some j → Earlier op (ops_of kept) j
  by_test true t h = record { common = second (not (is_some op.guard)) (is_common op.kind) t; joins = by_first (first_equal op kept 0) refl h }
  by_test false t h = absurd (none_some j h)
