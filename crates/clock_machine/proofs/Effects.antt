-- What an operation does depends on its kind, its array and its widths, whatever else stands in it.
use Rattle.std.proofs.Common.{◌≡◌, ◌⊎◌, inl, inr, ℕ, Bool, true, false, List, refl, ap, ap₂}
use Rattle.ir_core.specs.declared.body.OpKind.{OpKind}
use Rattle.ir_core.specs.declared.body.OpKind.TheVariants as o
use Rattle.ir_core.specs.Value as v
use Rattle.ir_core.specs.Bodies.{OpTree, Shapes, Words, performed, loaded, with_stored, effect}
use Rattle.clock_machine.specs.Acts.{is_store}

module _ (shapes : Shapes) (x y : OpTree) (from : ℕ) (args : List ℕ) (t : Words) (array : x.array ≡ y.array) (signed : x.signed ≡ y.signed) (bits : x.bits ≡ y.bits) where
  valued : (kind : OpKind) → performed (v.value kind x.signed x.bits from args) t ≡ performed (v.value kind y.signed y.bits from args) t
  valued kind = ap₂ (λ s n. performed (v.value kind s n from args) t) signed bits

  pub same_effect : (kind : OpKind) (allowed : Bool) → effect shapes x kind allowed from args t ≡ effect shapes y kind allowed from args t
  same_effect o.Load true = ap (λ a. performed (loaded shapes a args t) t) array
  same_effect o.Load false = refl
  same_effect o.Store true = ap (λ a. performed 0 (with_stored shapes a args t)) array
  same_effect o.Store false = refl
  same_effect kind allowed = valued kind

-- only a store changes a word
pub changes_none : (shapes : Shapes) (x : OpTree) (kind : OpKind) (allowed : Bool) (from : ℕ) (args : List ℕ) (t : Words) → is_store kind ≡ false → (effect shapes x kind allowed from args t).words ≡ t
changes_none shapes x o.Load true from args t e = refl
changes_none shapes x o.Load false from args t e = refl
changes_none shapes x o.Store true from args t e = cc
changes_none shapes x o.Store false from args t e = refl
changes_none shapes x kind allowed from args t e = refl

-- an operation is a store, or it is not
pub store_or : (kind : OpKind) → (kind ≡ o.Store) ⊎ (is_store kind ≡ false)
store_or o.Store = inl refl
store_or kind = inr refl
