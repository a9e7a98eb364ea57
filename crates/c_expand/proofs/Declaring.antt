-- Declarations, by what stands for their object.
use Rattle.std.proofs.Common.{◌≡◌, ◌⊎◌, inl, inr, ℕ, List, Option, Some, ap, ◌∙◌}
use Rattle.std.specs.Prelude.{slice_get}
use Rattle.hls_base.specs.declared.number.VarId.{VarId}
use Rattle.hls_base.specs.declared.number.ArrayId.{ArrayId}
use Rattle.pieces.specs.declared.resolved.expression.CoreExpr.{CoreExpr}
use Rattle.pieces.specs.declared.resolved.statement.CoreInit.{CoreInit}
use Rattle.pieces.specs.declared.resolved.statement.CoreInit.TheVariants as i
use Rattle.pieces.specs.Resolved.Core.{CoreInitTree, CoreObjectTree}
use Rattle.pieces.specs.Resolved.CoreView.{core_init_of}
use Rattle.piece_making.specs.declared.work.Slot.{Slot}
use Rattle.piece_making.specs.declared.frame.Home.{Home}
use Rattle.piece_making.specs.declared.frame.Home.TheVariants as home
use Rattle.piece_making.specs.Making.{State, gives, then_, note_array}
use Rattle.piece_making.specs.Calls.{Call}
use Rattle.piece_making.specs.Objects.{local_array}
use Rattle.c_expand.specs.Expressions.{Callee}
use Rattle.c_expand.specs.Statements.{declare, declared_as, scalar_declared, initialised}

module _ (f : Callee) (c : Call) (object : ℕ) (init : CoreInitTree) (s : State) where
  pub as_variable : (own : VarId) → slice_get c.homes object ≡ Some (home.Variable own) → declare f c object init s ≡ scalar_declared f c own init s
  as_variable own e = ap (λ (h : Option Home). declared_as f c h (slice_get c.objects object) init s) e

  pub as_array : (slot : Slot) (o : CoreObjectTree) → slice_get c.homes object ≡ Some (home.Local slot) → slice_get c.objects object ≡ Some o
      → declare f c object init s ≡ then_ (local_array o s) (λ array s1. then_ (note_array slot array s1) (λ u s2. initialised f c array o.lengths init s2))
  as_array slot o e g =
      ap (λ (h : Option Home). declared_as f c h (slice_get c.objects object) init s) e
      ∙ ap (λ (x : Option CoreObjectTree). declared_as f c (Some (home.Local slot)) x init s) g

  as_given : (array : ArrayId) → slice_get c.homes object ≡ Some (home.Array array) → declare f c object init s ≡ gives tt s
  as_given array e = ap (λ (h : Option Home). declared_as f c h (slice_get c.objects object) init s) e

  as_constant : (value : ℕ) → slice_get c.homes object ≡ Some (home.Constant value) → declare f c object init s ≡ gives tt s
  as_constant value e = ap (λ (h : Option Home). declared_as f c h (slice_get c.objects object) init s) e

  pub as_other : (h : Home) → slice_get c.homes object ≡ Some h → (((x : ArrayId) × (h ≡ home.Array x)) ⊎ ((v : ℕ) × (h ≡ home.Constant v))) → declare f c object init s ≡ gives tt s
  as_other h e (inl w) = as_given w.0 (e ∙ ap Some w.1)
  as_other h e (inr w) = as_constant w.0 (e ∙ ap Some w.1)

-- an array without elements in its initialiser
pub without_elements : (f : Callee) (c : Call) (array : ArrayId) (lengths : List ℕ) (init : CoreInit) (s : State)
    → ((init ≡ i.Unwritten) ⊎ ((x : CoreExpr) × (init ≡ i.Scalar x))) → initialised f c array lengths (core_init_of init) s ≡ gives tt s
without_elements f c array lengths init s (inl e) = ap (λ (x : CoreInit). initialised f c array lengths (core_init_of x) s) e
without_elements f c array lengths init s (inr w) = ap (λ (x : CoreInit). initialised f c array lengths (core_init_of x) s) w.1
