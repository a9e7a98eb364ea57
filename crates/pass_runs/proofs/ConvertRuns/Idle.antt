-- Operations that change nothing.
use Rattle.std.proofs.Common.{◌≡◌, ◌∙◌, ℕ, Bool, true, false, ◌||◌, refl, ap, List, map, Option, Some, None}
use Rattle.std.specs.Prelude.{is_some}
use Rattle.hls_base.specs.declared.place.Place.{Place}
use Rattle.hls_base.specs.declared.refusal.UbRule.{UbRule}
use Rattle.ir_core.specs.declared.body.OpKind.{OpKind}
use Rattle.ir_core.specs.declared.body.OpKind.TheVariants as o
use Rattle.hls_base.specs.Valued.{is}
use Rattle.ir_core.specs.Bodies.{OpTree, Shapes, Words, Performed, operand, first_bits, effect, fault, fault_if, is_allowed, perform}
use Rattle.passes.specs.Conversion.Joining.{is_store, needs_guard}

-- where it may not run, or has no place and stores nothing
module _ (shapes : Shapes) (op : OpTree) (from : ℕ) (args : List ℕ) (t : Words) where
  effect_idle : (kind : OpKind) → (effect shapes op kind false from args t).words ≡ t
  effect_idle o.Load = refl
  effect_idle o.Store = refl
  effect_idle kind = refl

  effect_plain : (kind : OpKind) → is_store kind ≡ false → (a : Bool) → (effect shapes op kind a from args t).words ≡ t
  effect_plain o.Store e a = absurd cc
  effect_plain o.Load e true = refl
  effect_plain o.Load e false = refl
  effect_plain kind e a = refl

fault_idle : (flag : Option Place) (rule : Option UbRule) (p : Performed) → fault_if false flag rule p ≡ is p
fault_idle flag rule p = refl

fault_none : (a : Bool) (rule : Option UbRule) (p : Performed) → fault_if a None rule p ≡ is p
fault_none true rule p = refl
fault_none false rule p = refl

left_no : (x y : Bool) → (x || y) ≡ false → x ≡ false
left_no false y e = refl
left_no true y e = e

right_no : (x y : Bool) → (x || y) ≡ false → y ≡ false
right_no false y e = e
right_no true y e = absurd cc

no_flag : (x : Option Place) → is_some x ≡ false → x ≡ None
no_flag None e = refl
no_flag (Some at) e = absurd cc

module _ (shapes : Shapes) (w : List OpTree) (others : List ℕ) (t : Words) (op : OpTree) where
  abbrev args : List ℕ
  args = map (operand t others) op.args

  -- it gives something, and all stays
  abbrev pub Idle : Type 0
  Idle = (p : Performed) × (perform shapes w op others t ≡ is p) × (p.words ≡ t)

  abbrev effect_of : Bool → Performed
  effect_of a = effect shapes op op.kind a (first_bits shapes.widths w op op.args) args t

  pub not_allowed : is_allowed t others op.guard ≡ false → Idle
  not_allowed e =
      (effect_of false, ap (λ a. fault_if a op.flag (fault shapes op args) (effect_of a)) e ∙ fault_idle op.flag (fault shapes op args) (effect_of false), effect_idle shapes op (first_bits shapes.widths w op op.args) args t op.kind)

  pub harmless : needs_guard op ≡ false → Idle
  harmless e =
      let a = is_allowed t others op.guard in (
        effect_of a,
        ap (λ x. fault_if a x (fault shapes op args) (effect_of a)) (no_flag op.flag (left_no (is_some op.flag) (is_store op.kind) e)) ∙ fault_none a (fault shapes op args) (effect_of a),
        effect_plain shapes op (first_bits shapes.widths w op op.args) args t op.kind (right_no (is_some op.flag) (is_store op.kind) e) a,
      )
