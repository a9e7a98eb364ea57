-- Conversions of a value, and tests of it, add operations that follow it.
use Rattle.std.proofs.Common.{◌≡◌, ◌∙◌, ◌≤◌, ℕ, Bool, true, false, refl, ap, subst, arith, List, [], ◌∷◌, ◌++◌, length, length-append, Some}
use Rattle.std.specs.Prelude.{slice_get, nat_eq, nat_lt, if◌then◌else◌}
use Rattle.c_token.specs.declared.ctype.CType.{CType}
use Rattle.c_token.specs.declared.ctype.CType.TheVariants as type
use Rattle.c_value.specs.Values.{width, is_signed, promoted}
use Rattle.ir_core.specs.declared.body.OpKind.TheVariants as o
use Rattle.ir_core.specs.declared.body.Operand.{Operand}
use Rattle.ir_core.specs.declared.body.Source.{Source}
use Rattle.ir_core.specs.declared.body.Source.TheVariants as source
use Rattle.ir_core.specs.Bodies.{OpTree}
use Rattle.ir_core.specs.TreeRuns.{tested_by}
use Rattle.passes.specs.Lowering.Operations as lower
use Rattle.passes.specs.Lowering.Operations.{Emitted, Given, added, constant, result_of, plain, defined, conversion, resized, converted, converted_from, valued, tested, assigned, promoted_value, balanced, kind_of}
use Rattle.passes.specs.Numbering.{Scope, standing_for}
use Rattle.passes.specs.NumberRuns.Ordered.{AreEarly}
use Rattle.lowered_shapes.proofs.LoopTests.Numbers.{state}
use Rattle.lowered_shapes.proofs.LoopTests.Heights.{height}
use Rattle.lowered_shapes.proofs.LoopTests.Steps.{IsLowIfThere, Follows, follows_more}

abbrev pub operand_in : Given → Operand
operand_in (lower.truth bit) = bit
operand_in (lower.value word k) = word

module _ (scope : Scope) (base first : List OpTree) where
  -- behind the first operations
  abbrev pub Reaches : List OpTree → Operand → Type 0
  Reaches ops x = (length first ≤ length ops) × Follows scope base ops x

  abbrev pub Ends : Emitted → Type 0
  Ends y = Reaches y.ops y.operand

  one : (ops : List OpTree) (x : Operand) (op : OpTree) → Reaches ops x → slice_get op.args 0 ≡ Some x → AreEarly (length ops) op.args → Reaches (ops ++ op ∷ []) (result_of (length ops))
  one ops x op h at early = (
    let p = h.0 in let e = length-append ops (op ∷ []) in omega (arith, p, e),
    follows_more scope ops op h.1.sound base h.1.grows early (λ common m low b. h.1.bits m (subst (IsLowIfThere scope ops m) at low.0) b),
  )

  -- where one constant stands another one may
  other : (ops : List OpTree) (x : Operand) (w z : ℕ) → Reaches ops x → x.value ≡ source.Constant w → Reaches ops (constant z)
  other ops x w z h e =
      let p = ap (λ s. height (standing_for (state scope ops).values x s)) e ∙ ap tested_by e in
      (h.0, record { sound = h.1.sound; grows = h.1.grows; early = tt; bits = λ m le b. h.1.bits m (omega (arith, p)) b })

  conversion_ends : (ops : List OpTree) (from to : CType) (x : Operand) → Reaches ops x → Ends (added ops (conversion from to x))
  conversion_ends ops from type.Bool x h = one ops x (plain o.Truth (width from) (x ∷ [])) h refl (h.1.early, tt)
  conversion_ends ops from (type.Int signed bits) x h = by (nat_lt (width from) (width (type.Int signed bits))) where
    by : (c : Bool) → Ends (added ops (if c then defined o.Widen (is_signed from) (width (type.Int signed bits)) (x ∷ []) else plain o.Narrow (width (type.Int signed bits)) (x ∷ [])))
    by true = one ops x (defined o.Widen (is_signed from) (width (type.Int signed bits)) (x ∷ [])) h refl (h.1.early, tt)
    by false = one ops x (plain o.Narrow (width (type.Int signed bits)) (x ∷ [])) h refl (h.1.early, tt)

  resized_ends : (ops : List OpTree) (from to : CType) (x : Operand) → Reaches ops x → Ends (resized ops from to x)
  resized_ends ops from to x h = by (nat_eq (width from) (width to)) where
    by : (c : Bool) → Ends (if c then record { ops = ops; operand = x } else added ops (conversion from to x))
    by true = h
    by false = conversion_ends ops from to x h

  converted_ends : (ops : List OpTree) (from to : CType) (x : Operand) → Reaches ops x → Ends (converted ops from to x)
  converted_ends ops from to x h = at x.value refl where
    at : (s : Source) → x.value ≡ s → Ends (converted_from ops from to x s)
    at (source.Constant w) e = other ops x w _ h e
    at (source.Variable v) e = resized_ends ops from to x h
    at (source.Result i) e = resized_ends ops from to x h

  valued_ends : (ops : List OpTree) (g : Given) → Reaches ops (operand_in g) → Ends (valued ops g)
  valued_ends ops (lower.truth x) h = one ops x (plain o.Widen 32 (x ∷ [])) h refl (h.1.early, tt)
  valued_ends ops (lower.value x k) h = h

  tested_ends : (ops : List OpTree) (g : Given) → Reaches ops (operand_in g) → Ends (tested ops g)
  tested_ends ops (lower.truth x) h = h
  tested_ends ops (lower.value x type.Bool) h = h
  tested_ends ops (lower.value x (type.Int signed bits)) h = one ops x (plain o.Ne (width (type.Int signed bits)) (x ∷ constant 0 ∷ [])) h refl (h.1.early, (tt, tt))

  assigned_ends : (ops : List OpTree) (g : Given) (to : CType) → Reaches ops (operand_in g) → Ends (assigned ops g to)
  assigned_ends ops g to h = converted_ends (valued ops g).ops (kind_of g) to (valued ops g).operand (valued_ends ops g h)

  balanced_ends : (ops : List OpTree) (g : Given) (to : CType) → Reaches ops (operand_in g) → Ends (balanced ops g to)
  balanced_ends ops g to h = converted_ends (promoted_value ops g).ops (promoted (kind_of g)) to (promoted_value ops g).operand (assigned_ends ops g (promoted (kind_of g)) h)

module _ (scope : Scope) (base ops : List OpTree) (g : Given) (h : Follows scope base ops (operand_in g)) where
  start : Reaches scope base ops ops (operand_in g)
  start = (omega arith, h)

  pub valued_follows : Ends scope base ops (valued ops g)
  valued_follows = valued_ends scope base ops ops g start

  pub tested_follows : Ends scope base ops (tested ops g)
  tested_follows = tested_ends scope base ops ops g start

  pub assigned_follows : (to : CType) → Ends scope base ops (assigned ops g to)
  assigned_follows to = assigned_ends scope base ops ops g to start

  pub balanced_follows : (to : CType) → Ends scope base ops (balanced ops g to)
  balanced_follows to = balanced_ends scope base ops ops g to start
