-- Operations are added that name what is there.
use Rattle.std.specs.Prelude.{nat_lt, nat_le, nat_eq}
use Rattle.std.proofs.Common.{◌≤◌, ℕ, Bool, true, false, arith, List, [], ◌∷◌, ◌++◌, Option, Some, None, if◌then◌else◌}
use Rattle.c_token.specs.declared.ctype.CType.{CType}
use Rattle.c_token.specs.declared.ctype.CType.TheVariants as type
use Rattle.c_value.specs.Values.{width, is_signed, promoted}
use Rattle.pieces.specs.Program.{ArrayTree}
use Rattle.ir_core.specs.declared.body.OpKind.TheVariants as o
use Rattle.ir_core.specs.declared.body.Operand.{Operand}
use Rattle.ir_core.specs.declared.body.Source.{Source}
use Rattle.ir_core.specs.declared.body.Source.TheVariants as source
use Rattle.ir_core.specs.Bodies.{OpTree}
use Rattle.passes.specs.Lowering.Operations as lower
use Rattle.passes.specs.Lowering.Operations.{Emitted, Given, gives, added, constant, plain, defined, conversion, resized, converted, converted_from, valued, tested, assigned, promoted_value, balanced, kind_of}
use Rattle.passes.specs.Lowering.Guards.{Guard, Guarded, guarded, outside, own_bit, under, bit_of}
use Rattle.compiled_plans.specs.Operations as named

-- a type has at most 64 bits
pub width_small : (k : CType) → width k ≤ 64
width_small type.Bool = omega arith
width_small (type.Int signed bits) = by (nat_le bits 8) (nat_le bits 16) (nat_le bits 32) where
  by : (a b c : Bool) → (if a then 8 else (if b then 16 else (if c then 32 else 64))) ≤ 64
  by true b c = omega arith
  by false true c = omega arith
  by false false true = omega arith
  by false false false = omega arith

module _ (count : ℕ) (arrays : List ArrayTree) where
  abbrev pub IsNamed : Operand → Type 0
  IsNamed = named.IsNamed count arrays

  abbrev pub IsNamedIf : Option Operand → Type 0
  IsNamedIf = named.IsNamedIf count arrays

  abbrev pub OpNamed : OpTree → Type 0
  OpNamed = named.OpNamed count arrays

  abbrev pub OpsNamed : List OpTree → Type 0
  OpsNamed = named.OpsNamed count arrays

  pub ops_more : (xs : List OpTree) (op : OpTree) → OpsNamed xs → OpNamed op → OpsNamed (xs ++ op ∷ [])
  ops_more [] op h k = (k, tt)
  ops_more (x ∷ xs) op h k = (h.0, ops_more xs op h.1 k)

  -- the operations so far name what is there, and so does the operand
  pub record Gives (x : Emitted) : Type 0 where
    pub ops : OpsNamed x.ops
    pub given : IsNamed x.operand

  pub added_gives : (ops : List OpTree) (op : OpTree) → OpsNamed ops → OpNamed op → Gives (added ops op)
  added_gives ops op h k = record { ops = ops_more ops op h k; given = tt }

  -- ---- conversions

  conversion_gives : (ops : List OpTree) (from to : CType) (x : Operand) → OpsNamed ops → IsNamed x → Gives (added ops (conversion from to x))
  conversion_gives ops from type.Bool x h n = added_gives ops (plain o.Truth (width from) (x ∷ [])) h (record { args = (n, tt); guard = tt; bits = width_small from; access = tt })
  conversion_gives ops from (type.Int signed bits) x h n = either (nat_lt (width from) (width (type.Int signed bits))) where
    either : (b : Bool) → Gives (added ops (if b then defined o.Widen (is_signed from) (width (type.Int signed bits)) (x ∷ []) else plain o.Narrow (width (type.Int signed bits)) (x ∷ [])))
    either true = added_gives ops (defined o.Widen (is_signed from) (width (type.Int signed bits)) (x ∷ [])) h (record { args = (n, tt); guard = tt; bits = width_small (type.Int signed bits); access = tt })
    either false = added_gives ops (plain o.Narrow (width (type.Int signed bits)) (x ∷ [])) h (record { args = (n, tt); guard = tt; bits = width_small (type.Int signed bits); access = tt })

  resized_gives : (ops : List OpTree) (from to : CType) (x : Operand) → OpsNamed ops → IsNamed x → Gives (resized ops from to x)
  resized_gives ops from to x h n = either (nat_eq (width from) (width to)) where
    either : (b : Bool) → Gives (if b then gives ops x else added ops (conversion from to x))
    either true = record { ops = h; given = n }
    either false = conversion_gives ops from to x h n

  pub converted_gives : (ops : List OpTree) (from to : CType) (x : Operand) → OpsNamed ops → IsNamed x → Gives (converted ops from to x)
  converted_gives ops from to x h n = at x.value where
    at : (s : Source) → Gives (converted_from ops from to x s)
    at (source.Constant w) = record { ops = h; given = tt }
    at (source.Variable v) = resized_gives ops from to x h n
    at (source.Result i) = resized_gives ops from to x h n

  abbrev pub GivenNamed : Given → Type 0
  GivenNamed (lower.truth x) = IsNamed x
  GivenNamed (lower.value x k) = IsNamed x

  pub valued_gives : (ops : List OpTree) (g : Given) → OpsNamed ops → GivenNamed g → Gives (valued ops g)
  valued_gives ops (lower.truth x) h n = added_gives ops (plain o.Widen 32 (x ∷ [])) h (record { args = (n, tt); guard = tt; bits = omega arith; access = tt })
  valued_gives ops (lower.value x k) h n = record { ops = h; given = n }

  pub tested_gives : (ops : List OpTree) (g : Given) → OpsNamed ops → GivenNamed g → Gives (tested ops g)
  tested_gives ops (lower.truth x) h n = record { ops = h; given = n }
  tested_gives ops (lower.value x type.Bool) h n = record { ops = h; given = n }
  tested_gives ops (lower.value x (type.Int signed bits)) h n =
      added_gives ops (plain o.Ne (width (type.Int signed bits)) (x ∷ constant 0 ∷ [])) h (record { args = (n, (tt, tt)); guard = tt; bits = width_small (type.Int signed bits); access = tt })

  pub assigned_gives : (ops : List OpTree) (g : Given) (to : CType) → OpsNamed ops → GivenNamed g → Gives (assigned ops g to)
  assigned_gives ops g to h n = let v = valued_gives ops g h n in converted_gives (valued ops g).ops (kind_of g) to (valued ops g).operand v.ops v.given

  pub balanced_gives : (ops : List OpTree) (g : Given) (to : CType) → OpsNamed ops → GivenNamed g → Gives (balanced ops g to)
  balanced_gives ops g to h n =
      let v = assigned_gives ops g (promoted (kind_of g)) h n in converted_gives (promoted_value ops g).ops (promoted (kind_of g)) to (promoted_value ops g).operand v.ops v.given

  -- ---- guards

  abbrev pub GuardsNamed : List Guard → Type 0
  GuardsNamed [] = Unit {0}
  GuardsNamed (g ∷ gs) = IsNamed g.test × IsNamedIf g.made × GuardsNamed gs

  pub outside_named : (gs : List Guard) → GuardsNamed gs → GuardsNamed (outside gs)
  outside_named [] h = tt
  outside_named (g ∷ gs) h = h.2

  pub record GuardedNamed (x : Guarded) : Type 0 where
    pub ops : OpsNamed x.ops
    pub guards : GuardsNamed x.guards
    pub bit : IsNamedIf x.bit

  own_gives : (ops : List OpTree) (g : Guard) → OpsNamed ops → IsNamed g.test → Gives (own_bit ops g)
  own_gives ops g h n = either g.holds where
    either : (b : Bool) → Gives (if b then gives ops g.test else added ops (plain o.Not 1 (g.test ∷ [])))
    either true = record { ops = h; given = n }
    either false = added_gives ops (plain o.Not 1 (g.test ∷ [])) h (record { args = (n, tt); guard = tt; bits = omega arith; access = tt })

  under_gives : (outer : Option Operand) (own : Emitted) → IsNamedIf outer → Gives own → Gives (under outer own)
  under_gives None own n h = h
  under_gives (Some x) own n h = added_gives own.ops (plain o.And 1 (x ∷ own.operand ∷ [])) h.ops (record { args = (n, (h.given, tt)); guard = tt; bits = omega arith; access = tt })

  bit_gives : (ops : List OpTree) (outer : Option Operand) (g : Guard) (made : Option Operand) → OpsNamed ops → IsNamedIf outer → IsNamed g.test → IsNamedIf made → Gives (bit_of ops outer g made)
  bit_gives ops outer g None h n t m = under_gives outer (own_bit ops g) n (own_gives ops g h t)
  bit_gives ops outer g (Some x) h n t m = record { ops = h; given = m }

  pub guarded_named : (ops : List OpTree) (gs : List Guard) → OpsNamed ops → GuardsNamed gs → GuardedNamed (guarded ops gs)
  guarded_named ops [] h n = record { ops = h; guards = tt; bit = tt }
  guarded_named ops (g ∷ gs) h n =
      let r = guarded ops gs in
      let f = guarded_named ops gs h n.2 in
      let b = bit_gives r.ops r.bit g g.made f.ops f.bit n.0 n.1 in
      record { ops = b.ops; guards = (n.0, b.given, f.guards); bit = b.given }
