-- Operations are added that are ready.
use Rattle.std.specs.Prelude.{nat_lt, nat_le, nat_eq}
use Rattle.std.proofs.Common.{◌≤◌, ℕ, Bool, true, false, refl, sym, subst, arith, List, [], ◌∷◌, ◌++◌, append-nil, append_assoc, Option, Some, None, if◌then◌else◌}
use Rattle.c_token.specs.declared.ctype.CType.{CType}
use Rattle.c_token.specs.declared.ctype.CType.TheVariants as type
use Rattle.c_value.specs.Values.{width, is_signed, promoted}
use Rattle.ir_core.specs.declared.body.OpKind.TheVariants as o
use Rattle.ir_core.specs.declared.body.Operand.{Operand}
use Rattle.ir_core.specs.declared.body.Source.{Source}
use Rattle.ir_core.specs.declared.body.Source.TheVariants as source
use Rattle.ir_core.specs.Bodies.{OpTree, Shapes}
use Rattle.passes.specs.Lowering.Operations as lower
use Rattle.passes.specs.Lowering.Operations.{Emitted, Given, gives, added, constant, plain, defined, conversion, resized, converted, converted_from, valued, tested, assigned, promoted_value, balanced, kind_of}
use Rattle.passes.specs.Lowering.Guards.{Guard, Guarded, guarded, outside, own_bit, under, bit_of}
use Rattle.sound_trees.specs.Ready.{IsNear, IsNearIf, OpIsReady, OpsAreReady}

-- a type has a bit at least
pub width_positive : (k : CType) → 1 ≤ width k
width_positive type.Bool = omega arith
width_positive (type.Int signed bits) = by (nat_le bits 8) (nat_le bits 16) (nat_le bits 32) where
  by : (a b c : Bool) → 1 ≤ (if a then 8 else (if b then 16 else (if c then 32 else 64)))
  by true b c = omega arith
  by false true c = omega arith
  by false false true = omega arith
  by false false false = omega arith

module _ (shapes : Shapes) (words : List ℕ) (stores : Bool) where
  abbrev pub Ready : List OpTree → Type 0
  Ready ops = OpsAreReady shapes words stores [] ops

  pub ready_more : (before xs : List OpTree) (op : OpTree) → OpsAreReady shapes words stores before xs → OpIsReady shapes words stores (before ++ xs) op → OpsAreReady shapes words stores before (xs ++ op ∷ [])
  ready_more before [] op h k = (subst (λ l. OpIsReady shapes words stores l op) (append-nil before) k, tt)
  ready_more before (x ∷ xs) op h k = (h.0, ready_more (before ++ x ∷ []) xs op h.1 (subst (λ l. OpIsReady shapes words stores l op) (sym (append_assoc before (x ∷ []) xs)) k))

  -- the operations so far are ready, and so is the operand
  pub record Gives (x : Emitted) : Type 0 where
    pub ops : Ready x.ops
    pub near : IsNear x.operand

  pub added_gives : (ops : List OpTree) (op : OpTree) → Ready ops → OpIsReady shapes words stores ops op → Gives (added ops op)
  added_gives ops op h k = record { ops = ready_more [] ops op h k; near = refl }

  -- ---- conversions

  conversion_gives : (ops : List OpTree) (from to : CType) (x : Operand) → Ready ops → IsNear x → Gives (added ops (conversion from to x))
  conversion_gives ops from type.Bool x h n = added_gives ops (plain o.Truth (width from) (x ∷ [])) h (record { args = (n, tt); guard = tt; few = omega arith; kind = tt })
  conversion_gives ops from (type.Int signed bits) x h n = either (nat_lt (width from) (width (type.Int signed bits))) where
    either : (b : Bool) → Gives (added ops (if b then defined o.Widen (is_signed from) (width (type.Int signed bits)) (x ∷ []) else plain o.Narrow (width (type.Int signed bits)) (x ∷ [])))
    either true = added_gives ops (defined o.Widen (is_signed from) (width (type.Int signed bits)) (x ∷ [])) h (record { args = (n, tt); guard = tt; few = omega arith; kind = tt })
    either false = added_gives ops (plain o.Narrow (width (type.Int signed bits)) (x ∷ [])) h (record { args = (n, tt); guard = tt; few = omega arith; kind = tt })

  resized_gives : (ops : List OpTree) (from to : CType) (x : Operand) → Ready ops → IsNear x → Gives (resized ops from to x)
  resized_gives ops from to x h n = either (nat_eq (width from) (width to)) where
    either : (b : Bool) → Gives (if b then gives ops x else added ops (conversion from to x))
    either true = record { ops = h; near = n }
    either false = conversion_gives ops from to x h n

  pub converted_gives : (ops : List OpTree) (from to : CType) (x : Operand) → Ready ops → IsNear x → Gives (converted ops from to x)
  converted_gives ops from to x h n = at x.value where
    at : (s : Source) → Gives (converted_from ops from to x s)
    at (source.Constant w) = record { ops = h; near = refl }
    at (source.Variable v) = resized_gives ops from to x h n
    at (source.Result i) = resized_gives ops from to x h n

  abbrev pub GivenIsNear : Given → Type 0
  GivenIsNear (lower.truth x) = IsNear x
  GivenIsNear (lower.value x k) = IsNear x

  pub valued_gives : (ops : List OpTree) (g : Given) → Ready ops → GivenIsNear g → Gives (valued ops g)
  valued_gives ops (lower.truth x) h n = added_gives ops (plain o.Widen 32 (x ∷ [])) h (record { args = (n, tt); guard = tt; few = omega arith; kind = tt })
  valued_gives ops (lower.value x k) h n = record { ops = h; near = n }

  pub tested_gives : (ops : List OpTree) (g : Given) → Ready ops → GivenIsNear g → Gives (tested ops g)
  tested_gives ops (lower.truth x) h n = record { ops = h; near = n }
  tested_gives ops (lower.value x type.Bool) h n = record { ops = h; near = n }
  tested_gives ops (lower.value x (type.Int signed bits)) h n =
      added_gives ops (plain o.Ne (width (type.Int signed bits)) (x ∷ constant 0 ∷ [])) h (record { args = (n, (refl, tt)); guard = tt; few = omega arith; kind = tt })

  pub assigned_gives : (ops : List OpTree) (g : Given) (to : CType) → Ready ops → GivenIsNear g → Gives (assigned ops g to)
  assigned_gives ops g to h n = let v = valued_gives ops g h n in converted_gives (valued ops g).ops (kind_of g) to (valued ops g).operand v.ops v.near

  pub balanced_gives : (ops : List OpTree) (g : Given) (to : CType) → Ready ops → GivenIsNear g → Gives (balanced ops g to)
  balanced_gives ops g to h n =
      let v = assigned_gives ops g (promoted (kind_of g)) h n in converted_gives (promoted_value ops g).ops (promoted (kind_of g)) to (promoted_value ops g).operand v.ops v.near

  -- ---- guards

  abbrev pub GuardsAreNear : List Guard → Type 0
  GuardsAreNear [] = Unit {0}
  GuardsAreNear (g ∷ gs) = IsNear g.test × IsNearIf g.made × GuardsAreNear gs

  pub outside_near : (gs : List Guard) → GuardsAreNear gs → GuardsAreNear (outside gs)
  outside_near [] h = tt
  outside_near (g ∷ gs) h = h.2

  pub record GuardedIsReady (x : Guarded) : Type 0 where
    pub ops : Ready x.ops
    pub guards : GuardsAreNear x.guards
    pub bit : IsNearIf x.bit

  own_gives : (ops : List OpTree) (g : Guard) → Ready ops → IsNear g.test → Gives (own_bit ops g)
  own_gives ops g h n = either g.holds where
    either : (b : Bool) → Gives (if b then gives ops g.test else added ops (plain o.Not 1 (g.test ∷ [])))
    either true = record { ops = h; near = n }
    either false = added_gives ops (plain o.Not 1 (g.test ∷ [])) h (record { args = (n, tt); guard = tt; few = omega arith; kind = tt })

  under_gives : (outer : Option Operand) (own : Emitted) → IsNearIf outer → Gives own → Gives (under outer own)
  under_gives None own n h = h
  under_gives (Some x) own n h = added_gives own.ops (plain o.And 1 (x ∷ own.operand ∷ [])) h.ops (record { args = (n, (h.near, tt)); guard = tt; few = omega arith; kind = tt })

  bit_gives : (ops : List OpTree) (outer : Option Operand) (g : Guard) (made : Option Operand) → Ready ops → IsNearIf outer → IsNear g.test → IsNearIf made → Gives (bit_of ops outer g made)
  bit_gives ops outer g None h n t m = under_gives outer (own_bit ops g) n (own_gives ops g h t)
  bit_gives ops outer g (Some x) h n t m = record { ops = h; near = m }

  pub guarded_ready : (ops : List OpTree) (gs : List Guard) → Ready ops → GuardsAreNear gs → GuardedIsReady (guarded ops gs)
  guarded_ready ops [] h n = record { ops = h; guards = tt; bit = tt }
  guarded_ready ops (g ∷ gs) h n =
      let r = guarded ops gs in
      let f = guarded_ready ops gs h n.2 in
      let b = bit_gives r.ops r.bit g g.made f.ops f.bit n.0 n.1 in
      record { ops = b.ops; guards = (n.0, b.near, f.guards); bit = b.near }
