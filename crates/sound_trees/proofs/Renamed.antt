-- What operations of each kind are, where their operands stand for others.
use Rattle.std.specs.Prelude.{◌-◌}
use Rattle.std.specs.Option.{option_map}
use Rattle.std.proofs.Common.{◌≡◌, ◌∙◌, ◌≤◌, ℕ, suc, Bool, true, ◌&&◌, refl, ap, sym, arith, List, [], ◌∷◌, map, length, Option, Some, None, is_some}
use Rattle.ir_core.specs.declared.body.OpKind.{OpKind}
use Rattle.ir_core.specs.declared.body.OpKind.TheVariants as o
use Rattle.ir_core.specs.declared.body.Operand.{Operand}
use Rattle.ir_core.specs.Value.{is_defined}
use Rattle.ir_core.specs.Bodies.{OpTree, Shapes}
use Rattle.passes.specs.Numbering.Constants as n
use Rattle.passes.specs.Lowering.Copies as lower
use Rattle.passes.specs.Conversion.Joining.{is_conversion}
use Rattle.pass_runs.specs.ConvertRuns.Typed.{HasBits}
use Rattle.clock_runs.specs.Premises.{IsSoundAccess}
use Rattle.sound_trees.specs.Ready.{IsNear, AreNear, IsNearIf, HasFew, AllHave, IsCheckedSum, IsChecked, OpIsReady}

pub length_map : {A B : Type 0} (f : A → B) (xs : List A) → length (map f xs) ≡ length xs
length_map f [] = refl
length_map f (x ∷ xs) = ap suc (length_map f xs)

pub few_map : (f : Operand → Operand) (kind : OpKind) (xs : List Operand) → HasFew kind xs → HasFew kind (map f xs)
few_map f o.Load xs h = tt
few_map f o.Store xs h = tt
few_map f o.Widen xs h = let l = length_map f xs in omega (arith, l, h)
few_map f o.Narrow xs h = let l = length_map f xs in omega (arith, l, h)
few_map f o.Truth xs h = let l = length_map f xs in omega (arith, l, h)
few_map f kind xs h = let l = length_map f xs in omega (arith, l, h)

pub few_three : (kind : OpKind) (xs : List Operand) → lower.is_computed kind ≡ true → HasFew kind xs → length xs ≤ 3
few_three o.Load xs e h = absurd cc
few_three o.Store xs e h = absurd cc
few_three o.Widen xs e h = omega (arith, h)
few_three o.Narrow xs e h = omega (arith, h)
few_three o.Truth xs e h = omega (arith, h)
few_three kind xs e h = h

pub few_one : (kind : OpKind) (xs : List Operand) → is_conversion kind ≡ true → HasFew kind xs → length xs ≤ 1
few_one o.Widen xs e h = h
few_one o.Narrow xs e h = h
few_one o.Truth xs e h = h
few_one kind xs e h = absurd cc

pub computed_same : (kind : OpKind) → n.is_computed kind ≡ lower.is_computed kind
computed_same o.Load = refl
computed_same o.Store = refl
computed_same o.Copy = refl
computed_same kind = refl

pub conversion_computed : (kind : OpKind) → is_conversion kind ≡ true → lower.is_computed kind ≡ true
conversion_computed o.Widen e = refl
conversion_computed o.Narrow e = refl
conversion_computed o.Truth e = refl
conversion_computed kind e = absurd cc

-- C gives each conversion a value
pub conversion_defined : (kind : OpKind) (signed : Bool) (bits : ℕ) (args : List ℕ) → is_conversion kind ≡ true → (n.is_computed kind && is_defined kind signed bits args) ≡ true
conversion_defined o.Widen signed bits args e = refl
conversion_defined o.Narrow signed bits args e = refl
conversion_defined o.Truth signed bits args e = refl
conversion_defined kind signed bits args e = absurd cc

module _ (shapes : Shapes) (words : List ℕ) (stores : Bool) (f : Operand → Operand) (done ops : List OpTree)
    (near : (x : Operand) → IsNear x → IsNear (f x)) (has : (x : Operand) (k : ℕ) → HasBits shapes.widths words done k x.value → HasBits shapes.widths words ops k (f x).value) where
  pub args_near : (xs : List Operand) → AreNear xs → AreNear (map f xs)
  args_near [] h = tt
  args_near (x ∷ xs) h = (near x h.0, args_near xs h.1)

  pub guard_near : (x : Option Operand) → IsNearIf x → IsNearIf (option_map f x)
  guard_near None h = tt
  guard_near (Some x) h = near x h

  args_have : (k : ℕ) (xs : List Operand) → AllHave shapes words stores done k xs → AllHave shapes words stores ops k (map f xs)
  args_have k [] h = tt
  args_have k (x ∷ xs) h = (has x k h.0, args_have k xs h.1)

  access_same : (op new : OpTree) (m : ℕ) → new.flag ≡ op.flag → new.array ≡ op.array → (k : ℕ) → m ≡ k → IsSoundAccess shapes op k → IsSoundAccess shapes new m
  access_same op new m e a k l h = record {
    flagged = ap is_some e ∙ h.flagged;
    subscripted = λ array q. let z = h.subscripted array (sym a ∙ q) in omega (arith, l, z);
  }

  sum_same : (op : OpTree) (g : Option Operand) → (is_some op.flag ≡ true → IsCheckedSum shapes words stores done op) → is_some op.flag ≡ true → IsCheckedSum shapes words stores ops (record op { args = map f op.args; guard = g })
  sum_same op g h e = let z = h e in record { signed = z.signed; some = z.some; widths = args_have op.bits op.args z.widths }

  kind_same : (op : OpTree) (g : Option Operand) (kind : OpKind) → IsChecked shapes words stores done op kind → IsChecked shapes words stores ops (record op { args = map f op.args; guard = g }) kind
  kind_same op g o.Load h = access_same op (record op { args = map f op.args; guard = g }) (length (map f op.args)) refl refl (length op.args) (length_map f op.args) h
  kind_same op g o.Store h =
      (h.0, access_same op (record op { args = map f op.args; guard = g }) (length (map f op.args) - 1) refl refl (length op.args - 1) (ap (λ n. n - 1) (length_map f op.args)) h.1)
  kind_same op g o.Add h = sum_same op g h
  kind_same op g o.Sub h = sum_same op g h
  kind_same op g o.Div h = args_have op.bits op.args h
  kind_same op g o.Rem h = args_have op.bits op.args h
  kind_same op g kind h = tt

  -- an operation on what stands for its operands, with another guard
  pub ready_as : (op : OpTree) (g : Option Operand) → OpIsReady shapes words stores done op → IsNearIf g → OpIsReady shapes words stores ops (record op { args = map f op.args; guard = g })
  ready_as op g h n = record { args = args_near op.args h.args; guard = n; few = few_map f op.kind op.args h.few; kind = kind_same op g op.kind h.kind }

  pub op_ready_as : (op : OpTree) → OpIsReady shapes words stores done op → OpIsReady shapes words stores ops (record op { args = map f op.args; guard = option_map f op.guard })
  op_ready_as op h = ready_as op (option_map f op.guard) h (guard_near op.guard h.guard)
