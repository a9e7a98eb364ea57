-- Operations are added whose operands come before.
use Rattle.std.proofs.Common.{◌≡◌, ◌≤◌, ℕ, ◌+◌, Bool, true, false, refl, subst, arith, List, [], ◌∷◌, ◌++◌, length, length-append, Option, Some, None, if◌then◌else◌}
use Rattle.std.specs.Prelude.{nat_lt, nat_eq}
use Rattle.c_token.specs.declared.ctype.CType.{CType}
use Rattle.c_token.specs.declared.ctype.CType.TheVariants as type
use Rattle.c_value.specs.Values.{width, is_signed, promoted}
use Rattle.ir_core.specs.declared.body.OpKind.TheVariants as o
use Rattle.ir_core.specs.declared.body.Operand.{Operand}
use Rattle.ir_core.specs.declared.body.Source.{Source}
use Rattle.ir_core.specs.declared.body.Source.TheVariants as source
use Rattle.ir_core.specs.Bodies.{OpTree}
use Rattle.passes.specs.Lowering.Operations as lower
use Rattle.passes.specs.Lowering.Operations.{Emitted, Given, added, constant, plain, defined, conversion, resized, converted, converted_from, valued, tested, assigned, promoted_value, balanced, kind_of}
use Rattle.passes.specs.Lowering.Guards.{Guard, Guarded, guarded, outside, own_bit, under, bit_of}
use Rattle.passes.specs.NumberRuns.Ordered.{IsEarly, AreEarly, IsEarlyIfThere, OpIsOrdered, OpsAreOrdered}

pub early_more : (m k : ℕ) → m ≤ k → (s : Source) → IsEarly m s → IsEarly k s
early_more m k le (source.Constant w) h = tt
early_more m k le (source.Variable v) h = tt
early_more m k le (source.Result op) h = omega (arith, h, le)

pub all_early_more : (m k : ℕ) → m ≤ k → (xs : List Operand) → AreEarly m xs → AreEarly k xs
all_early_more m k le [] h = tt
all_early_more m k le (x ∷ xs) h = (early_more m k le x.value h.0, all_early_more m k le xs h.1)

pub early_if_more : (m k : ℕ) → m ≤ k → (x : Option Operand) → IsEarlyIfThere m x → IsEarlyIfThere k x
early_if_more m k le None h = tt
early_if_more m k le (Some x) h = early_more m k le x.value h

ordered_more : (n : ℕ) (ops : List OpTree) (op : OpTree) → OpsAreOrdered n ops → OpIsOrdered (n + length ops) op → OpsAreOrdered n (ops ++ op ∷ [])
ordered_more n [] op h g = (subst (λ m. OpIsOrdered m op) (let e : n + 0 ≡ n = omega arith in e) g, tt)
ordered_more n (x ∷ ops) op h g = (h.0, ordered_more (n + 1) ops op h.1 (subst (λ m. OpIsOrdered m op) (let e : n + length (x ∷ ops) ≡ n + 1 + length ops = omega arith in e) g))

-- Operations are added to n of them, and the operand is there.
pub record Fine (n : ℕ) (x : Emitted) : Type 0 where
  pub ordered : OpsAreOrdered 0 x.ops
  pub more : n ≤ length x.ops
  pub early : IsEarly (length x.ops) x.operand.value

pub added_fine : (ops : List OpTree) (op : OpTree) → OpsAreOrdered 0 ops → OpIsOrdered (length ops) op → Fine (length ops) (added ops op)
added_fine ops op h g = record {
  ordered = ordered_more 0 ops op h (subst (λ m. OpIsOrdered m op) (let e : length ops ≡ 0 + length ops = omega arith in e) g);
  more = let e = length-append ops (op ∷ []) in omega (arith, e);
  early = let e = length-append ops (op ∷ []) in omega (arith, e);
}

pub nothing_fine : (ops : List OpTree) (x : Operand) → OpsAreOrdered 0 ops → IsEarly (length ops) x.value → Fine (length ops) (record { ops = ops; operand = x })
nothing_fine ops x h g = record { ordered = h; more = omega arith; early = g }

pub fine_on : (n m : ℕ) (x : Emitted) → n ≤ m → Fine m x → Fine n x
fine_on n m x le h = let more = h.more in record { ordered = h.ordered; more = omega (arith, le, more); early = h.early }

-- ---- conversions

conversion_ordered : (n : ℕ) (from to : CType) (x : Operand) → IsEarly n x.value → OpIsOrdered n (conversion from to x)
conversion_ordered n from type.Bool x h = record { args = (h, tt); guard = tt; flag = refl; operands = tt }
conversion_ordered n from (type.Int signed bits) x h = either (nat_lt (width from) (width (type.Int signed bits))) where
  either : (b : Bool) → OpIsOrdered n (if b then defined o.Widen (is_signed from) (width (type.Int signed bits)) (x ∷ []) else plain o.Narrow (width (type.Int signed bits)) (x ∷ []))
  either true = record { args = (h, tt); guard = tt; flag = refl; operands = omega arith }
  either false = record { args = (h, tt); guard = tt; flag = refl; operands = tt }

resized_fine : (ops : List OpTree) (from to : CType) (x : Operand) → OpsAreOrdered 0 ops → IsEarly (length ops) x.value → Fine (length ops) (resized ops from to x)
resized_fine ops from to x h g = either (nat_eq (width from) (width to)) where
  either : (b : Bool) → Fine (length ops) (if b then record { ops = ops; operand = x } else added ops (conversion from to x))
  either true = nothing_fine ops x h g
  either false = added_fine ops (conversion from to x) h (conversion_ordered (length ops) from to x g)

pub converted_fine : (ops : List OpTree) (from to : CType) (x : Operand) → OpsAreOrdered 0 ops → IsEarly (length ops) x.value → Fine (length ops) (converted ops from to x)
converted_fine ops from to x h g = at x.value where
  at : (s : Source) → Fine (length ops) (converted_from ops from to x s)
  at (source.Constant w) = record { ordered = h; more = omega arith; early = tt }
  at (source.Variable v) = resized_fine ops from to x h g
  at (source.Result i) = resized_fine ops from to x h g

abbrev pub GivenEarly : ℕ → Given → Type 0
GivenEarly n (lower.truth x) = IsEarly n x.value
GivenEarly n (lower.value x k) = IsEarly n x.value

pub given_more : (m k : ℕ) → m ≤ k → (g : Given) → GivenEarly m g → GivenEarly k g
given_more m k le (lower.truth x) h = early_more m k le x.value h
given_more m k le (lower.value x t) h = early_more m k le x.value h

pub valued_fine : (ops : List OpTree) (g : Given) → OpsAreOrdered 0 ops → GivenEarly (length ops) g → Fine (length ops) (valued ops g)
valued_fine ops (lower.truth x) h e = added_fine ops (plain o.Widen 32 (x ∷ [])) h (record { args = (e, tt); guard = tt; flag = refl; operands = omega arith })
valued_fine ops (lower.value x k) h e = nothing_fine ops x h e

pub tested_fine : (ops : List OpTree) (g : Given) → OpsAreOrdered 0 ops → GivenEarly (length ops) g → Fine (length ops) (tested ops g)
tested_fine ops (lower.truth x) h e = nothing_fine ops x h e
tested_fine ops (lower.value x type.Bool) h e = nothing_fine ops x h e
tested_fine ops (lower.value x (type.Int signed bits)) h e = added_fine ops (plain o.Ne (width (type.Int signed bits)) (x ∷ constant 0 ∷ [])) h (record { args = (e, (tt, tt)); guard = tt; flag = refl; operands = tt })

pub assigned_fine : (ops : List OpTree) (g : Given) (to : CType) → OpsAreOrdered 0 ops → GivenEarly (length ops) g → Fine (length ops) (assigned ops g to)
assigned_fine ops g to h e =
    let v = valued_fine ops g h e in
    fine_on (length ops) (length (valued ops g).ops) (assigned ops g to) v.more (converted_fine (valued ops g).ops (kind_of g) to (valued ops g).operand v.ordered v.early)

pub balanced_fine : (ops : List OpTree) (g : Given) (to : CType) → OpsAreOrdered 0 ops → GivenEarly (length ops) g → Fine (length ops) (balanced ops g to)
balanced_fine ops g to h e =
    let v = assigned_fine ops g (promoted (kind_of g)) h e in
    fine_on (length ops) (length (promoted_value ops g).ops) (balanced ops g to) v.more (converted_fine (promoted_value ops g).ops (promoted (kind_of g)) to (promoted_value ops g).operand v.ordered v.early)

-- ---- guards

abbrev pub GuardsEarly : ℕ → List Guard → Type 0
GuardsEarly n [] = Unit {0}
GuardsEarly n (g ∷ gs) = IsEarly n g.test.value × IsEarlyIfThere n g.made × GuardsEarly n gs

pub guards_more : (m k : ℕ) → m ≤ k → (gs : List Guard) → GuardsEarly m gs → GuardsEarly k gs
guards_more m k le [] h = tt
guards_more m k le (g ∷ gs) h = (early_more m k le g.test.value h.0, early_if_more m k le g.made h.1, guards_more m k le gs h.2)

pub outside_early : (n : ℕ) (gs : List Guard) → GuardsEarly n gs → GuardsEarly n (outside gs)
outside_early n [] h = tt
outside_early n (g ∷ gs) h = h.2

pub record GuardedFine (n : ℕ) (x : Guarded) : Type 0 where
  pub ordered : OpsAreOrdered 0 x.ops
  pub more : n ≤ length x.ops
  pub guards : GuardsEarly (length x.ops) x.guards
  pub bit : IsEarlyIfThere (length x.ops) x.bit

own_fine : (ops : List OpTree) (g : Guard) → OpsAreOrdered 0 ops → IsEarly (length ops) g.test.value → Fine (length ops) (own_bit ops g)
own_fine ops g h e = either g.holds where
  either : (b : Bool) → Fine (length ops) (if b then record { ops = ops; operand = g.test } else added ops (plain o.Not 1 (g.test ∷ [])))
  either true = nothing_fine ops g.test h e
  either false = added_fine ops (plain o.Not 1 (g.test ∷ [])) h (record { args = (e, tt); guard = tt; flag = refl; operands = tt })

under_fine : (n : ℕ) (outer : Option Operand) (own : Emitted) → IsEarlyIfThere n outer → Fine n own → Fine n (under outer own)
under_fine n None own h f = f
under_fine n (Some x) own h f =
    let op = plain o.And 1 (x ∷ own.operand ∷ []) in
    fine_on n (length own.ops) (added own.ops op) f.more (added_fine own.ops op f.ordered (record { args = (early_more n (length own.ops) f.more x.value h, (f.early, tt)); guard = tt; flag = refl; operands = tt }))

bit_fine : (ops : List OpTree) (outer : Option Operand) (g : Guard) (made : Option Operand) → OpsAreOrdered 0 ops → IsEarlyIfThere (length ops) outer → IsEarly (length ops) g.test.value → IsEarlyIfThere (length ops) made
    → Fine (length ops) (bit_of ops outer g made)
bit_fine ops outer g None h e t m = under_fine (length ops) outer (own_bit ops g) e (own_fine ops g h t)
bit_fine ops outer g (Some x) h e t m = nothing_fine ops x h m

pub guarded_fine : (ops : List OpTree) (gs : List Guard) → OpsAreOrdered 0 ops → GuardsEarly (length ops) gs → GuardedFine (length ops) (guarded ops gs)
guarded_fine ops [] h e = record { ordered = h; more = omega arith; guards = tt; bit = tt }
guarded_fine ops (g ∷ gs) h e =
    let r = guarded ops gs in
    let f = guarded_fine ops gs h e.2 in
    let test = early_more (length ops) (length r.ops) f.more g.test.value e.0 in
    let b = bit_fine r.ops r.bit g g.made f.ordered f.bit test (early_if_more (length ops) (length r.ops) f.more g.made e.1) in
    let x = bit_of r.ops r.bit g g.made in
    let m1 = f.more in
    let m2 = b.more in record {
      ordered = b.ordered;
      more = omega (arith, m1, m2);
      guards = (early_more (length r.ops) (length x.ops) b.more g.test.value test, b.early, guards_more (length r.ops) (length x.ops) b.more r.guards f.guards);
      bit = b.early;
    }
