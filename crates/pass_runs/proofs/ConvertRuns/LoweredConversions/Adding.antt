-- Operations are added whose operands are there and have their widths.
use Rattle.std.proofs.Common.{◌≡◌, ◌∙◌, ◌<◌, ◌≤◌, ℕ, zero, suc, ◌^◌, ◌%◌, ◌-◌, Bool, true, false, ℤ, pos, negsuc, refl, ap, sym, subst, arith, List, [], ◌∷◌, ◌++◌, append_assoc, append-nil, length, length-append, Option, Some, None, if◌then◌else◌}
use Rattle.std.specs.Prelude.{nat_lt, nat_le, nat_eq}
use Rattle.std.proofs.lemmas.Nat.{mod_below}
use Rattle.c_token.specs.declared.ctype.CType.{CType}
use Rattle.c_token.specs.declared.ctype.CType.TheVariants as type
use Rattle.c_value.specs.Values.{width, is_signed, promoted, convert, number_of, pattern}
use Rattle.ir_core.specs.declared.body.OpKind.TheVariants as o
use Rattle.ir_core.specs.declared.body.Operand.{Operand}
use Rattle.ir_core.specs.declared.body.Out.{Out}
use Rattle.ir_core.specs.declared.body.Source.{Source}
use Rattle.ir_core.specs.declared.body.Source.TheVariants as source
use Rattle.ir_core.specs.Value.{count_of}
use Rattle.ir_core.specs.Timing.{result_bits}
use Rattle.ir_core.specs.Bodies.{OpTree}
use Rattle.passes.specs.Lowering.Operations as lower
use Rattle.passes.specs.Lowering.Operations.{Emitted, Given, added, constant, plain, defined, conversion, resized, converted, converted_from, valued, tested, assigned, promoted_value, balanced, kind_of}
use Rattle.passes.specs.Lowering.Guards.{Guard, Guarded, guarded, outside, own_bit, under, bit_of}
use Rattle.passes.proofs.Equalities.{number_same}
use Rattle.pass_runs.specs.ConvertRuns.Typed.{IsEarly, AreEarly, HasBits, GuardIsTyped, OpIsTyped, OpsAreTyped, OutsAreTyped}
use Rattle.pass_runs.proofs.ConvertRuns.Joining.{has_more, has_early, outs_more, ops_more, next_has}

-- ---- more operations

abbrev pub Grows : List OpTree → List OpTree → Type 0
Grows xs ys = (more : List OpTree) × (ys ≡ xs ++ more)

pub stays : (xs : List OpTree) → Grows xs xs
stays xs = ([], sym (append-nil xs))

pub grows_on : (xs ys zs : List OpTree) → Grows xs ys → Grows ys zs → Grows xs zs
grows_on xs ys zs h k = (h.0 ++ k.0, k.1 ∙ ap (λ l. l ++ k.0) h.1 ∙ append_assoc xs h.0 k.0)

early_more : (m k : ℕ) → m ≤ k → (s : Source) → IsEarly m s → IsEarly k s
early_more m k le (source.Constant w) h = tt
early_more m k le (source.Variable v) h = tt
early_more m k le (source.Result op) h = omega (arith, h, le)

all_early : (m k : ℕ) → m ≤ k → (xs : List Operand) → AreEarly m xs → AreEarly k xs
all_early m k le [] h = tt
all_early m k le (x ∷ xs) h = (early_more m k le x.value h.0, all_early m k le xs h.1)

pub early_on : (xs ys : List OpTree) → Grows xs ys → (args : List Operand) → AreEarly (length xs) args → AreEarly (length ys) args
early_on xs ys g args h =
    let e = length-append xs g.0 in
    let q : length ys ≡ length (xs ++ g.0) = ap length g.1 in
    all_early (length xs) (length ys) (omega (arith, e, q)) args h

-- ---- widths of types

power_positive : (n : ℕ) → 0 < 2 ^ n
power_positive zero = omega arith
power_positive (suc n) = let h = power_positive n in omega (arith, h)

-- a type has so many patterns
width_count : (k : CType) → 2 ^ width k ≡ count_of (width k)
width_count type.Bool = refl
width_count (type.Int signed bits) = by (nat_le bits 8) (nat_le bits 16) (nat_le bits 32) where
  by : (a b c : Bool) → 2 ^ (if a then 8 else (if b then 16 else (if c then 32 else 64))) ≡ count_of (if a then 8 else (if b then 16 else (if c then 32 else 64)))
  by true b c = refl
  by false true c = refl
  by false false true = refl
  by false false false = refl

pattern_below : (k : CType) (n : ℤ) → pattern k n < 2 ^ width k
pattern_below k (pos a) = mod_below a (2 ^ width k) (power_positive (width k))
pattern_below k (negsuc a) = let h = power_positive (width k) in let c = 2 ^ width k in let r = a % c in let q : c - 1 - r < c = omega (arith, h) in q

pattern_fits : (k : CType) (n : ℤ) → pattern k n < count_of (width k)
pattern_fits k n = subst (λ c. pattern k n < c) (width_count k) (pattern_below k n)

module _ (widths words : List ℕ) where
  pub has_on : (xs ys : List OpTree) → Grows xs ys → (n : ℕ) (s : Source) → HasBits widths words xs n s → HasBits widths words ys n s
  has_on xs ys g n s h = subst (λ l. HasBits widths words l n s) (sym g.1) (has_more widths words xs g.0 n s h)

  pub guard_on : (xs ys : List OpTree) → Grows xs ys → (x : Option Operand) → GuardIsTyped widths words xs x → GuardIsTyped widths words ys x
  guard_on xs ys g None h = tt
  guard_on xs ys g (Some x) h = has_on xs ys g 1 x.value h

  pub outs_on : (xs ys : List OpTree) → Grows xs ys → (os : List Out) → OutsAreTyped widths words xs os → OutsAreTyped widths words ys os
  outs_on xs ys g os h = subst (λ l. OutsAreTyped widths words l os) (sym g.1) (outs_more widths words xs g.0 os h)

  -- Operations are added, and the operand is there and has so many bits.
  pub record Fine (base : List OpTree) (k : ℕ) (x : Emitted) : Type 0 where
    pub typed : OpsAreTyped widths words [] x.ops
    pub grows : Grows base x.ops
    pub has : HasBits widths words x.ops k x.operand.value

  pub added_fine : (ops : List OpTree) (op : OpTree) → OpsAreTyped widths words [] ops → OpIsTyped widths words ops op → Fine ops (result_bits op.kind op.bits) (added ops op)
  added_fine ops op h g = record { typed = ops_more widths words [] ops op h g; grows = (op ∷ [], refl); has = next_has widths words ops op }

  pub nothing_fine : (ops : List OpTree) (k : ℕ) (x : Operand) → OpsAreTyped widths words [] ops → HasBits widths words ops k x.value → Fine ops k (record { ops = ops; operand = x })
  nothing_fine ops k x h g = record { typed = h; grows = stays ops; has = g }

  pub fine_on : (base ops : List OpTree) (k : ℕ) (x : Emitted) → Grows base ops → Fine ops k x → Fine base k x
  fine_on base ops k x g h = record { typed = h.typed; grows = grows_on base ops x.ops g h.grows; has = h.has }

  -- one operand alone, and two
  pub one_early : (ops : List OpTree) (k : ℕ) (x : Operand) → HasBits widths words ops k x.value → AreEarly (length ops) (x ∷ [])
  one_early ops k x h = (has_early widths words ops k x.value h, tt)

  pub two_early : (ops : List OpTree) (k j : ℕ) (x y : Operand) → HasBits widths words ops k x.value → HasBits widths words ops j y.value → AreEarly (length ops) (x ∷ y ∷ [])
  two_early ops k j x y h g = (has_early widths words ops k x.value h, (has_early widths words ops j y.value g, tt))

  -- ---- conversions

  conversion_fine : (ops : List OpTree) (from to : CType) (x : Operand) → OpsAreTyped widths words [] ops → AreEarly (length ops) (x ∷ []) → Fine ops (width to) (added ops (conversion from to x))
  conversion_fine ops from type.Bool x h g = added_fine ops (plain o.Truth (width from) (x ∷ [])) h (record { args = g; guard = tt; access = tt })
  conversion_fine ops from (type.Int signed bits) x h g = either (nat_lt (width from) (width (type.Int signed bits))) where
    either : (b : Bool) → Fine ops (width (type.Int signed bits)) (added ops (if b then defined o.Widen (is_signed from) (width (type.Int signed bits)) (x ∷ []) else plain o.Narrow (width (type.Int signed bits)) (x ∷ [])))
    either true = added_fine ops (defined o.Widen (is_signed from) (width (type.Int signed bits)) (x ∷ [])) h (record { args = g; guard = tt; access = tt })
    either false = added_fine ops (plain o.Narrow (width (type.Int signed bits)) (x ∷ [])) h (record { args = g; guard = tt; access = tt })

  resized_fine : (ops : List OpTree) (from to : CType) (x : Operand) → OpsAreTyped widths words [] ops → HasBits widths words ops (width from) x.value → Fine ops (width to) (resized ops from to x)
  resized_fine ops from to x h g = either (nat_eq (width from) (width to)) refl where
    either : (b : Bool) → nat_eq (width from) (width to) ≡ b → Fine ops (width to) (if b then record { ops = ops; operand = x } else added ops (conversion from to x))
    either true e = nothing_fine ops (width to) x h (subst (λ k. HasBits widths words ops k x.value) (number_same (width from) (width to) e) g)
    either false e = conversion_fine ops from to x h (one_early ops (width from) x g)

  pub converted_fine : (ops : List OpTree) (from to : CType) (x : Operand) → OpsAreTyped widths words [] ops → HasBits widths words ops (width from) x.value → Fine ops (width to) (converted ops from to x)
  converted_fine ops from to x h g = at x.value where
    at : (s : Source) → Fine ops (width to) (converted_from ops from to x s)
    at (source.Constant w) = record { typed = h; grows = stays ops; has = pattern_fits to (convert to (number_of from w)) }
    at (source.Variable v) = resized_fine ops from to x h g
    at (source.Result i) = resized_fine ops from to x h g

  abbrev pub GivenTyped : List OpTree → Given → Type 0
  GivenTyped ops (lower.truth x) = HasBits widths words ops 1 x.value
  GivenTyped ops (lower.value x k) = HasBits widths words ops (width k) x.value

  pub valued_fine : (ops : List OpTree) (g : Given) → OpsAreTyped widths words [] ops → GivenTyped ops g → Fine ops (width (kind_of g)) (valued ops g)
  valued_fine ops (lower.truth x) h e = added_fine ops (plain o.Widen 32 (x ∷ [])) h (record { args = one_early ops 1 x e; guard = tt; access = tt })
  valued_fine ops (lower.value x k) h e = nothing_fine ops (width k) x h e

  pub tested_fine : (ops : List OpTree) (g : Given) → OpsAreTyped widths words [] ops → GivenTyped ops g → Fine ops 1 (tested ops g)
  tested_fine ops (lower.truth x) h e = nothing_fine ops 1 x h e
  tested_fine ops (lower.value x type.Bool) h e = nothing_fine ops 1 x h e
  tested_fine ops (lower.value x (type.Int signed bits)) h e =
      added_fine ops (plain o.Ne (width (type.Int signed bits)) (x ∷ constant 0 ∷ [])) h (record { args = (has_early widths words ops (width (type.Int signed bits)) x.value e, (tt, tt)); guard = tt; access = tt })

  pub assigned_fine : (ops : List OpTree) (g : Given) (to : CType) → OpsAreTyped widths words [] ops → GivenTyped ops g → Fine ops (width to) (assigned ops g to)
  assigned_fine ops g to h e =
      let v = valued_fine ops g h e in
      fine_on ops (valued ops g).ops (width to) (assigned ops g to) v.grows (converted_fine (valued ops g).ops (kind_of g) to (valued ops g).operand v.typed v.has)

  pub balanced_fine : (ops : List OpTree) (g : Given) (to : CType) → OpsAreTyped widths words [] ops → GivenTyped ops g → Fine ops (width to) (balanced ops g to)
  balanced_fine ops g to h e =
      let v = assigned_fine ops g (promoted (kind_of g)) h e in
      fine_on ops (promoted_value ops g).ops (width to) (balanced ops g to) v.grows (converted_fine (promoted_value ops g).ops (promoted (kind_of g)) to (promoted_value ops g).operand v.typed v.has)

  -- ---- guards

  abbrev pub GuardsTyped : List OpTree → List Guard → Type 0
  GuardsTyped ops [] = Unit {0}
  GuardsTyped ops (g ∷ gs) = HasBits widths words ops 1 g.test.value × GuardIsTyped widths words ops g.made × GuardsTyped ops gs

  pub guards_on : (xs ys : List OpTree) → Grows xs ys → (gs : List Guard) → GuardsTyped xs gs → GuardsTyped ys gs
  guards_on xs ys e [] h = tt
  guards_on xs ys e (g ∷ gs) h = (has_on xs ys e 1 g.test.value h.0, guard_on xs ys e g.made h.1, guards_on xs ys e gs h.2)

  pub outside_typed : (ops : List OpTree) (gs : List Guard) → GuardsTyped ops gs → GuardsTyped ops (outside gs)
  outside_typed ops [] h = tt
  outside_typed ops (g ∷ gs) h = h.2

  pub record GuardedFine (base : List OpTree) (x : Guarded) : Type 0 where
    pub typed : OpsAreTyped widths words [] x.ops
    pub grows : Grows base x.ops
    pub guards : GuardsTyped x.ops x.guards
    pub bit : GuardIsTyped widths words x.ops x.bit

  own_fine : (ops : List OpTree) (g : Guard) → OpsAreTyped widths words [] ops → HasBits widths words ops 1 g.test.value → Fine ops 1 (own_bit ops g)
  own_fine ops g h e = either g.holds where
    either : (b : Bool) → Fine ops 1 (if b then record { ops = ops; operand = g.test } else added ops (plain o.Not 1 (g.test ∷ [])))
    either true = nothing_fine ops 1 g.test h e
    either false = added_fine ops (plain o.Not 1 (g.test ∷ [])) h (record { args = one_early ops 1 g.test e; guard = tt; access = tt })

  under_fine : (base : List OpTree) (outer : Option Operand) (own : Emitted) → GuardIsTyped widths words base outer → Fine base 1 own → Fine base 1 (under outer own)
  under_fine base None own h f = f
  under_fine base (Some x) own h f =
      let op = plain o.And 1 (x ∷ own.operand ∷ []) in
      fine_on base own.ops 1 (added own.ops op) f.grows (added_fine own.ops op f.typed (record { args = two_early own.ops 1 1 x own.operand (has_on base own.ops f.grows 1 x.value h) f.has; guard = tt; access = tt }))

  bit_fine : (ops : List OpTree) (outer : Option Operand) (g : Guard) (made : Option Operand) → OpsAreTyped widths words [] ops → GuardIsTyped widths words ops outer → HasBits widths words ops 1 g.test.value → GuardIsTyped widths words ops made
      → Fine ops 1 (bit_of ops outer g made)
  bit_fine ops outer g None h e t m = under_fine ops outer (own_bit ops g) e (own_fine ops g h t)
  bit_fine ops outer g (Some x) h e t m = nothing_fine ops 1 x h m

  pub guarded_fine : (ops : List OpTree) (gs : List Guard) → OpsAreTyped widths words [] ops → GuardsTyped ops gs → GuardedFine ops (guarded ops gs)
  guarded_fine ops [] h e = record { typed = h; grows = stays ops; guards = tt; bit = tt }
  guarded_fine ops (g ∷ gs) h e =
      let r = guarded ops gs in
      let f = guarded_fine ops gs h e.2 in
      let test = has_on ops r.ops f.grows 1 g.test.value e.0 in
      let b = bit_fine r.ops r.bit g g.made f.typed f.bit test (guard_on ops r.ops f.grows g.made e.1) in
      let x = bit_of r.ops r.bit g g.made in
      record {
        typed = b.typed;
        grows = grows_on ops r.ops x.ops f.grows b.grows;
        guards = (has_on r.ops x.ops b.grows 1 g.test.value test, b.has, guards_on r.ops x.ops b.grows r.guards f.guards);
        bit = b.has;
      }
