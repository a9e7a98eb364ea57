-- Operations are added that are valid.
use Rattle.std.specs.Prelude.{nat_lt, nat_eq}
use Rattle.std.proofs.Common.{◌≡◌, ℕ, Bool, true, false, refl, ap, sym, subst, arith, List, [], ◌∷◌, ◌++◌, append-nil, append_assoc, Option, Some, None, if◌then◌else◌}
use Rattle.std.proofs.lemmas.Bool.{ltb-true}
use Rattle.c_token.specs.declared.ctype.CType.{CType}
use Rattle.c_token.specs.declared.ctype.CType.TheVariants as type
use Rattle.c_value.specs.Values.{width, is_signed, promoted}
use Rattle.ir_core.specs.declared.body.OpKind.TheVariants as o
use Rattle.ir_core.specs.declared.body.Operand.{Operand}
use Rattle.ir_core.specs.declared.body.Source.{Source}
use Rattle.ir_core.specs.declared.body.Source.TheVariants as source
use Rattle.ir_core.specs.Timing.{result_bits}
use Rattle.ir_core.specs.Bodies.{OpTree}
use Rattle.passes.specs.Lowering.Operations as lower
use Rattle.passes.specs.Lowering.Operations.{Emitted, Given, gives, added, constant, plain, defined, conversion, resized, converted, converted_from, valued, tested, assigned, promoted_value, balanced, kind_of}
use Rattle.passes.specs.Lowering.Guards.{Guard, Guarded, guarded, outside, own_bit, under, bit_of}
use Rattle.passes.specs.Numbering.Constants.{word_of}
use Rattle.passes.proofs.Equalities.{number_same}
use Rattle.pass_runs.specs.ConvertRuns.Typed.{HasBits}
use Rattle.pass_runs.proofs.ConvertRuns.Joining.{next_has}
use Rattle.pass_runs.proofs.ConvertRuns.LoweredConversions.Adding.{Grows, stays, grows_on, has_on, converted_fine}
use Rattle.valid_trees.specs.Shapes.{FrameShape, words_in}
use Rattle.valid_trees.specs.Operands.{IsOperand, IsOperandIf}
use Rattle.valid_trees.specs.Operations.{OpIsValid}
use Rattle.valid_trees.specs.Bodies.{OpsAreValid}
use Rattle.valid_trees.proofs.ValidLowering.Widths.{width_is, zero_fits, beyond}

module _ (frame : FrameShape) where
  abbrev pub Is : List OpTree → ℕ → Operand → Type 0
  Is ops n x = IsOperand frame [] ops n x

  abbrev pub IsIf : List OpTree → Option Operand → Type 0
  IsIf ops x = IsOperandIf frame [] ops 1 x

  abbrev pub IsOp : List OpTree → OpTree → Type 0
  IsOp = OpIsValid frame []

  abbrev pub Valid : List OpTree → Type 0
  Valid ops = OpsAreValid frame [] [] ops

  -- ---- more operations

  pub is_on : (xs ys : List OpTree) → Grows xs ys → (n : ℕ) (x : Operand) → Is xs n x → Is ys n x
  is_on xs ys g n x h = record { has = has_on frame.widths (words_in frame) xs ys g n x.value h.has; distance = h.distance }

  pub if_on : (xs ys : List OpTree) → Grows xs ys → (x : Option Operand) → IsIf xs x → IsIf ys x
  if_on xs ys g None h = tt
  if_on xs ys g (Some x) h = is_on xs ys g 1 x h

  pub valid_more : (before xs : List OpTree) (op : OpTree) → OpsAreValid frame [] before xs → IsOp (before ++ xs) op → OpsAreValid frame [] before (xs ++ op ∷ [])
  valid_more before [] op h k = (subst (λ l. IsOp l op) (append-nil before) k, tt)
  valid_more before (x ∷ xs) op h k = (h.0, valid_more (before ++ x ∷ []) xs op h.1 (subst (λ l. IsOp l op) (sym (append_assoc before (x ∷ []) xs)) k))

  -- Operations are added, and the operand is there and has so many bits.
  pub record Gives (base : List OpTree) (k : ℕ) (x : Emitted) : Type 0 where
    pub valid : Valid x.ops
    pub grows : Grows base x.ops
    pub is_ : Is x.ops k x.operand

  pub added_gives : (ops : List OpTree) (op : OpTree) → Valid ops → IsOp ops op → Gives ops (result_bits op.kind op.bits) (added ops op)
  added_gives ops op h k = record { valid = valid_more [] ops op h k; grows = (op ∷ [], refl); is_ = record { has = next_has frame.widths (words_in frame) ops op; distance = refl } }

  pub nothing_gives : (ops : List OpTree) (k : ℕ) (x : Operand) → Valid ops → Is ops k x → Gives ops k (gives ops x)
  nothing_gives ops k x h n = record { valid = h; grows = stays ops; is_ = n }

  pub gives_on : (base ops : List OpTree) (k : ℕ) (x : Emitted) → Grows base ops → Gives ops k x → Gives base k x
  gives_on base ops k x g h = record { valid = h.valid; grows = grows_on base ops x.ops g h.grows; is_ = h.is_ }

  -- ---- conversions

  conversion_gives : (ops : List OpTree) (from to : CType) (x : Operand) → Valid ops → Is ops (width from) x → word_of x.value ≡ None → nat_eq (width from) (width to) ≡ false → Gives ops (width to) (added ops (conversion from to x))
  conversion_gives ops from type.Bool x h n u d =
      added_gives ops (plain o.Truth (width from) (x ∷ [])) h (record { width = width_is from; flag = refl; guard = tt; acts = (refl, record { from = width from; converts = refl; operand = n; unknown = u }) })
  conversion_gives ops from (type.Int signed bits) x h n u d = either (nat_lt (width from) (width (type.Int signed bits))) refl where
    either : (b : Bool) → nat_lt (width from) (width (type.Int signed bits)) ≡ b
        → Gives ops (width (type.Int signed bits)) (added ops (if b then defined o.Widen (is_signed from) (width (type.Int signed bits)) (x ∷ []) else plain o.Narrow (width (type.Int signed bits)) (x ∷ [])))
    either true e =
        added_gives ops (defined o.Widen (is_signed from) (width (type.Int signed bits)) (x ∷ [])) h
        (record { width = width_is (type.Int signed bits); flag = refl; guard = tt; acts = (refl, record { from = width from; converts = (width_is from, ltb-true (width from) (width (type.Int signed bits)) e); operand = n; unknown = u }) })
    either false e =
        added_gives ops (plain o.Narrow (width (type.Int signed bits)) (x ∷ [])) h
        (record { width = width_is (type.Int signed bits); flag = refl; guard = tt; acts = (refl, record { from = width from; converts = beyond (width from) (width (type.Int signed bits)) d e; operand = n; unknown = u }) })

  resized_gives : (ops : List OpTree) (from to : CType) (x : Operand) → Valid ops → Is ops (width from) x → word_of x.value ≡ None → Gives ops (width to) (resized ops from to x)
  resized_gives ops from to x h n u = either (nat_eq (width from) (width to)) refl where
    either : (b : Bool) → nat_eq (width from) (width to) ≡ b → Gives ops (width to) (if b then gives ops x else added ops (conversion from to x))
    either true e = nothing_gives ops (width to) x h (subst (λ k. Is ops k x) (number_same (width from) (width to) e) n)
    either false e = conversion_gives ops from to x h n u e

  pub converted_gives : (ops : List OpTree) (from to : CType) (x : Operand) → Valid ops → Is ops (width from) x → Gives ops (width to) (converted ops from to x)
  converted_gives ops from to x h n = at x.value refl where
    at : (s : Source) → x.value ≡ s → Gives ops (width to) (converted_from ops from to x s)
    at (source.Constant w) e =
        let has = subst (λ s. HasBits frame.widths (words_in frame) ops (width from) s) e n.has in
        nothing_gives ops (width to) (converted [] from to (constant w)).operand h (record { has = (converted_fine frame.widths (words_in frame) [] from to (constant w) tt has).has; distance = refl })
    at (source.Variable v) e = resized_gives ops from to x h n (ap word_of e)
    at (source.Result i) e = resized_gives ops from to x h n (ap word_of e)

  -- a bit of a test is the result of an operation
  abbrev pub GivenIs : List OpTree → Given → Type 0
  GivenIs ops (lower.truth x) = Is ops 1 x × (word_of x.value ≡ None)
  GivenIs ops (lower.value x k) = Is ops (width k) x

  pub valued_gives : (ops : List OpTree) (g : Given) → Valid ops → GivenIs ops g → Gives ops (width (kind_of g)) (valued ops g)
  valued_gives ops (lower.truth x) h n =
      added_gives ops (plain o.Widen 32 (x ∷ [])) h (record { width = refl; flag = refl; guard = tt; acts = (refl, record { from = 1; converts = (refl, omega arith); operand = n.0; unknown = n.1 }) })
  valued_gives ops (lower.value x k) h n = nothing_gives ops (width k) x h n

  pub tested_gives : (ops : List OpTree) (g : Given) → Valid ops → GivenIs ops g → Gives ops 1 (tested ops g)
  tested_gives ops (lower.truth x) h n = nothing_gives ops 1 x h n.0
  tested_gives ops (lower.value x type.Bool) h n = nothing_gives ops 1 x h n
  tested_gives ops (lower.value x (type.Int signed bits)) h n =
      added_gives ops (plain o.Ne (width (type.Int signed bits)) (x ∷ constant 0 ∷ [])) h
      (record { width = width_is (type.Int signed bits); flag = refl; guard = tt; acts = (refl, (n, (record { has = zero_fits (type.Int signed bits); distance = refl }, tt))) })

  pub assigned_gives : (ops : List OpTree) (g : Given) (to : CType) → Valid ops → GivenIs ops g → Gives ops (width to) (assigned ops g to)
  assigned_gives ops g to h n =
      let v = valued_gives ops g h n in
      gives_on ops (valued ops g).ops (width to) (assigned ops g to) v.grows (converted_gives (valued ops g).ops (kind_of g) to (valued ops g).operand v.valid v.is_)

  pub balanced_gives : (ops : List OpTree) (g : Given) (to : CType) → Valid ops → GivenIs ops g → Gives ops (width to) (balanced ops g to)
  balanced_gives ops g to h n =
      let v = assigned_gives ops g (promoted (kind_of g)) h n in
      gives_on ops (promoted_value ops g).ops (width to) (balanced ops g to) v.grows (converted_gives (promoted_value ops g).ops (promoted (kind_of g)) to (promoted_value ops g).operand v.valid v.is_)

  -- ---- guards

  abbrev pub GuardsAre : List OpTree → List Guard → Type 0
  GuardsAre ops [] = Unit {0}
  GuardsAre ops (g ∷ gs) = Is ops 1 g.test × IsIf ops g.made × GuardsAre ops gs

  pub guards_on : (xs ys : List OpTree) → Grows xs ys → (gs : List Guard) → GuardsAre xs gs → GuardsAre ys gs
  guards_on xs ys e [] h = tt
  guards_on xs ys e (g ∷ gs) h = (is_on xs ys e 1 g.test h.0, if_on xs ys e g.made h.1, guards_on xs ys e gs h.2)

  pub outside_are : (ops : List OpTree) (gs : List Guard) → GuardsAre ops gs → GuardsAre ops (outside gs)
  outside_are ops [] h = tt
  outside_are ops (g ∷ gs) h = h.2

  pub record GuardedIs (base : List OpTree) (x : Guarded) : Type 0 where
    pub valid : Valid x.ops
    pub grows : Grows base x.ops
    pub guards : GuardsAre x.ops x.guards
    pub bit : IsIf x.ops x.bit

  own_gives : (ops : List OpTree) (g : Guard) → Valid ops → Is ops 1 g.test → Gives ops 1 (own_bit ops g)
  own_gives ops g h n = either g.holds where
    either : (b : Bool) → Gives ops 1 (if b then gives ops g.test else added ops (plain o.Not 1 (g.test ∷ [])))
    either true = nothing_gives ops 1 g.test h n
    either false = added_gives ops (plain o.Not 1 (g.test ∷ [])) h (record { width = refl; flag = refl; guard = tt; acts = (refl, (n, tt)) })

  under_gives : (base : List OpTree) (outer : Option Operand) (own : Emitted) → IsIf base outer → Gives base 1 own → Gives base 1 (under outer own)
  under_gives base None own n h = h
  under_gives base (Some x) own n h =
      let op = plain o.And 1 (x ∷ own.operand ∷ []) in
      gives_on base own.ops 1 (added own.ops op) h.grows (added_gives own.ops op h.valid (record { width = refl; flag = refl; guard = tt; acts = (refl, (is_on base own.ops h.grows 1 x n, (h.is_, tt))) }))

  bit_gives : (ops : List OpTree) (outer : Option Operand) (g : Guard) (made : Option Operand) → Valid ops → IsIf ops outer → Is ops 1 g.test → IsIf ops made → Gives ops 1 (bit_of ops outer g made)
  bit_gives ops outer g None h n t m = under_gives ops outer (own_bit ops g) n (own_gives ops g h t)
  bit_gives ops outer g (Some x) h n t m = nothing_gives ops 1 x h m

  pub guarded_is : (ops : List OpTree) (gs : List Guard) → Valid ops → GuardsAre ops gs → GuardedIs ops (guarded ops gs)
  guarded_is ops [] h n = record { valid = h; grows = stays ops; guards = tt; bit = tt }
  guarded_is ops (g ∷ gs) h n =
      let r = guarded ops gs in
      let f = guarded_is ops gs h n.2 in
      let test = is_on ops r.ops f.grows 1 g.test n.0 in
      let b = bit_gives r.ops r.bit g g.made f.valid f.bit test (if_on ops r.ops f.grows g.made n.1) in
      let x = bit_of r.ops r.bit g g.made in
      record {
        valid = b.valid;
        grows = grows_on ops r.ops x.ops f.grows b.grows;
        guards = (is_on r.ops x.ops b.grows 1 g.test test, b.is_, guards_on r.ops x.ops b.grows r.guards f.guards);
        bit = b.is_;
      }
