-- The operations of operators are valid.
use Rattle.std.proofs.Common.{◌≡◌, ℕ, Bool, true, false, not, refl, sym, subst, List, [], ◌∷◌, Option, None, if◌then◌else◌}
use Rattle.hls_base.specs.declared.place.Place.{Place}
use Rattle.c_token.specs.declared.ctype.CType.{CType}
use Rattle.c_tree.specs.declared.operator.Binary.{Binary}
use Rattle.c_tree.specs.declared.operator.Binary.TheVariants as b
use Rattle.c_value.specs.Values.{width, is_signed}
use Rattle.ir_core.specs.declared.body.OpKind.{OpKind}
use Rattle.ir_core.specs.declared.body.OpKind.TheVariants as o
use Rattle.ir_core.specs.declared.body.Operand.{Operand}
use Rattle.ir_core.specs.Timing.{result_bits}
use Rattle.ir_core.specs.Bodies.{OpTree}
use Rattle.passes.specs.Lowering.Operations.{Emitted, added, plain, defined, flagged}
use Rattle.passes.specs.Lowering.Guards.{Guard, guarded}
use Rattle.passes.specs.Lowering.Expressions.{Evaluated, Next, with_value, with_truth, under_guard, is_total, computed, operated}
use Rattle.program_validity.specs.Operations.{may_be_undefined, is_width_of}
use Rattle.pass_runs.proofs.ConvertRuns.LoweredConversions.Adding.{Grows, stays, grows_on}
use Rattle.valid_trees.specs.Shapes.{FrameShape}
use Rattle.valid_trees.specs.Operands.{AreOperands}
use Rattle.valid_trees.specs.Operations.{argument_bits, Acts}
use Rattle.valid_trees.specs.ValidLowering.Proper.{IsOfOperator}
use Rattle.valid_trees.proofs.ValidLowering.Widths.{width_is, wide}
use Rattle.valid_trees.proofs.ValidLowering.Adding.{Is, IsIf, IsOp, Valid, is_on, Gives, added_gives, GivenIs, GuardsAre, guards_on, guarded_is}

not_false : (c : Bool) → not c ≡ false → c ≡ true
not_false true e = refl
not_false false e = sym e

-- ---- kinds that compute

abbrev IsComputing : OpKind → Type 0
IsComputing o.Mul = Unit {0}
IsComputing o.Div = Unit {0}
IsComputing o.Rem = Unit {0}
IsComputing o.Add = Unit {0}
IsComputing o.Sub = Unit {0}
IsComputing o.Shl = Unit {0}
IsComputing o.Shr = Unit {0}
IsComputing o.And = Unit {0}
IsComputing o.Xor = Unit {0}
IsComputing o.Or = Unit {0}
IsComputing o.Neg = Unit {0}
IsComputing kind = ⊥

-- what C always gives a value has no flag
total_unflagged : (kind : OpKind) (signed : Bool) → IsComputing kind → is_total kind signed ≡ true → false ≡ may_be_undefined kind false
total_unflagged o.Mul signed c e = refl
total_unflagged o.Div signed c e = absurd cc
total_unflagged o.Rem signed c e = absurd cc
total_unflagged o.Add signed c e = refl
total_unflagged o.Sub signed c e = refl
total_unflagged o.Shl signed c e = absurd cc
total_unflagged o.Shr signed c e = absurd cc
total_unflagged o.And signed c e = refl
total_unflagged o.Xor signed c e = refl
total_unflagged o.Or signed c e = refl
total_unflagged o.Neg signed c e = refl
total_unflagged kind signed c e = absurd c

partial_flagged : (kind : OpKind) (signed : Bool) → IsComputing kind → is_total kind signed ≡ false → true ≡ may_be_undefined kind signed
partial_flagged o.Mul signed c e = sym (not_false signed e)
partial_flagged o.Div signed c e = refl
partial_flagged o.Rem signed c e = refl
partial_flagged o.Add signed c e = sym (not_false signed e)
partial_flagged o.Sub signed c e = sym (not_false signed e)
partial_flagged o.Shl signed c e = refl
partial_flagged o.Shr signed c e = refl
partial_flagged o.And signed c e = absurd cc
partial_flagged o.Xor signed c e = absurd cc
partial_flagged o.Or signed c e = absurd cc
partial_flagged o.Neg signed c e = sym (not_false signed e)
partial_flagged kind signed c e = absurd c

result_wide : (kind : OpKind) (bits : ℕ) → IsComputing kind → result_bits kind bits ≡ bits
result_wide o.Mul bits c = refl
result_wide o.Div bits c = refl
result_wide o.Rem bits c = refl
result_wide o.Add bits c = refl
result_wide o.Sub bits c = refl
result_wide o.Shl bits c = refl
result_wide o.Shr bits c = refl
result_wide o.And bits c = refl
result_wide o.Xor bits c = refl
result_wide o.Or bits c = refl
result_wide o.Neg bits c = refl
result_wide kind bits c = absurd c

module _ (frame : FrameShape) where
  acts : (before : List OpTree) (op : OpTree) (kind : OpKind) → IsComputing kind → op.array ≡ None → AreOperands frame [] before (argument_bits kind op.bits) op.args → Acts frame [] before op kind
  acts before op o.Mul c e h = (e, h)
  acts before op o.Div c e h = (e, h)
  acts before op o.Rem c e h = (e, h)
  acts before op o.Add c e h = (e, h)
  acts before op o.Sub c e h = (e, h)
  acts before op o.Shl c e h = (e, h)
  acts before op o.Shr c e h = (e, h)
  acts before op o.And c e h = (e, h)
  acts before op o.Xor c e h = (e, h)
  acts before op o.Or c e h = (e, h)
  acts before op o.Neg c e h = (e, h)
  acts before op kind c e h = absurd c

  -- ---- what expressions give

  -- Operations were added.
  pub record EvalIs (base : List OpTree) (x : Evaluated) : Type 0 where
    pub valid : Valid frame x.ops
    pub grows : Grows base x.ops
    pub guards : GuardsAre frame x.ops x.guards
    pub given : GivenIs frame x.ops x.given

  pub eval_on : (base ops : List OpTree) (x : Evaluated) → Grows base ops → EvalIs ops x → EvalIs base x
  eval_on base ops x g h = record { valid = h.valid; grows = grows_on base ops x.ops g h.grows; guards = h.guards; given = h.given }

  pub value_is : (base : List OpTree) (gs : List Guard) (k : CType) (x : Emitted) → GuardsAre frame base gs → Gives frame base (width k) x → EvalIs base (with_value gs k x)
  value_is base gs k x g h = record { valid = h.valid; grows = h.grows; guards = guards_on frame base x.ops h.grows gs g; given = h.is_ }

  -- a bit of a test
  pub truth_is : (ops : List OpTree) (gs : List Guard) (op : OpTree) → result_bits op.kind op.bits ≡ 1 → Valid frame ops → GuardsAre frame ops gs → IsOp frame ops op → EvalIs ops (with_truth gs (added ops op))
  truth_is ops gs op e h g k =
      let x = added_gives frame ops op h k in
      record { valid = x.valid; grows = x.grows; guards = guards_on frame ops (added ops op).ops x.grows gs g; given = (subst (λ n. Is frame (added ops op).ops n (added ops op).operand) e x.is_, refl) }

  -- What comes next is so behind these operations and more.
  abbrev pub NextIs : List OpTree → Next → Type 0
  NextIs base next = (ops : List OpTree) (gs : List Guard) → Grows base ops → Valid frame ops → GuardsAre frame ops gs → EvalIs ops (next ops gs)

  -- an operation with a flag
  pub under_guard_is : (ops : List OpTree) (gs : List Guard) (k : CType) (op : Option Operand → OpTree) → Valid frame ops → GuardsAre frame ops gs
      → ((before : List OpTree) (bit : Option Operand) → Grows ops before → IsIf frame before bit → IsOp frame before (op bit)) → ((bit : Option Operand) → result_bits (op bit).kind (op bit).bits ≡ width k)
      → EvalIs ops (under_guard k op (guarded ops gs))
  under_guard_is ops gs k op h g is_ e =
      let r = guarded ops gs in
      let f = guarded_is frame ops gs h g in
      let x = added r.ops (op r.bit) in
      let a = added_gives frame r.ops (op r.bit) f.valid (is_ r.ops r.bit f.grows f.bit) in
      eval_on ops r.ops (under_guard k op r) f.grows (value_is r.ops r.guards k x f.guards (subst (λ n. Gives frame r.ops n x) (e r.bit) a))

  pub computed_is : (ops : List OpTree) (gs : List Guard) (kind : OpKind) (k : CType) (at : Place) (args : List Operand) → IsComputing kind → is_width_of kind (width k) ≡ true → Valid frame ops → GuardsAre frame ops gs
      → ((before : List OpTree) → Grows ops before → AreOperands frame [] before (argument_bits kind (width k)) args) → EvalIs ops (computed kind k at ops gs args)
  computed_is ops gs kind k at args c w h g are = either (is_total kind (is_signed k)) refl where
    either : (d : Bool) → is_total kind (is_signed k) ≡ d
        → EvalIs ops (if d then with_value gs k (added ops (plain kind (width k) args)) else under_guard k (flagged kind (is_signed k) (width k) args None at) (guarded ops gs))
    either true e =
        let op = plain kind (width k) args in
        value_is ops gs k (added ops op) g
        (subst (λ n. Gives frame ops n (added ops op)) (result_wide kind (width k) c)
        (added_gives frame ops op h (record { width = w; flag = total_unflagged kind (is_signed k) c e; guard = tt; acts = acts ops op kind c refl (are ops (stays ops)) })))
    either false e =
        under_guard_is ops gs k (flagged kind (is_signed k) (width k) args None at) h g
        (λ before bit e1 b. record { width = w; flag = partial_flagged kind (is_signed k) c e; guard = b; acts = acts before (flagged kind (is_signed k) (width k) args None at bit) kind c refl (are before e1) })
        (λ bit. result_wide kind (width k) c)

  -- ---- operators

  module _ (ops : List OpTree) (gs : List Guard) (k : CType) (at : Place) (x y : Operand) (h : Valid frame ops) (g : GuardsAre frame ops gs) (nx : Is frame ops (width k) x) (ny : Is frame ops (width k) y) where
    -- an operator of one kind on both operands
    two_is : (kind : OpKind) → IsComputing kind → is_width_of kind (width k) ≡ true → argument_bits kind (width k) ≡ width k ∷ width k ∷ [] → EvalIs ops (computed kind k at ops gs (x ∷ y ∷ []))
    two_is kind c w e =
        computed_is ops gs kind k at (x ∷ y ∷ []) c w h g
        (λ before e1. subst (λ bits. AreOperands frame [] before bits (x ∷ y ∷ [])) (sym e) (is_on frame ops before e1 (width k) x nx, (is_on frame ops before e1 (width k) y ny, tt)))

    compared_is : (op : OpTree) → result_bits op.kind op.bits ≡ 1 → IsOp frame ops op → EvalIs ops (with_truth gs (added ops op))
    compared_is op e q = truth_is ops gs op e h g q

    pub operated_is : (f : Binary) → IsOfOperator f k → EvalIs ops (operated f k at ops gs x y)
    operated_is b.Lt s = compared_is (defined o.Lt (is_signed k) (width k) (x ∷ y ∷ [])) refl (record { width = width_is k; flag = refl; guard = tt; acts = (refl, (nx, (ny, tt))) })
    operated_is b.Gt s = compared_is (defined o.Lt (is_signed k) (width k) (y ∷ x ∷ [])) refl (record { width = width_is k; flag = refl; guard = tt; acts = (refl, (ny, (nx, tt))) })
    operated_is b.Le s = compared_is (defined o.Le (is_signed k) (width k) (x ∷ y ∷ [])) refl (record { width = width_is k; flag = refl; guard = tt; acts = (refl, (nx, (ny, tt))) })
    operated_is b.Ge s = compared_is (defined o.Le (is_signed k) (width k) (y ∷ x ∷ [])) refl (record { width = width_is k; flag = refl; guard = tt; acts = (refl, (ny, (nx, tt))) })
    operated_is b.Eq s = compared_is (plain o.Eq (width k) (x ∷ y ∷ [])) refl (record { width = width_is k; flag = refl; guard = tt; acts = (refl, (nx, (ny, tt))) })
    operated_is b.Ne s = compared_is (plain o.Ne (width k) (x ∷ y ∷ [])) refl (record { width = width_is k; flag = refl; guard = tt; acts = (refl, (nx, (ny, tt))) })
    operated_is b.Mul s = two_is o.Mul tt (wide k s) refl
    operated_is b.Div s = two_is o.Div tt (wide k s) refl
    operated_is b.Rem s = two_is o.Rem tt (wide k s) refl
    operated_is b.Add s = two_is o.Add tt (width_is k) refl
    operated_is b.Sub s = two_is o.Sub tt (width_is k) refl
    operated_is b.Shl s = two_is o.Shl tt (width_is k) refl
    operated_is b.Shr s = two_is o.Shr tt (width_is k) refl
    operated_is b.And s = two_is o.And tt (width_is k) refl
    operated_is b.Xor s = two_is o.Xor tt (width_is k) refl
    operated_is b.Or s = two_is o.Or tt (width_is k) refl
    operated_is b.LogAnd s = two_is o.And tt (width_is k) refl
    operated_is b.LogOr s = two_is o.Or tt (width_is k) refl
