-- The operations of expressions name what is there.
use Rattle.std.specs.Prelude.{◌==◌}
use Rattle.std.proofs.Common.{◌<◌, ℕ, Bool, true, false, refl, arith, List, [], ◌∷◌, length, Option, Some, None, if◌then◌else◌}
use Rattle.hls_base.specs.declared.place.Place.{Place}
use Rattle.hls_base.specs.declared.number.VarId.{VarId}
use Rattle.c_token.specs.declared.ctype.CType.{CType}
use Rattle.c_tree.specs.declared.operator.Unary.{Unary}
use Rattle.c_tree.specs.declared.operator.Unary.TheVariants as u
use Rattle.c_tree.specs.declared.operator.Binary.{Binary}
use Rattle.c_tree.specs.declared.operator.Binary.TheVariants as b
use Rattle.c_value.specs.Values.{width, is_signed}
use Rattle.pieces.specs.Trees as tree
use Rattle.pieces.specs.Trees.{PureTree, PureTrees}
use Rattle.pieces.specs.Program.{ArrayTree}
use Rattle.pieces.specs.Kind.{kind}
use Rattle.ir_core.specs.declared.body.OpKind.{OpKind}
use Rattle.ir_core.specs.declared.body.OpKind.TheVariants as o
use Rattle.ir_core.specs.declared.body.Operand.{Operand}
use Rattle.ir_core.specs.declared.body.Out.{Out}
use Rattle.ir_core.specs.Bodies.{OpTree}
use Rattle.passes.specs.Lowering.Operations.{Emitted, added, plain, defined, flagged, kind_of, valued, tested, assigned, balanced}
use Rattle.passes.specs.Lowering.Guards.{Guard, guarded, outside, only_where}
use Rattle.passes.specs.Lowering.Outs.{held}
use Rattle.passes.specs.Lowering.Blocks.{Scope}
use Rattle.passes.specs.Lowering.Expressions.{Evaluated, Next, Subscripts, with_value, with_truth, under_guard, is_total, computed, operated, junction, joined, binary, unary, choice, cast_to, subscript, emitted, emitted_all, left_type, right_type}
use Rattle.pass_runs.specs.ConvertRuns.LoweredConversions.Suiting.{PureSuits, EachSuits}
use Rattle.compiled_plans.specs.Operations.{AllNamed, OutsNamed, Accesses}
use Rattle.compiled_plans.proofs.Safe.{within}
use Rattle.compiled_plans.proofs.NamedAdding.{width_small, IsNamed, IsNamedIf, OpNamed, OpsNamed, Gives, added_gives, GivenNamed, valued_gives, tested_gives, assigned_gives, balanced_gives, GuardsNamed, outside_named, guarded_named}

module _ (count : ℕ) (arrays : List ArrayTree) where
  pub record EvalNamed (x : Evaluated) : Type 0 where
    pub ops : OpsNamed count arrays x.ops
    pub guards : GuardsNamed count arrays x.guards
    pub given : GivenNamed count arrays x.given

  -- What comes next is so behind these operations.
  abbrev pub NextNamed : Next → Type 0
  NextNamed next = (ops : List OpTree) (gs : List Guard) → OpsNamed count arrays ops → GuardsNamed count arrays gs → EvalNamed (next ops gs)

  value_named : (gs : List Guard) (k : CType) (x : Emitted) → GuardsNamed count arrays gs → Gives count arrays x → EvalNamed (with_value gs k x)
  value_named gs k x g h = record { ops = h.ops; guards = g; given = h.given }

  truth_named : (gs : List Guard) (ops : List OpTree) (op : OpTree) → GuardsNamed count arrays gs → OpsNamed count arrays ops → OpNamed count arrays op → EvalNamed (with_truth gs (added ops op))
  truth_named gs ops op g h k = let x = added_gives count arrays ops op h k in record { ops = x.ops; guards = g; given = x.given }

  -- an operation with a flag
  under_guard_named : (ops : List OpTree) (gs : List Guard) (k : CType) (op : Option Operand → OpTree) → OpsNamed count arrays ops → GuardsNamed count arrays gs → ((bit : Option Operand) → IsNamedIf count arrays bit → OpNamed count arrays (op bit))
      → EvalNamed (under_guard k op (guarded ops gs))
  under_guard_named ops gs k op h g is_ =
      let r = guarded ops gs in let f = guarded_named count arrays ops gs h g in value_named r.guards k (added r.ops (op r.bit)) f.guards (added_gives count arrays r.ops (op r.bit) f.ops (is_ r.bit f.bit))

  computed_named : (ops : List OpTree) (gs : List Guard) (kind : OpKind) (k : CType) (at : Place) (args : List Operand) → OpsNamed count arrays ops → GuardsNamed count arrays gs → AllNamed count arrays args → Accesses count arrays kind None → EvalNamed (computed kind k at ops gs args)
  computed_named ops gs kind k at args h g n access = either (is_total kind (is_signed k)) where
    either : (d : Bool) → EvalNamed (if d then with_value gs k (added ops (plain kind (width k) args)) else under_guard k (flagged kind (is_signed k) (width k) args None at) (guarded ops gs))
    either true = value_named gs k (added ops (plain kind (width k) args)) g (added_gives count arrays ops (plain kind (width k) args) h (record { args = n; guard = tt; bits = width_small k; access = access }))
    either false = under_guard_named ops gs k (flagged kind (is_signed k) (width k) args None at) h g (λ bit e. record { args = n; guard = e; bits = width_small k; access = access })

  module _ (ops : List OpTree) (gs : List Guard) (k : CType) (at : Place) (x y : Operand) (h : OpsNamed count arrays ops) (g : GuardsNamed count arrays gs) (nx : IsNamed count arrays x) (ny : IsNamed count arrays y) where
    operated_named : (f : Binary) → EvalNamed (operated f k at ops gs x y)
    operated_named b.Lt = truth_named gs ops (defined o.Lt (is_signed k) (width k) (x ∷ y ∷ [])) g h (record { args = (nx, (ny, tt)); guard = tt; bits = width_small k; access = tt })
    operated_named b.Gt = truth_named gs ops (defined o.Lt (is_signed k) (width k) (y ∷ x ∷ [])) g h (record { args = (ny, (nx, tt)); guard = tt; bits = width_small k; access = tt })
    operated_named b.Le = truth_named gs ops (defined o.Le (is_signed k) (width k) (x ∷ y ∷ [])) g h (record { args = (nx, (ny, tt)); guard = tt; bits = width_small k; access = tt })
    operated_named b.Ge = truth_named gs ops (defined o.Le (is_signed k) (width k) (y ∷ x ∷ [])) g h (record { args = (ny, (nx, tt)); guard = tt; bits = width_small k; access = tt })
    operated_named b.Eq = truth_named gs ops (plain o.Eq (width k) (x ∷ y ∷ [])) g h (record { args = (nx, (ny, tt)); guard = tt; bits = width_small k; access = tt })
    operated_named b.Ne = truth_named gs ops (plain o.Ne (width k) (x ∷ y ∷ [])) g h (record { args = (nx, (ny, tt)); guard = tt; bits = width_small k; access = tt })
    operated_named b.Mul = computed_named ops gs o.Mul k at (x ∷ y ∷ []) h g (nx, (ny, tt)) tt
    operated_named b.Div = computed_named ops gs o.Div k at (x ∷ y ∷ []) h g (nx, (ny, tt)) tt
    operated_named b.Rem = computed_named ops gs o.Rem k at (x ∷ y ∷ []) h g (nx, (ny, tt)) tt
    operated_named b.Add = computed_named ops gs o.Add k at (x ∷ y ∷ []) h g (nx, (ny, tt)) tt
    operated_named b.Sub = computed_named ops gs o.Sub k at (x ∷ y ∷ []) h g (nx, (ny, tt)) tt
    operated_named b.Shl = computed_named ops gs o.Shl k at (x ∷ y ∷ []) h g (nx, (ny, tt)) tt
    operated_named b.Shr = computed_named ops gs o.Shr k at (x ∷ y ∷ []) h g (nx, (ny, tt)) tt
    operated_named b.And = computed_named ops gs o.And k at (x ∷ y ∷ []) h g (nx, (ny, tt)) tt
    operated_named b.Xor = computed_named ops gs o.Xor k at (x ∷ y ∷ []) h g (nx, (ny, tt)) tt
    operated_named b.Or = computed_named ops gs o.Or k at (x ∷ y ∷ []) h g (nx, (ny, tt)) tt
    operated_named b.LogAnd = computed_named ops gs o.And k at (x ∷ y ∷ []) h g (nx, (ny, tt)) tt
    operated_named b.LogOr = computed_named ops gs o.Or k at (x ∷ y ∷ []) h g (nx, (ny, tt)) tt

  module _ (first : Evaluated) (one : EvalNamed first) where
    junction_named : (both : Bool) (second : Next) → NextNamed second → EvalNamed (junction both second first)
    unfolding junction
    junction_named both second other =
        let x = tested first.ops first.given in
        let rx = tested_gives count arrays first.ops first.given one.ops one.given in
        let gs = only_where x.operand both first.guards in
        let right = second x.ops gs in
        let rr = other x.ops gs rx.ops (rx.given, tt, one.guards) in
        let y = tested right.ops right.given in
        let ry = tested_gives count arrays right.ops right.given rr.ops rr.given in
        either both y.ops (outside right.guards) x.operand y.operand ry.ops (outside_named count arrays right.guards rr.guards) rx.given ry.given
      where
        either : (both : Bool) (ops : List OpTree) (gs : List Guard) (x y : Operand) → OpsNamed count arrays ops → GuardsNamed count arrays gs → IsNamed count arrays x → IsNamed count arrays y → EvalNamed (with_truth gs (added ops (plain (if both then o.And else o.Or) 1 (x ∷ y ∷ []))))
        either true ops gs x y h g nx ny = truth_named gs ops (plain o.And 1 (x ∷ y ∷ [])) g h (record { args = (nx, (ny, tt)); guard = tt; bits = omega arith; access = tt })
        either false ops gs x y h g nx ny = truth_named gs ops (plain o.Or 1 (x ∷ y ∷ [])) g h (record { args = (nx, (ny, tt)); guard = tt; bits = omega arith; access = tt })

    joined_named : (f : Binary) (to to_right : CType) (at : Place) (second : Next) → NextNamed second → EvalNamed (joined f to to_right at second first)
    unfolding joined
    joined_named f to to_right at second other =
        let x = balanced first.ops first.given to in
        let rx = balanced_gives count arrays first.ops first.given to one.ops one.given in
        let right = second x.ops first.guards in
        let rr = other x.ops first.guards rx.ops one.guards in
        let y = balanced right.ops right.given to_right in
        let ry = balanced_gives count arrays right.ops right.given to_right rr.ops rr.given in
        operated_named y.ops right.guards to at x.operand y.operand ry.ops rr.guards rx.given ry.given f

    choice_named : (k : CType) (left right : Next) → NextNamed left → NextNamed right → EvalNamed (choice k left right first)
    unfolding choice
    choice_named k left right rl rr =
        let t = tested first.ops first.given in
        let rt = tested_gives count arrays first.ops first.given one.ops one.given in
        let ga = only_where t.operand true first.guards in
        let a = left t.ops ga in
        let ra = rl t.ops ga rt.ops (rt.given, tt, one.guards) in
        let x = balanced a.ops a.given k in
        let rx = balanced_gives count arrays a.ops a.given k ra.ops ra.given in
        let gc = only_where t.operand false (outside a.guards) in
        let c = right x.ops gc in
        let rc = rr x.ops gc rx.ops (rt.given, tt, outside_named count arrays a.guards ra.guards) in
        let y = balanced c.ops c.given k in
        let ry = balanced_gives count arrays c.ops c.given k rc.ops rc.given in
        let op = plain o.Select (width k) (t.operand ∷ x.operand ∷ y.operand ∷ []) in
        value_named (outside c.guards) k (added y.ops op) (outside_named count arrays c.guards rc.guards)
        (added_gives count arrays y.ops op ry.ops (record { args = (rt.given, (rx.given, (ry.given, tt))); guard = tt; bits = width_small k; access = tt }))

    unary_named : (f : Unary) (k : CType) (at : Place) → EvalNamed (unary f k at first)
    unary_named u.LogNot k at =
        let t = tested first.ops first.given in
        let rt = tested_gives count arrays first.ops first.given one.ops one.given in
        truth_named first.guards t.ops (plain o.Not 1 (t.operand ∷ [])) one.guards rt.ops (record { args = (rt.given, tt); guard = tt; bits = omega arith; access = tt })
    unary_named u.Plus k at = value_named first.guards k (balanced first.ops first.given k) one.guards (balanced_gives count arrays first.ops first.given k one.ops one.given)
    unary_named u.Not k at =
        let x = balanced first.ops first.given k in
        let rx = balanced_gives count arrays first.ops first.given k one.ops one.given in
        value_named first.guards k (added x.ops (plain o.Not (width k) (x.operand ∷ []))) one.guards (added_gives count arrays x.ops (plain o.Not (width k) (x.operand ∷ [])) rx.ops (record { args = (rx.given, tt); guard = tt; bits = width_small k; access = tt }))
    unary_named u.Minus k at =
        let x = balanced first.ops first.given k in
        let rx = balanced_gives count arrays first.ops first.given k one.ops one.given in
        computed_named x.ops first.guards o.Neg k at (x.operand ∷ []) rx.ops one.guards (rx.given, tt) tt

    cast_named : (to : CType) → EvalNamed (cast_to to first)
    cast_named to = value_named first.guards to (assigned first.ops first.given to) one.guards (assigned_gives count arrays first.ops first.given to one.ops one.given)

    binary_named : (f : Binary) (right k : CType) (at : Place) (second : Next) → NextNamed second → EvalNamed (binary f right k at second first)
    binary_named b.LogAnd right k at second other = junction_named true second other
    binary_named b.LogOr right k at second other = junction_named false second other
    binary_named b.Add right k at second other = joined_named b.Add k k at second other
    binary_named b.Sub right k at second other = joined_named b.Sub k k at second other
    binary_named b.Mul right k at second other = joined_named b.Mul k k at second other
    binary_named b.Div right k at second other = joined_named b.Div k k at second other
    binary_named b.Rem right k at second other = joined_named b.Rem k k at second other
    binary_named b.And right k at second other = joined_named b.And k k at second other
    binary_named b.Xor right k at second other = joined_named b.Xor k k at second other
    binary_named b.Or right k at second other = joined_named b.Or k k at second other
    binary_named b.Shl right k at second other = joined_named b.Shl k (right_type b.Shl (kind_of first.given) right k) at second other
    binary_named b.Shr right k at second other = joined_named b.Shr k (right_type b.Shr (kind_of first.given) right k) at second other
    binary_named b.Lt right k at second other = joined_named b.Lt (left_type b.Lt (kind_of first.given) right k) (right_type b.Lt (kind_of first.given) right k) at second other
    binary_named b.Gt right k at second other = joined_named b.Gt (left_type b.Gt (kind_of first.given) right k) (right_type b.Gt (kind_of first.given) right k) at second other
    binary_named b.Le right k at second other = joined_named b.Le (left_type b.Le (kind_of first.given) right k) (right_type b.Le (kind_of first.given) right k) at second other
    binary_named b.Ge right k at second other = joined_named b.Ge (left_type b.Ge (kind_of first.given) right k) (right_type b.Ge (kind_of first.given) right k) at second other
    binary_named b.Eq right k at second other = joined_named b.Eq (left_type b.Eq (kind_of first.given) right k) (right_type b.Eq (kind_of first.given) right k) at second other
    binary_named b.Ne right k at second other = joined_named b.Ne (left_type b.Ne (kind_of first.given) right k) (right_type b.Ne (kind_of first.given) right k) at second other

  -- ---- subscripts

  pub record RowNamed (x : Subscripts) : Type 0 where
    pub ops : OpsNamed count arrays x.ops
    pub guards : GuardsNamed count arrays x.guards
    pub operands : AllNamed count arrays x.operands

  subscript_named : (first : Evaluated) (rest : List OpTree → List Guard → Subscripts) → EvalNamed first
      → ((ops : List OpTree) (gs : List Guard) → OpsNamed count arrays ops → GuardsNamed count arrays gs → RowNamed (rest ops gs)) → RowNamed (subscript rest first)
  unfolding subscript
  subscript_named first rest one others =
      let x = valued first.ops first.given in
      let rx = valued_gives count arrays first.ops first.given one.ops one.given in
      let r = others x.ops first.guards rx.ops one.guards in
      record { ops = r.ops; guards = r.guards; operands = (rx.given, r.operands) }

  -- ---- variables

  pub held_named : (outs : List Out) (variable : VarId) → OutsNamed count arrays outs → variable.0 < count → IsNamed count arrays (held outs variable)
  held_named [] variable h l = l
  held_named (x ∷ xs) variable h l = either (x.variable.0 == variable.0) (held_named xs variable h.1 l) where
    either : (c : Bool) → IsNamed count arrays (held xs variable) → IsNamed count arrays (if c then x.value else held xs variable)
    either true n = h.0.1
    either false n = n

-- ---- expressions

module _ (scope : Scope) where
  abbrev pub many : ℕ
  many = length scope.variables

  mutual
    pub emitted_named : (outs : List Out) (x : PureTree) (ops : List OpTree) (gs : List Guard) → PureSuits scope x → OutsNamed many scope.arrays outs → OpsNamed many scope.arrays ops → GuardsNamed many scope.arrays gs → EvalNamed many scope.arrays (emitted outs x ops gs)
    emitted_named outs (tree.number w k) ops gs z n h g = record { ops = h; guards = g; given = tt }
    emitted_named outs (tree.variable name k) ops gs z n h g = record { ops = h; guards = g; given = held_named many scope.arrays outs name n (within scope.variables name.0 k z) }
    emitted_named outs (tree.element array subs k at) ops gs z n h g =
        let r = emitted_all outs subs ops gs in
        let y = emitted_all_named outs subs ops gs z.1 n h g in
        under_guard_named many scope.arrays r.ops r.guards k (flagged o.Load false (width k) r.operands (Some array) at) y.ops y.guards
        (λ bit e. record { args = y.operands; guard = e; bits = width_small k; access = (array, (refl, (z.0.0, z.0.1))) })
    emitted_named outs (tree.unary f arg k at) ops gs z n h g = unary_named many scope.arrays (emitted outs arg ops gs) (emitted_named outs arg ops gs z n h g) f k at
    emitted_named outs (tree.binary f left right k at) ops gs z n h g =
        binary_named many scope.arrays (emitted outs left ops gs) (emitted_named outs left ops gs z.0 n h g) f (kind right) k at (λ ops1 gs1. emitted outs right ops1 gs1) (λ ops1 gs1 h1 g1. emitted_named outs right ops1 gs1 z.1 n h1 g1)
    emitted_named outs (tree.choice test left right k) ops gs z n h g =
        choice_named many scope.arrays (emitted outs test ops gs) (emitted_named outs test ops gs z.0 n h g) k (λ ops1 gs1. emitted outs left ops1 gs1) (λ ops1 gs1. emitted outs right ops1 gs1)
        (λ ops1 gs1 h1 g1. emitted_named outs left ops1 gs1 z.1 n h1 g1) (λ ops1 gs1 h1 g1. emitted_named outs right ops1 gs1 z.2 n h1 g1)
    emitted_named outs (tree.cast to arg) ops gs z n h g = cast_named many scope.arrays (emitted outs arg ops gs) (emitted_named outs arg ops gs z n h g) to

    pub emitted_all_named : (outs : List Out) (xs : PureTrees) (ops : List OpTree) (gs : List Guard) → EachSuits scope xs → OutsNamed many scope.arrays outs → OpsNamed many scope.arrays ops → GuardsNamed many scope.arrays gs → RowNamed many scope.arrays (emitted_all outs xs ops gs)
    emitted_all_named outs tree.none ops gs z n h g = record { ops = h; guards = g; operands = tt }
    emitted_all_named outs (tree.more first rest) ops gs z n h g =
        subscript_named many scope.arrays (emitted outs first ops gs) (λ ops1 gs1. emitted_all outs rest ops1 gs1) (emitted_named outs first ops gs z.0 n h g) (λ ops1 gs1 h1 g1. emitted_all_named outs rest ops1 gs1 z.1 n h1 g1)
