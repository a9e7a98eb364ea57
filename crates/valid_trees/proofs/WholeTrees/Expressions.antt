-- The operations of expressions take arrays that are there.
use Rattle.std.proofs.Common.{◌≡◌, ◌<◌, ℕ, Bool, true, false, arith, List, [], ◌∷◌, ◌++◌, length, Option, Some, None, if◌then◌else◌}
use Rattle.std.specs.Prelude.{nat_lt, nat_eq, slice_get}
use Rattle.hls_base.specs.declared.place.Place.{Place}
use Rattle.hls_base.specs.declared.number.ArrayId.{ArrayId}
use Rattle.c_token.specs.declared.ctype.CType.{CType}
use Rattle.c_token.specs.declared.ctype.CType.TheVariants as type
use Rattle.c_tree.specs.declared.operator.Unary.{Unary}
use Rattle.c_tree.specs.declared.operator.Unary.TheVariants as u
use Rattle.c_tree.specs.declared.operator.Binary.{Binary}
use Rattle.c_tree.specs.declared.operator.Binary.TheVariants as b
use Rattle.c_value.specs.Values.{width, is_signed, promoted}
use Rattle.pieces.specs.Trees as tree
use Rattle.pieces.specs.Trees.{PureTree, PureTrees}
use Rattle.pieces.specs.Program.{ArrayTree}
use Rattle.pieces.specs.Kind.{kind}
use Rattle.ir_core.specs.declared.body.OpKind.{OpKind}
use Rattle.ir_core.specs.declared.body.OpKind.TheVariants as o
use Rattle.ir_core.specs.declared.body.Operand.{Operand}
use Rattle.ir_core.specs.declared.body.Out.{Out}
use Rattle.ir_core.specs.declared.body.Source.{Source}
use Rattle.ir_core.specs.declared.body.Source.TheVariants as source
use Rattle.ir_core.specs.Bodies.{OpTree}
use Rattle.passes.specs.Lowering.Operations as lower
use Rattle.passes.specs.Lowering.Operations.{Emitted, Given, added, constant, plain, defined, flagged, conversion, resized, converted, converted_from, valued, tested, assigned, promoted_value, balanced, kind_of}
use Rattle.passes.specs.Lowering.Guards.{Guard, guarded, only_where, outside, own_bit, under, bit_of}
use Rattle.passes.specs.Lowering.Blocks.{Scope}
use Rattle.passes.specs.Lowering.Expressions.{Evaluated, Next, Subscripts, with_value, under_guard, is_total, computed, operated, junction, joined, binary, unary, choice, subscript, emitted, emitted_all, left_type, right_type}
use Rattle.flat_programs.specs.Machine.Held.{IsThere}
use Rattle.flat_programs.specs.There.{OperationsThere}
use Rattle.pass_runs.proofs.ConvertRuns.Lists.{within}
use Rattle.pass_runs.specs.ConvertRuns.LoweredConversions.Suiting.{PureSuits, EachSuits}
use Rattle.valid_trees.proofs.WholeTrees.Adding.{ops_more}

module _ (variables : ℕ) (dims : List (List ℕ)) where
  abbrev pub There : List OpTree → Type 0
  There = OperationsThere variables dims

  pub more : (ops : List OpTree) (op : OpTree) → There ops → IsThere op.array dims → There (ops ++ op ∷ [])
  more = ops_more variables dims

  -- ---- conversions

  resized_there : (ops : List OpTree) (from to : CType) (x : Operand) → There ops → There (resized ops from to x).ops
  resized_there ops from to x h = either (nat_eq (width from) (width to)) where
    added_there : (k : CType) → There (ops ++ conversion from k x ∷ [])
    added_there type.Bool = more ops (plain o.Truth (width from) (x ∷ [])) h tt
    added_there (type.Int signed bits) = by (nat_lt (width from) (width (type.Int signed bits))) where
      by : (c : Bool) → There (ops ++ (if c then defined o.Widen (is_signed from) (width (type.Int signed bits)) (x ∷ []) else plain o.Narrow (width (type.Int signed bits)) (x ∷ [])) ∷ [])
      by true = more ops (defined o.Widen (is_signed from) (width (type.Int signed bits)) (x ∷ [])) h tt
      by false = more ops (plain o.Narrow (width (type.Int signed bits)) (x ∷ [])) h tt

    either : (c : Bool) → There (if c then record { ops = ops; operand = x } else added ops (conversion from to x)).ops
    either true = h
    either false = added_there to

  converted_there : (ops : List OpTree) (from to : CType) (x : Operand) → There ops → There (converted ops from to x).ops
  converted_there ops from to x h = at x.value where
    at : (s : Source) → There (converted_from ops from to x s).ops
    at (source.Constant w) = h
    at (source.Variable v) = resized_there ops from to x h
    at (source.Result i) = resized_there ops from to x h

  pub valued_there : (ops : List OpTree) (g : Given) → There ops → There (valued ops g).ops
  valued_there ops (lower.truth x) h = more ops (plain o.Widen 32 (x ∷ [])) h tt
  valued_there ops (lower.value x k) h = h

  pub tested_there : (ops : List OpTree) (g : Given) → There ops → There (tested ops g).ops
  tested_there ops (lower.truth x) h = h
  tested_there ops (lower.value x type.Bool) h = h
  tested_there ops (lower.value x (type.Int signed bits)) h = more ops (plain o.Ne (width (type.Int signed bits)) (x ∷ constant 0 ∷ [])) h tt

  pub assigned_there : (ops : List OpTree) (g : Given) (to : CType) → There ops → There (assigned ops g to).ops
  assigned_there ops g to h = converted_there (valued ops g).ops (kind_of g) to (valued ops g).operand (valued_there ops g h)

  pub balanced_there : (ops : List OpTree) (g : Given) (to : CType) → There ops → There (balanced ops g to).ops
  balanced_there ops g to h = converted_there (promoted_value ops g).ops (promoted (kind_of g)) to (promoted_value ops g).operand (assigned_there ops g (promoted (kind_of g)) h)

  -- ---- guards

  own_there : (ops : List OpTree) (g : Guard) → There ops → There (own_bit ops g).ops
  own_there ops g h = either g.holds where
    either : (c : Bool) → There (if c then record { ops = ops; operand = g.test } else added ops (plain o.Not 1 (g.test ∷ []))).ops
    either true = h
    either false = more ops (plain o.Not 1 (g.test ∷ [])) h tt

  under_there : (outer : Option Operand) (own : Emitted) → There own.ops → There (under outer own).ops
  under_there None own h = h
  under_there (Some x) own h = more own.ops (plain o.And 1 (x ∷ own.operand ∷ [])) h tt

  bit_there : (ops : List OpTree) (outer : Option Operand) (g : Guard) (made : Option Operand) → There ops → There (bit_of ops outer g made).ops
  bit_there ops outer g None h = under_there outer (own_bit ops g) (own_there ops g h)
  bit_there ops outer g (Some x) h = h

  guarded_there : (ops : List OpTree) (gs : List Guard) → There ops → There (guarded ops gs).ops
  guarded_there ops [] h = h
  guarded_there ops (g ∷ gs) h = bit_there (guarded ops gs).ops (guarded ops gs).bit g g.made (guarded_there ops gs h)

  -- ---- operators

  abbrev pub NextThere : Next → Type 0
  NextThere next = (ops : List OpTree) (gs : List Guard) → There ops → There (next ops gs).ops

  under_guard_there : (ops : List OpTree) (gs : List Guard) (k : CType) (op : Option Operand → OpTree) → There ops → IsThere (op (guarded ops gs).bit).array dims → There (under_guard k op (guarded ops gs)).ops
  under_guard_there ops gs k op h e = more (guarded ops gs).ops (op (guarded ops gs).bit) (guarded_there ops gs h) e

  computed_there : (ops : List OpTree) (gs : List Guard) (kind : OpKind) (k : CType) (at : Place) (args : List Operand) → There ops → There (computed kind k at ops gs args).ops
  computed_there ops gs kind k at args h = either (is_total kind (is_signed k)) where
    either : (c : Bool) → There (if c then with_value gs k (added ops (plain kind (width k) args)) else under_guard k (flagged kind (is_signed k) (width k) args None at) (guarded ops gs)).ops
    either true = more ops (plain kind (width k) args) h tt
    either false = under_guard_there ops gs k (flagged kind (is_signed k) (width k) args None at) h tt

  operated_there : (f : Binary) (ops : List OpTree) (gs : List Guard) (k : CType) (at : Place) (x y : Operand) → There ops → There (operated f k at ops gs x y).ops
  operated_there b.Lt ops gs k at x y h = more ops (defined o.Lt (is_signed k) (width k) (x ∷ y ∷ [])) h tt
  operated_there b.Gt ops gs k at x y h = more ops (defined o.Lt (is_signed k) (width k) (y ∷ x ∷ [])) h tt
  operated_there b.Le ops gs k at x y h = more ops (defined o.Le (is_signed k) (width k) (x ∷ y ∷ [])) h tt
  operated_there b.Ge ops gs k at x y h = more ops (defined o.Le (is_signed k) (width k) (y ∷ x ∷ [])) h tt
  operated_there b.Eq ops gs k at x y h = more ops (plain o.Eq (width k) (x ∷ y ∷ [])) h tt
  operated_there b.Ne ops gs k at x y h = more ops (plain o.Ne (width k) (x ∷ y ∷ [])) h tt
  operated_there b.Mul ops gs k at x y h = computed_there ops gs o.Mul k at (x ∷ y ∷ []) h
  operated_there b.Div ops gs k at x y h = computed_there ops gs o.Div k at (x ∷ y ∷ []) h
  operated_there b.Rem ops gs k at x y h = computed_there ops gs o.Rem k at (x ∷ y ∷ []) h
  operated_there b.Add ops gs k at x y h = computed_there ops gs o.Add k at (x ∷ y ∷ []) h
  operated_there b.Sub ops gs k at x y h = computed_there ops gs o.Sub k at (x ∷ y ∷ []) h
  operated_there b.Shl ops gs k at x y h = computed_there ops gs o.Shl k at (x ∷ y ∷ []) h
  operated_there b.Shr ops gs k at x y h = computed_there ops gs o.Shr k at (x ∷ y ∷ []) h
  operated_there b.And ops gs k at x y h = computed_there ops gs o.And k at (x ∷ y ∷ []) h
  operated_there b.Xor ops gs k at x y h = computed_there ops gs o.Xor k at (x ∷ y ∷ []) h
  operated_there b.Or ops gs k at x y h = computed_there ops gs o.Or k at (x ∷ y ∷ []) h
  operated_there b.LogAnd ops gs k at x y h = computed_there ops gs o.And k at (x ∷ y ∷ []) h
  operated_there b.LogOr ops gs k at x y h = computed_there ops gs o.Or k at (x ∷ y ∷ []) h

  module _ (first : Evaluated) (one : There first.ops) where
    junction_there : (both : Bool) (second : Next) → NextThere second → There (junction both second first).ops
    unfolding junction
    junction_there both second other =
        let x = tested first.ops first.given in
        let right = second x.ops (only_where x.operand both first.guards) in
        let y = tested right.ops right.given in
        either both y.ops x.operand y.operand (tested_there right.ops right.given (other x.ops (only_where x.operand both first.guards) (tested_there first.ops first.given one)))
      where
        either : (both : Bool) (ops : List OpTree) (x y : Operand) → There ops → There (ops ++ plain (if both then o.And else o.Or) 1 (x ∷ y ∷ []) ∷ [])
        either true ops x y h = more ops (plain o.And 1 (x ∷ y ∷ [])) h tt
        either false ops x y h = more ops (plain o.Or 1 (x ∷ y ∷ [])) h tt

    joined_there : (f : Binary) (to to_right : CType) (at : Place) (second : Next) → NextThere second → There (joined f to to_right at second first).ops
    unfolding joined
    joined_there f to to_right at second other =
        let x = balanced first.ops first.given to in
        let right = second x.ops first.guards in
        let y = balanced right.ops right.given to_right in
        operated_there f y.ops right.guards to at x.operand y.operand (balanced_there right.ops right.given to_right (other x.ops first.guards (balanced_there first.ops first.given to one)))

    choice_there : (k : CType) (left right : Next) → NextThere left → NextThere right → There (choice k left right first).ops
    unfolding choice
    choice_there k left right fl fr =
        let t = tested first.ops first.given in
        let a = left t.ops (only_where t.operand true first.guards) in
        let fa = fl t.ops (only_where t.operand true first.guards) (tested_there first.ops first.given one) in
        let x = balanced a.ops a.given k in
        let c = right x.ops (only_where t.operand false (outside a.guards)) in
        let fc = fr x.ops (only_where t.operand false (outside a.guards)) (balanced_there a.ops a.given k fa) in
        let y = balanced c.ops c.given k in
        more y.ops (plain o.Select (width k) (t.operand ∷ x.operand ∷ y.operand ∷ [])) (balanced_there c.ops c.given k fc) tt

    unary_there : (f : Unary) (k : CType) (at : Place) → There (unary f k at first).ops
    unary_there u.LogNot k at = more (tested first.ops first.given).ops (plain o.Not 1 ((tested first.ops first.given).operand ∷ [])) (tested_there first.ops first.given one) tt
    unary_there u.Plus k at = balanced_there first.ops first.given k one
    unary_there u.Not k at = more (balanced first.ops first.given k).ops (plain o.Not (width k) ((balanced first.ops first.given k).operand ∷ [])) (balanced_there first.ops first.given k one) tt
    unary_there u.Minus k at = computed_there (balanced first.ops first.given k).ops first.guards o.Neg k at ((balanced first.ops first.given k).operand ∷ []) (balanced_there first.ops first.given k one)

    binary_there : (f : Binary) (right k : CType) (at : Place) (second : Next) → NextThere second → There (binary f right k at second first).ops
    binary_there b.LogAnd right k at second other = junction_there true second other
    binary_there b.LogOr right k at second other = junction_there false second other
    binary_there b.Mul right k at second other = joined_there b.Mul (left_type b.Mul (kind_of first.given) right k) (right_type b.Mul (kind_of first.given) right k) at second other
    binary_there b.Div right k at second other = joined_there b.Div (left_type b.Div (kind_of first.given) right k) (right_type b.Div (kind_of first.given) right k) at second other
    binary_there b.Rem right k at second other = joined_there b.Rem (left_type b.Rem (kind_of first.given) right k) (right_type b.Rem (kind_of first.given) right k) at second other
    binary_there b.Add right k at second other = joined_there b.Add (left_type b.Add (kind_of first.given) right k) (right_type b.Add (kind_of first.given) right k) at second other
    binary_there b.Sub right k at second other = joined_there b.Sub (left_type b.Sub (kind_of first.given) right k) (right_type b.Sub (kind_of first.given) right k) at second other
    binary_there b.Shl right k at second other = joined_there b.Shl (left_type b.Shl (kind_of first.given) right k) (right_type b.Shl (kind_of first.given) right k) at second other
    binary_there b.Shr right k at second other = joined_there b.Shr (left_type b.Shr (kind_of first.given) right k) (right_type b.Shr (kind_of first.given) right k) at second other
    binary_there b.Lt right k at second other = joined_there b.Lt (left_type b.Lt (kind_of first.given) right k) (right_type b.Lt (kind_of first.given) right k) at second other
    binary_there b.Gt right k at second other = joined_there b.Gt (left_type b.Gt (kind_of first.given) right k) (right_type b.Gt (kind_of first.given) right k) at second other
    binary_there b.Le right k at second other = joined_there b.Le (left_type b.Le (kind_of first.given) right k) (right_type b.Le (kind_of first.given) right k) at second other
    binary_there b.Ge right k at second other = joined_there b.Ge (left_type b.Ge (kind_of first.given) right k) (right_type b.Ge (kind_of first.given) right k) at second other
    binary_there b.Eq right k at second other = joined_there b.Eq (left_type b.Eq (kind_of first.given) right k) (right_type b.Eq (kind_of first.given) right k) at second other
    binary_there b.Ne right k at second other = joined_there b.Ne (left_type b.Ne (kind_of first.given) right k) (right_type b.Ne (kind_of first.given) right k) at second other
    binary_there b.And right k at second other = joined_there b.And (left_type b.And (kind_of first.given) right k) (right_type b.And (kind_of first.given) right k) at second other
    binary_there b.Xor right k at second other = joined_there b.Xor (left_type b.Xor (kind_of first.given) right k) (right_type b.Xor (kind_of first.given) right k) at second other
    binary_there b.Or right k at second other = joined_there b.Or (left_type b.Or (kind_of first.given) right k) (right_type b.Or (kind_of first.given) right k) at second other

  subscript_there : (first : Evaluated) (rest : List OpTree → List Guard → Subscripts) → There first.ops → ((ops : List OpTree) (gs : List Guard) → There ops → There (rest ops gs).ops) → There (subscript rest first).ops
  unfolding subscript
  subscript_there first rest one others = others (valued first.ops first.given).ops first.guards (valued_there first.ops first.given one)

  -- ---- expressions

  module _ (scope : Scope) (same : length dims ≡ length scope.arrays) where
    pub array_there : (a : ArrayId) (x : ArrayTree) → slice_get scope.arrays a.0 ≡ Some x → a.0 < length dims
    array_there a x e = let l = within scope.arrays a.0 x e in omega (arith, l, same)

    mutual
      pub emitted_there : (outs : List Out) (x : PureTree) (ops : List OpTree) (gs : List Guard) → PureSuits scope x → There ops → There (emitted outs x ops gs).ops
      emitted_there outs (tree.number w k) ops gs z h = h
      emitted_there outs (tree.variable name k) ops gs z h = h
      emitted_there outs (tree.element array subs k at) ops gs z h =
          let s = emitted_all outs subs ops gs in
          under_guard_there s.ops s.guards k (flagged o.Load false (width k) s.operands (Some array) at) (each_there outs subs ops gs z.1 h) (array_there array z.0.0 z.0.1)
      emitted_there outs (tree.unary f arg k at) ops gs z h = unary_there (emitted outs arg ops gs) (emitted_there outs arg ops gs z h) f k at
      emitted_there outs (tree.binary f left right k at) ops gs z h =
          binary_there (emitted outs left ops gs) (emitted_there outs left ops gs z.0 h) f (kind right) k at (λ ops1 gs1. emitted outs right ops1 gs1) (λ ops1 gs1 h1. emitted_there outs right ops1 gs1 z.1 h1)
      emitted_there outs (tree.choice test left right k) ops gs z h =
          choice_there (emitted outs test ops gs) (emitted_there outs test ops gs z.0 h) k (λ ops1 gs1. emitted outs left ops1 gs1) (λ ops1 gs1. emitted outs right ops1 gs1) (λ ops1 gs1 h1. emitted_there outs left ops1 gs1 z.1 h1)
          (λ ops1 gs1 h1. emitted_there outs right ops1 gs1 z.2 h1)
      emitted_there outs (tree.cast to arg) ops gs z h = assigned_there (emitted outs arg ops gs).ops (emitted outs arg ops gs).given to (emitted_there outs arg ops gs z h)

      pub each_there : (outs : List Out) (xs : PureTrees) (ops : List OpTree) (gs : List Guard) → EachSuits scope xs → There ops → There (emitted_all outs xs ops gs).ops
      each_there outs tree.none ops gs z h = h
      each_there outs (tree.more first rest) ops gs z h =
          subscript_there (emitted outs first ops gs) (λ ops1 gs1. emitted_all outs rest ops1 gs1) (emitted_there outs first ops gs z.0 h) (λ ops1 gs1 h1. each_there outs rest ops1 gs1 z.1 h1)
