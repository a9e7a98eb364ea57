-- What expressions without calls and changes mean: C11 6.3.1 and 6.5.
use Rattle.std.specs.Prelude.{ℕ, ◌==◌, true, false, List, [], ◌∷◌, ℤ, slice_get, Option, Some, None, if◌then◌else◌}
use Rattle.hls_base.specs.declared.place.Place.{Place}
use Rattle.hls_base.specs.declared.refusal.UbRule.TheVariants as ub
use Rattle.c_tree.specs.declared.operator.Binary.{Binary}
use Rattle.c_tree.specs.declared.operator.Binary.TheVariants as b
use Rattle.c_token.specs.declared.ctype.CType.{CType}
use Rattle.c_value.specs.Values.{number_of, convert}
use Rattle.c_value.specs.Operators as o
use Rattle.c_value.specs.Operators.{Computed, truth, is_true, unary_value, binary_value}
use Rattle.c_meaning.specs.Store.{element_place}
use Rattle.pieces.specs.Trees as tree
use Rattle.pieces.specs.Trees.{PureTree, PureTrees}
use Rattle.pieces.specs.Kind.{kind}
use Rattle.pieces.specs.Program.{ArrayTree}
use Rattle.hls_base.specs.Valued.{Valued, is, faulty, and_then}

-- What each variable and each element of an array holds, row by row. There is a number in each of them from the start.
pub record Store : Type 0 where
  pub variables : ℕ → ℤ
  pub elements : ℕ → ℕ → ℤ

-- the numbers of one of these, with another one at this place
abbrev pub with_number : (ℕ → ℤ) → ℕ → ℤ → ℕ → ℤ
with_number f i v j = if i == j then v else f j

abbrev pub with_variable : ℕ → ℤ → Store → Store
with_variable i v t = record t { variables = with_number t.variables i v }

abbrev pub with_row : (ℕ → ℕ → ℤ) → ℕ → ℕ → ℤ → ℕ → ℕ → ℤ
with_row f a i v b = if a == b then with_number (f b) i v else f b

abbrev pub with_element : ℕ → ℕ → ℤ → Store → Store
with_element a i v t = record t { elements = with_row t.elements a i v }

abbrev pub computed : Computed → Place → Valued ℤ
computed (o.defined v) at = is v
computed (o.undefined rule) at = faulty rule at

abbrev pub lengths_in : Option ArrayTree → List ℕ
lengths_in None = []
lengths_in (Some a) = a.lengths

-- Each subscript is within its dimension.
abbrev pub element_number : List ArrayTree → ℕ → List ℤ → Option ℕ
element_number arrays array subscripts = element_place (lengths_in (slice_get arrays array)) subscripts

abbrev pub element_at : ℕ → Option ℕ → Place → Store → Valued ℤ
element_at array None at t = faulty ub.Index at
element_at array (Some i) at t = is (t.elements array i)

-- an operator behind its first operand, which has this value
abbrev pub joined : Binary → CType → ℤ → CType → Place → Valued ℤ → Valued ℤ
joined b.LogAnd left x right at second = if is_true x then and_then second (λ y. is (truth (is_true y))) else is (truth false)
joined b.LogOr left x right at second = if is_true x then is (truth true) else and_then second (λ y. is (truth (is_true y)))
joined op left x right at second = and_then second (λ y. computed (binary_value op left x right y) at)

abbrev mutual
  pub value : List ArrayTree → PureTree → Store → Valued ℤ
  value arrays (tree.number v k) t = is (number_of k v)
  value arrays (tree.variable name k) t = is (t.variables name.0)
  value arrays (tree.element array subscripts k at) t =
      and_then (values arrays subscripts t) (λ is_. element_at array.0 (element_number arrays array.0 is_) at t)
  value arrays (tree.unary op arg k at) t = and_then (value arrays arg t) (λ x. computed (unary_value op (kind arg) x) at)
  value arrays (tree.binary op left right k at) t = and_then (value arrays left t) (λ x. joined op (kind left) x (kind right) at (value arrays right t))
  value arrays (tree.choice test left right k) t =
      and_then (value arrays test t) (λ x. and_then (if is_true x then value arrays left t else value arrays right t) (λ y. is (convert k y)))
  value arrays (tree.cast to arg) t = and_then (value arrays arg t) (λ x. is (convert to x))

  -- from left to right
  pub values : List ArrayTree → PureTrees → Store → Valued (List ℤ)
  values arrays tree.none t = is []
  values arrays (tree.more first rest) t = and_then (value arrays first t) (λ x. and_then (values arrays rest t) (λ xs. is (x ∷ xs)))
