-- What a core expression means: C11 6.3.1 and 6.5. Operands are evaluated from left to right.
use Rattle.std.specs.Prelude.{ℕ, suc, ◌||◌, Bool, true, false, List, [], ◌∷◌, ◌++◌, ℤ, pos, slice_get, Option, Some, None, if◌then◌else◌}
use Rattle.hls_base.specs.declared.place.Place.{Place}
use Rattle.hls_base.specs.declared.point.Point.{Point}
use Rattle.hls_base.specs.declared.point.PointKind.{PointKind}
use Rattle.hls_base.specs.declared.point.PointKind.TheVariants as point
use Rattle.hls_base.specs.declared.refusal.UbRule.{UbRule}
use Rattle.hls_base.specs.declared.refusal.UbRule.TheVariants as ub
use Rattle.c_token.specs.declared.ctype.CType.{CType}
use Rattle.c_tree.specs.declared.operator.Binary.{Binary}
use Rattle.c_tree.specs.declared.operator.Binary.TheVariants as b
use Rattle.c_value.specs.Values.{int_type, convert}
use Rattle.c_value.specs.Operators as o
use Rattle.c_value.specs.Operators.{Computed, truth, is_true, unary_value, binary_value}
use Rattle.c_meaning.specs.Store.{element_in, element_place, with_element}
use Rattle.pieces.specs.Resolved.Core as core
use Rattle.pieces.specs.Resolved.Core.{CoreTree, CoreTargetTree, CoreTrees, ArgumentTree, ArgumentTrees}
use Rattle.hls_base.specs.Steps.{Ran, goes, fails, then_, pass_if}
use Rattle.c_meaning.specs.CoreRuns.Kinds.{kind_of, acts}
use Rattle.c_meaning.specs.CoreRuns.Cells.{Spot, Cells, put, Given, number_given, array_given, Here, spot_of}

-- What the calls of a program mean: of whether the value is used, the function's number, the arguments, the frame of the call, and its path. The value is the function's result, if there is one.
abbrev pub CoreCalls : Type 0
CoreCalls = Bool → ℕ → List Given → ℕ → List Place → Cells → ℕ → Ran Cells (Option ℤ)

abbrev pub point_at : PointKind → Place → Here → Point
point_at kind at here = record { path = here.path; at = at; kind = kind }

-- ---- values of operators

-- a number, or behaviour that is undefined at the operator
abbrev pub computed : Computed → Place → Cells → ℕ → Ran Cells ℤ
computed (o.defined v) at s n = goes v s n
computed (o.undefined rule) at s n = fails rule at

-- C11 6.5.13 and 6.5.14: the second operand is evaluated, and its truth is the value
abbrev pub both : Bool → Place → Here → (Cells → ℕ → Ran Cells ℤ) → Cells → ℕ → Ran Cells ℤ
both fork at here second s n =
    then_ (pass_if fork (point_at point.Arm at here) s n) (λ p s1 n1. then_ (second s1 n1) (λ y s2 n2.
    then_ (pass_if fork (point_at point.End at here) s2 n2) (λ q s3 n3. goes (truth (is_true y)) s3 n3)))

-- it is not evaluated
abbrev pub first_alone : Bool → Place → Here → Bool → Cells → ℕ → Ran Cells ℤ
first_alone fork at here decided s n = then_ (pass_if fork (point_at point.End at here) s n) (λ q s1 n1. goes (truth decided) s1 n1)

-- an operator behind its first operand, which has this value
abbrev pub joined : Binary → CType → ℤ → CType → Bool → Place → Here → (Cells → ℕ → Ran Cells ℤ) → Cells → ℕ → Ran Cells ℤ
joined b.LogAnd left x right fork at here second s n = if is_true x then both fork at here second s n else first_alone fork at here false s n
joined b.LogOr left x right fork at here second s n = if is_true x then first_alone fork at here true s n else both fork at here second s n
joined op left x right fork at here second s n = then_ (second s n) (λ y s1 n1. computed (binary_value op left x right y) at s1 n1)

-- C11 6.5.15: the operand that is chosen, which stands behind `?` or `:`, in the common type of both
abbrev pub chosen : Bool → Place → Place → CType → Here → (Cells → ℕ → Ran Cells ℤ) → Cells → ℕ → Ran Cells ℤ
chosen fork arm at kind here operand s n =
    then_ (pass_if fork (point_at point.Arm arm here) s n) (λ p s1 n1. then_ (operand s1 n1) (λ y s2 n2.
    then_ (pass_if fork (point_at point.End at here) s2 n2) (λ q s3 n3. goes (convert kind y) s3 n3)))

-- ---- objects

abbrev pub read_found : UbRule → Option ℤ → Place → Cells → ℕ → Ran Cells ℤ
read_found rule (Some v) at s n = goes v s n
read_found rule None at s n = fails rule at

abbrev pub read_place : UbRule → Option ℕ → Spot → Place → Cells → ℕ → Ran Cells ℤ
read_place rule None x at s n = fails ub.Index at
read_place rule (Some element) x at s n = read_found rule (element_in (slice_get (s x).elements element)) at s n

-- A scalar, or an element of an array. Each subscript is within its dimension, and what is read was written.
abbrev pub read : UbRule → Spot → List ℤ → Place → Cells → ℕ → Ran Cells ℤ
read rule x subscripts at s n = read_place rule (element_place (s x).lengths subscripts) x at s n

-- the rule by which it is undefined to read what was not written
abbrev pub unset_rule : List ℤ → UbRule
unset_rule [] = ub.Unset
unset_rule (i ∷ is) = ub.UnsetElement

abbrev pub written : Spot → ℕ → ℤ → Cells → Cells
written x element v s = put s x (with_element element v (s x))

abbrev pub store_place : Option ℕ → Spot → CType → ℤ → Place → Cells → ℕ → Ran Cells ℤ
store_place None x kind v at s n = fails ub.Index at
store_place (Some element) x kind v at s n = goes (convert kind v) (written x element (convert kind v) s) n

-- The number is converted to the type of the object, and is then the value of the assignment (C11 6.5.16 paragraph 3, 6.5.16.1 paragraph 2).
abbrev pub store : Spot → List ℤ → CType → ℤ → Place → Cells → ℕ → Ran Cells ℤ
store x subscripts kind v at s n = store_place (element_place (s x).lengths subscripts) x kind v at s n

-- C11 6.5.16: an operator reads its target behind the value, and computes in the common type
abbrev pub assigned : Option Binary → Spot → List ℤ → CType → Place → CType → ℤ → Place → Cells → ℕ → Ran Cells ℤ
assigned None x subscripts kind place value_kind v at s n = store x subscripts kind v place s n
assigned (Some op) x subscripts kind place value_kind v at s n =
    then_ (read (unset_rule subscripts) x subscripts place s n) (λ old s1 n1.
    then_ (computed (binary_value op kind old value_kind v) at s1 n1) (λ r s2 n2. store x subscripts kind r place s2 n2))

-- C11 6.5.2.4, 6.5.3.1: `++` and `--` add and subtract 1, and behind a target they have the value from before
abbrev pub bumped : Bool → Bool → Spot → List ℤ → CType → Place → Place → Cells → ℕ → Ran Cells ℤ
bumped up post x subscripts kind place at s n =
    then_ (read (unset_rule subscripts) x subscripts place s n) (λ old s1 n1.
    then_ (computed (binary_value (if up then b.Add else b.Sub) kind old int_type (pos 1)) at s1 n1) (λ r s2 n2.
    then_ (store x subscripts kind r place s2 n2) (λ v s3 n3. goes (if post then old else v) s3 n3)))

abbrev pub number_or_zero : Option ℤ → ℤ
number_or_zero (Some v) = v
number_or_zero None = pos 0

-- ---- expressions

abbrev mutual
  -- The flag says whether the value is used. It matters only where the expression is itself a call.
  pub expression : CoreCalls → Bool → CoreTree → Here → Cells → ℕ → Ran Cells ℤ
  expression c used (core.number value kind) here s n = goes (pos value) s n
  expression c used (core.scalar cell kind at) here s n = read ub.Unset (spot_of here cell) [] at s n
  expression c used (core.element array subscripts kind at) here s n =
      then_ (numbers c subscripts [] here s n) (λ is s1 n1. read (unset_rule is) (spot_of here array) is at s1 n1)
  expression c used (core.call callee args kind at) here s n =
      then_ (arguments c args [] here s n) (λ given s1 n1.
      then_ (c used callee given (suc here.frame) (here.path ++ at ∷ []) s1 n1) (λ r s2 n2. goes (number_or_zero r) s2 n2))
  expression c used (core.unary op arg kind at) here s n =
      then_ (expression c true arg here s n) (λ x s1 n1. computed (unary_value op (kind_of arg) x) at s1 n1)
  expression c used (core.binary op left right kind at) here s n =
      then_ (expression c true left here s n) (λ x s1 n1. joined op (kind_of left) x (kind_of right) (acts right) at here (expression c true right here) s1 n1)
  expression c used (core.choice test left right kind at colon) here s n =
      then_ (expression c true test here s n) (λ x s1 n1.
      if is_true x
      then chosen (acts left || acts right) at at kind here (expression c true left here) s1 n1
      else chosen (acts left || acts right) colon at kind here (expression c true right here) s1 n1)
  expression c used (core.cast to arg) here s n = then_ (expression c true arg here s n) (λ x s1 n1. goes (convert to x) s1 n1)
  expression c used (core.assign (core.target cell subscripts kind place) op v at) here s n =
      then_ (numbers c subscripts [] here s n) (λ is s1 n1.
      then_ (expression c true v here s1 n1) (λ x s2 n2. assigned op (spot_of here cell) is kind place (kind_of v) x at s2 n2))
  expression c used (core.bump (core.target cell subscripts kind place) up post at) here s n =
      then_ (numbers c subscripts [] here s n) (λ is s1 n1. bumped up post (spot_of here cell) is kind place at s1 n1)
  expression c used (core.comma left right) here s n =
      then_ (expression c false left here s n) (λ x s1 n1. expression c true right here s1 n1)

  -- subscripts, behind those that have their numbers
  pub numbers : CoreCalls → CoreTrees → List ℤ → Here → Cells → ℕ → Ran Cells (List ℤ)
  numbers c core.none before here s n = goes before s n
  numbers c (core.more first rest) before here s n =
      then_ (expression c true first here s n) (λ x s1 n1. numbers c rest (before ++ x ∷ []) here s1 n1)

  -- arguments, behind those that are evaluated
  pub arguments : CoreCalls → ArgumentTrees → List Given → Here → Cells → ℕ → Ran Cells (List Given)
  arguments c core.no_argument before here s n = goes before s n
  arguments c (core.more_arguments (core.given value) rest) before here s n =
      then_ (expression c true value here s n) (λ x s1 n1. arguments c rest (before ++ number_given x ∷ []) here s1 n1)
  arguments c (core.more_arguments (core.array cell) rest) before here s n =
      arguments c rest (before ++ array_given (spot_of here cell) ∷ []) here s n
