-- What an expression means: C11 6.3.1 and 6.5. Operands are evaluated from left to right.
use Rattle.std.specs.Prelude.{ℕ, ◌==◌, ◌||◌, Bool, true, false, List, [], ◌∷◌, ◌++◌, length, ℤ, pos, Option, Some, None, if◌then◌else◌}
use Rattle.hls_base.specs.declared.place.Place.{Place}
use Rattle.hls_base.specs.declared.point.PointKind.{PointKind}
use Rattle.hls_base.specs.declared.point.PointKind.TheVariants as point
use Rattle.hls_base.specs.declared.refusal.UbRule.TheVariants as ub
use Rattle.c_token.specs.declared.ctype.CType.{CType}
use Rattle.c_tree.specs.declared.operator.Binary.{Binary}
use Rattle.c_tree.specs.declared.operator.Binary.TheVariants as b
use Rattle.c_tree.specs.Tree as tree
use Rattle.c_tree.specs.Tree.{Tree, TargetTree, Trees}
use Rattle.c_value.specs.Values.{int_type, convert, common}
use Rattle.c_value.specs.Operators as o
use Rattle.c_value.specs.Operators.{Computed, truth, is_true, unary_kind, binary_kind, unary_value, binary_value}
use Rattle.c_meaning.specs.declared.value.Value.{Value}
use Rattle.c_meaning.specs.declared.value.Argument.{Argument}
use Rattle.c_meaning.specs.declared.value.Argument.TheVariants as argument
use Rattle.c_meaning.specs.Store.{State, Environment, object_named, kind_of_object, lengths_of_object, read_element, write_element, element_place}
use Rattle.c_meaning.specs.Steps.{Ran, goes, fails, then_, pass}

abbrev pub value : CType → ℤ → Value
value kind n = record { kind = kind; number = n }

-- What the calls of a program mean, and of which types their results are. The meaning of a call takes whether its value is used, the function's name, the arguments, and the path of the call; its value is the function's result, if there is one.
pub record Calls : Type 0 where
  pub call : Bool → List ℕ → List Argument → List Place → State → Ran (Option ℤ)
  pub result_of : List ℕ → CType

-- ---- types of expressions that need not be evaluated, C11 6.5

abbrev pub kind_of : (List ℕ → CType) → (List ℕ → CType) → Tree → CType
kind_of object_kind result_kind (tree.number n kind at) = kind
kind_of object_kind result_kind (tree.name text at) = object_kind text
kind_of object_kind result_kind (tree.index array subscripts at) = object_kind array
kind_of object_kind result_kind (tree.call callee args at) = result_kind callee
kind_of object_kind result_kind (tree.unary op arg at) = unary_kind op (kind_of object_kind result_kind arg)
kind_of object_kind result_kind (tree.binary op left right at) = binary_kind op (kind_of object_kind result_kind left) (kind_of object_kind result_kind right)
kind_of object_kind result_kind (tree.choice test left right at colon) = common (kind_of object_kind result_kind left) (kind_of object_kind result_kind right)
kind_of object_kind result_kind (tree.cast to arg at) = to
kind_of object_kind result_kind (tree.assign (tree.target text subscripts place) op v at) = object_kind text
kind_of object_kind result_kind (tree.bump (tree.target text subscripts place) up post at) = object_kind text
kind_of object_kind result_kind (tree.comma left right at) = kind_of object_kind result_kind right

abbrev pub expression_kind : Calls → Environment → State → Tree → CType
expression_kind c env s t = kind_of (λ text. kind_of_object s (object_named env text)) c.result_of t

-- ---- which operators pass points: those with a call, an assignment, `++`, `--` or a comma in a later operand

abbrev mutual
  pub acts : Tree → Bool
  acts (tree.number n kind at) = false
  acts (tree.name text at) = false
  acts (tree.index array subscripts at) = any_acts subscripts
  acts (tree.call callee args at) = true
  acts (tree.unary op arg at) = acts arg
  acts (tree.binary op left right at) = acts left || acts right
  acts (tree.choice test left right at colon) = acts test || acts left || acts right
  acts (tree.cast to arg at) = acts arg
  acts (tree.assign place op v at) = true
  acts (tree.bump place up post at) = true
  acts (tree.comma left right at) = true

  pub any_acts : Trees → Bool
  any_acts tree.none = false
  any_acts (tree.more first rest) = acts first || any_acts rest

abbrev pub pass_if : Bool → PointKind → Place → Environment → State → Ran (Unit {0})
pass_if true kind at env s = pass kind at env s
pass_if false kind at env s = goes tt s

-- ---- values of operators

-- a number of the type, or behaviour that is undefined at the operator
abbrev pub computed : CType → Computed → Place → State → Ran Value
computed kind (o.defined n) at s = goes (value kind n) s
computed kind (o.undefined rule) at s = fails rule at

abbrev pub operated : Binary → Value → Value → Place → State → Ran Value
operated op x y at s = computed (binary_kind op x.kind y.kind) (binary_value op x.kind x.number y.kind y.number) at s

-- C11 6.5.13 and 6.5.14: the second operand is evaluated, and its truth is the value
abbrev pub reached : Bool → Place → Environment → (State → Ran Value) → State → Ran Value
reached fork at env second s =
    then_ (pass_if fork point.Arm at env s) (λ p s1. then_ (second s1) (λ y s2. then_ (pass_if fork point.End at env s2) (λ q s3. goes (value int_type (truth (is_true y.number))) s3)))

-- it is not evaluated
abbrev pub not_reached : Bool → Place → Environment → Bool → State → Ran Value
not_reached fork at env decided s = then_ (pass_if fork point.End at env s) (λ q s1. goes (value int_type (truth decided)) s1)

-- an operator behind its first operand x
abbrev pub joined : Binary → Value → Bool → Place → Environment → (State → Ran Value) → State → Ran Value
joined b.LogAnd x fork at env second s = if is_true x.number then reached fork at env second s else not_reached fork at env false s
joined b.LogOr x fork at env second s = if is_true x.number then not_reached fork at env true s else reached fork at env second s
joined op x fork at env second s = then_ (second s) (λ y s1. operated op x y at s1)

-- C11 6.5.15: the operand that is chosen, which stands behind `?` or `:`, with the common type of both
abbrev pub chosen : Bool → Place → Place → CType → Environment → (State → Ran Value) → State → Ran Value
chosen fork arm at kind env operand s =
    then_ (pass_if fork point.Arm arm env s) (λ p s1. then_ (operand s1) (λ y s2. then_ (pass_if fork point.End at env s2) (λ q s3. goes (value kind (convert kind y.number)) s3)))

-- ---- objects

abbrev pub read_found : Option ℤ → CType → Bool → Place → State → Ran Value
read_found (Some n) kind is_scalar at s = goes (value kind n) s
read_found None kind true at s = fails ub.Unset at
read_found None kind false at s = fails ub.UnsetElement at

abbrev pub read_place : Option ℕ → ℕ → Bool → Place → State → Ran Value
read_place None object is_scalar at s = fails ub.Index at
read_place (Some element) object is_scalar at s = read_found (read_element s object element) (kind_of_object s object) is_scalar at s

-- A scalar, or an element of an array. Each subscript is within its dimension, and what is read was written.
abbrev pub read_object : ℕ → List ℤ → Place → State → Ran Value
read_object object subscripts at s = read_place (element_place (lengths_of_object s object) subscripts) object (length subscripts == 0) at s

-- The number is converted to the type of the object, and is then the value of the assignment (C11 6.5.16 paragraph 3, 6.5.16.1 paragraph 2).
abbrev pub store_number : ℕ → ℕ → CType → ℤ → State → Ran Value
store_number object element kind n s = goes (value kind n) (write_element s object element n)

abbrev pub store_place : Option ℕ → ℕ → ℤ → Place → State → Ran Value
store_place None object n at s = fails ub.Index at
store_place (Some element) object n at s = store_number object element (kind_of_object s object) (convert (kind_of_object s object) n) s

abbrev pub store_object : ℕ → List ℤ → ℤ → Place → State → Ran Value
store_object object subscripts n at s = store_place (element_place (lengths_of_object s object) subscripts) object n at s

-- C11 6.5.16: an operator reads its target behind the value, and computes in the common type
abbrev pub assigned : Option Binary → ℕ → List ℤ → Place → Value → Place → State → Ran Value
assigned None object subscripts place v at s = store_object object subscripts v.number place s
assigned (Some op) object subscripts place v at s =
    then_ (read_object object subscripts place s) (λ x s1. then_ (operated op x v at s1) (λ r s2. store_object object subscripts r.number place s2))

-- C11 6.5.2.4, 6.5.3.1: `++` and `--` add and subtract 1, and behind a target they have the value from before
abbrev pub bumped : Bool → Bool → ℕ → List ℤ → Place → Place → State → Ran Value
bumped up post object subscripts place at s =
    then_ (read_object object subscripts place s) (λ x s1.
    then_ (operated (if up then b.Add else b.Sub) x (value int_type (pos 1)) at s1) (λ r s2.
    then_ (store_object object subscripts r.number place s2) (λ v s3. goes (if post then x else v) s3)))

-- ---- calls

-- an argument that is the name of an array is that array
abbrev pub array_given : Environment → State → Tree → Option ℕ
array_given env s (tree.name text at) = if length (lengths_of_object s (object_named env text)) == 0 then None else Some (object_named env text)
array_given env s _ = None

abbrev pub argument_of : Option ℕ → (State → Ran Value) → State → Ran Argument
argument_of (Some object) number s = goes (argument.Array object) s
argument_of None number s = then_ (number s) (λ v s1. goes (argument.Number v.number) s1)

abbrev pub number_or_zero : Option ℤ → ℤ
number_or_zero (Some n) = n
number_or_zero None = pos 0

-- The value of a call is the function's result. Of a function without a result there is none, and it is not used.
abbrev pub call_value : Calls → Bool → List ℕ → List Argument → Place → Environment → State → Ran Value
call_value c used callee arguments at env s =
    then_ (c.call used callee arguments (env.path ++ at ∷ []) s) (λ r s1. goes (value (c.result_of callee) (number_or_zero r)) s1)

-- ---- expressions

abbrev mutual
  -- The flag says whether the value is used. It matters only where the expression is itself a call.
  pub expression_meaning : Calls → Bool → Tree → Environment → State → Ran Value
  expression_meaning c used (tree.number n kind at) env s = goes (value kind (pos n)) s
  expression_meaning c used (tree.name text at) env s = read_object (object_named env text) [] at s
  expression_meaning c used (tree.index array subscripts at) env s =
      then_ (numbers c subscripts [] env s) (λ is s1. read_object (object_named env array) is at s1)
  expression_meaning c used (tree.call callee args at) env s =
      then_ (arguments c args [] env s) (λ given s1. call_value c used callee given at env s1)
  expression_meaning c used (tree.unary op arg at) env s =
      then_ (expression_meaning c true arg env s) (λ x s1. computed (unary_kind op x.kind) (unary_value op x.kind x.number) at s1)
  expression_meaning c used (tree.binary op left right at) env s =
      then_ (expression_meaning c true left env s) (λ x s1. joined op x (acts right) at env (expression_meaning c true right env) s1)
  expression_meaning c used (tree.choice test left right at colon) env s =
      then_ (expression_meaning c true test env s) (λ x s1.
      if is_true x.number
      then chosen (acts left || acts right) at at (common (expression_kind c env s1 left) (expression_kind c env s1 right)) env (expression_meaning c true left env) s1
      else chosen (acts left || acts right) colon at (common (expression_kind c env s1 left) (expression_kind c env s1 right)) env (expression_meaning c true right env) s1)
  expression_meaning c used (tree.cast to arg at) env s =
      then_ (expression_meaning c true arg env s) (λ x s1. goes (value to (convert to x.number)) s1)
  expression_meaning c used (tree.assign (tree.target text subscripts place) op v at) env s =
      then_ (numbers c subscripts [] env s) (λ is s1.
      then_ (expression_meaning c true v env s1) (λ x s2. assigned op (object_named env text) is place x at s2))
  expression_meaning c used (tree.bump (tree.target text subscripts place) up post at) env s =
      then_ (numbers c subscripts [] env s) (λ is s1. bumped up post (object_named env text) is place at s1)
  expression_meaning c used (tree.comma left right at) env s =
      then_ (expression_meaning c false left env s) (λ x s1. expression_meaning c true right env s1)

  -- subscripts, behind those that have their numbers
  pub numbers : Calls → Trees → List ℤ → Environment → State → Ran (List ℤ)
  numbers c tree.none before env s = goes before s
  numbers c (tree.more first rest) before env s =
      then_ (expression_meaning c true first env s) (λ v s1. numbers c rest (before ++ v.number ∷ []) env s1)

  -- arguments, behind those that are evaluated
  pub arguments : Calls → Trees → List Argument → Environment → State → Ran (List Argument)
  arguments c tree.none before env s = goes before s
  arguments c (tree.more first rest) before env s =
      then_ (argument_of (array_given env s first) (expression_meaning c true first env) s) (λ a s1. arguments c rest (before ++ a ∷ []) env s1)
