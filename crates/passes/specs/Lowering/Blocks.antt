-- Blocks that are open: pieces without control of their own add to them, and tests end them. What is never reached makes no operation.
use Rattle.std.specs.Prelude.{ℕ, Bool, true, false, List, [], ◌∷◌, ◌++◌, length, nat_lt, slice_get, Option, Some, None, is_some, if◌then◌else◌}
use Rattle.hls_base.specs.declared.place.Place.{Place}
use Rattle.hls_base.specs.declared.point.Point.{Point}
use Rattle.hls_base.specs.declared.number.ArrayId.{ArrayId}
use Rattle.hls_base.specs.declared.number.VarId.{VarId}
use Rattle.c_token.specs.declared.ctype.CType.{CType}
use Rattle.c_value.specs.Values.{int_type, width, promoted}
use Rattle.pieces.specs.declared.piece.Label.{Label}
use Rattle.pieces.specs.Trees as tree
use Rattle.pieces.specs.Trees.{PureTree, PureTrees, PieceTrees}
use Rattle.pieces.specs.Kind.{kind}
use Rattle.pieces.specs.Program.{ArrayTree}
use Rattle.ir_core.specs.declared.body.OpKind.TheVariants as o
use Rattle.ir_core.specs.declared.body.Operand.{Operand}
use Rattle.ir_core.specs.Bodies.{OpTree}
use Rattle.ir_core.specs.Trees.{ExitTree, next, branch, choose, BlockTree}
use Rattle.passes.specs.Lowering.Operations.{Emitted, added, constant, plain, flagged, tested, assigned, balanced}
use Rattle.passes.specs.Lowering.Outs.{with_out}
use Rattle.passes.specs.Lowering.Shapes.{first_point}
use Rattle.passes.specs.Lowering.Expressions.{Evaluated, Subscripts, emitted, emitted_all}

-- the types of the variables, and the arrays
pub record Scope : Type 0 where
  pub variables : List CType
  pub arrays : List ArrayTree

abbrev pub type_of : Option CType → CType
type_of None = int_type
type_of (Some k) = k

abbrev pub variable_type : Scope → VarId → CType
variable_type scope variable = type_of (slice_get scope.variables variable.0)

abbrev pub kind_in : Option ArrayTree → CType
kind_in None = int_type
kind_in (Some a) = a.kind

abbrev pub element_type : Scope → ArrayId → CType
element_type scope array = kind_in (slice_get scope.arrays array.0)

-- ---- blocks

-- an empty block, which begins at this point
abbrev pub begun : Point → BlockTree
begun point = record { point = point; ops = []; outs = []; exit = next }

-- Control comes to the end of a block that has no jump yet.
abbrev pub goes_on : ExitTree → Bool
goes_on next = true
goes_on exit = false

abbrev pub is_live : BlockTree → Bool
is_live b = goes_on b.exit

abbrev pub with_exit : ExitTree → BlockTree → BlockTree
with_exit exit b = if is_live b then record b { exit = exit } else b

abbrev pub with_ops : List OpTree → BlockTree → BlockTree
with_ops ops b = record b { ops = ops }

-- ---- what pieces add

-- the value of an expression, as one of this type
abbrev pub given_as : CType → Evaluated → Emitted
given_as k x = assigned x.ops x.given k

abbrev pub value_as : BlockTree → PureTree → CType → Emitted
value_as b value k = given_as k (emitted b.outs value b.ops [])

-- a variable that is there holds the operand
abbrev pub set_to : Scope → VarId → BlockTree → Emitted → BlockTree
set_to scope variable b x = record b { ops = x.ops; outs = if nat_lt variable.0 (length scope.variables) then with_out b.outs variable x.operand else b.outs }

abbrev pub set : Scope → VarId → PureTree → BlockTree → BlockTree
set scope variable value b = set_to scope variable b (value_as b value (variable_type scope variable))

abbrev pub stored : ArrayId → CType → Place → List Operand → Emitted → Emitted
stored array k at subscripts x = added x.ops (flagged o.Store false (width k) (subscripts ++ x.operand ∷ []) (Some array) at None)

abbrev pub stored_behind : BlockTree → ArrayId → PureTree → CType → Place → Subscripts → Emitted
stored_behind b array value k at s = stored array k at s.operands (given_as k (emitted b.outs value s.ops s.guards))

abbrev pub put : Scope → ArrayId → PureTrees → PureTree → Place → BlockTree → BlockTree
put scope array subscripts value at b =
    with_ops (stored_behind b array value (element_type scope array) at (emitted_all b.outs subscripts b.ops [])).ops b

-- ---- how a block ends

abbrev pub given_tested : Evaluated → Emitted
given_tested x = tested x.ops x.given

abbrev pub condition : PureTree → BlockTree → Emitted
condition test b = given_tested (emitted b.outs test b.ops [])

abbrev pub branching : BlockTree → Emitted → BlockTree
branching b test = record b { ops = test.ops; exit = branch test.operand }

-- by the test of a loop
abbrev pub ends_by_test : PureTree → BlockTree → BlockTree
ends_by_test test b = if is_live b then branching b (condition test b) else b

-- what pieces set
abbrev pub all_set : Scope → PieceTrees → BlockTree → BlockTree
all_set scope tree.no_pieces b = b
all_set scope (tree.then_ (tree.set variable value) rest) b = all_set scope rest (set scope variable value b)
all_set scope (tree.then_ piece rest) b = all_set scope rest b

-- A branch that begins at no point has no block: what it sets is set before the fork.
abbrev pub set_before : Scope → PieceTrees → BlockTree → BlockTree
set_before scope pieces b = if is_some (first_point pieces) then b else all_set scope pieces b

abbrev pub forking : Scope → PieceTrees → PieceTrees → BlockTree → Emitted → BlockTree
forking scope yes_ no_ b test = record (set_before scope no_ (set_before scope yes_ (with_ops test.ops b))) { exit = branch test.operand }

-- by the test of a fork with these branches
abbrev pub ends_by_fork : Scope → PureTree → PieceTrees → PieceTrees → BlockTree → BlockTree
ends_by_fork scope test yes_ no_ b = if is_live b then forking scope yes_ no_ b (condition test b) else b

-- for each label with a value whether the operand has it
pub record Cases : Type 0 where
  pub ops : List OpTree
  pub operands : List Operand

abbrev pub with_case : Emitted → (List OpTree → Cases) → Cases
with_case x rest = record { ops = (rest x.ops).ops; operands = x.operand ∷ (rest x.ops).operands }

abbrev pub case_or : CType → Operand → List OpTree → Option ℕ → (List OpTree → Cases) → Cases
case_or k x ops None rest = rest ops
case_or k x ops (Some word) rest = with_case (added ops (plain o.Eq (width k) (x ∷ constant word ∷ []))) rest

abbrev pub cases : CType → Operand → List Label → List OpTree → Cases
cases k x [] ops = record { ops = ops; operands = [] }
cases k x (l ∷ ls) ops = case_or k x ops l.value (λ ops1. cases k x ls ops1)

abbrev pub choosing : BlockTree → Cases → BlockTree
choosing b c = record b { ops = c.ops; exit = choose c.operands }

abbrev pub promoted_given : CType → Evaluated → Emitted
promoted_given k x = balanced x.ops x.given k

abbrev pub switched : CType → List Label → BlockTree → Emitted → BlockTree
switched k labels b x = choosing b (cases k x.operand labels x.ops)

-- by the labels of a switch, with which the promoted value is compared
abbrev pub ends_by_cases : PureTree → List Label → BlockTree → BlockTree
ends_by_cases test labels b =
    if is_live b then switched (promoted (kind test)) labels b (promoted_given (promoted (kind test)) (emitted b.outs test b.ops [])) else b
