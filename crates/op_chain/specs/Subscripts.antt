-- Which operands reach a subscript: directly, through operations, or through variables. Nothing reaches one through memory or a guard.
use Rattle.std.specs.Prelude.{ℕ, zero, suc, ◌-◌, Bool, false, List, [], ◌∷◌, ◌++◌, length, take, get_or, replicate, if◌then◌else◌}
use Rattle.std.specs.List.{list_any}
use Rattle.ir_core.specs.declared.body.OpKind.{OpKind}
use Rattle.ir_core.specs.declared.body.OpKind.TheVariants as o
use Rattle.ir_core.specs.declared.body.Operand.{Operand}
use Rattle.ir_core.specs.declared.body.Out.{Out}
use Rattle.ir_core.specs.Bodies.{OpTree}
use Rattle.ir_core.specs.Trees.{BodyTree}
use Rattle.ir_layout.specs.Nodes.{NodeTree, plain, looped}
use Rattle.op_chain.specs.Reads.{is_result, is_variable}

-- the subscripts among the arguments: all of a load's, and all but the last of a store's
abbrev pub subscripts : OpKind → List Operand → List Operand
subscripts o.Load args = args
subscripts o.Store args = take (length args - 1) args
subscripts kind args = []

abbrev pub subscripts_of : OpTree → List Operand
subscripts_of op = subscripts op.kind op.args

-- ---- in a body

-- what an operation hands to subscripts: all its arguments if its result reaches one, else its own subscripts
abbrev pub op_hands : Bool → OpTree → List Operand
op_hands reaches op = if reaches then op.args else subscripts_of op

-- these operands, which reach a subscript after operation n, and those that operation n hands to subscripts
abbrev pub with_op : ℕ → OpTree → List Operand → List Operand
with_op n op behind = op_hands (list_any (is_result n) behind) op ++ behind

-- the operands that reach a subscript from operation n on, if these do after the last operation
abbrev pub handed : ℕ → List OpTree → List Operand → List Operand
handed n [] behind = behind
handed n (op ∷ ops) behind = with_op n op (handed (suc n) ops behind)

-- the values of the outs whose variable reaches a subscript
abbrev pub outs_hand : List Bool → List Out → List Operand
outs_hand reaching [] = []
outs_hand reaching (x ∷ xs) = if get_or reaching x.variable.0 false then x.value ∷ outs_hand reaching xs else outs_hand reaching xs

-- the operands of a body that reach a subscript, if these variables do after it
abbrev pub body_hands : List Bool → BodyTree → List Operand
body_hands reaching b = handed zero b.ops (outs_hand reaching b.outs)

-- ---- in a program

abbrev pub body_in : NodeTree → BodyTree
body_in (plain point body end_) = body
body_in (looped point body next) = body

abbrev pub nodes_hand : List Bool → List NodeTree → List Operand
nodes_hand reaching [] = []
nodes_hand reaching (node ∷ nodes) = body_hands reaching (body_in node) ++ nodes_hand reaching nodes

-- for each of this many variables, from variable v on, whether it is among these operands
abbrev pub variables_among : ℕ → ℕ → List Operand → List Bool
variables_among v zero xs = []
variables_among v (suc count) xs = list_any (is_variable v) xs ∷ variables_among (suc v) count xs

-- for each variable whether it reaches a subscript through at most this many bodies
abbrev pub reaching_within : ℕ → ℕ → List NodeTree → List Bool
reaching_within variables zero nodes = replicate variables false
reaching_within variables (suc rounds) nodes = variables_among zero variables (nodes_hand (reaching_within variables rounds nodes) nodes)

-- For each variable whether it reaches a subscript. A shortest way there passes each variable at most once.
abbrev pub reaching : ℕ → List NodeTree → List Bool
reaching variables nodes = reaching_within variables variables nodes
