-- The operands that a node reads, and how often it reads the result of an operation.
use Rattle.std.specs.Prelude.{ℕ, zero, suc, ◌==◌, ◌&&◌, Bool, false, List, [], ◌∷◌, ◌++◌, map, if◌then◌else◌}
use Rattle.std.specs.Option.{option_to_list}
use Rattle.ir_core.specs.declared.body.Operand.{Operand}
use Rattle.ir_core.specs.declared.body.Out.{Out}
use Rattle.ir_core.specs.declared.body.Source.{Source}
use Rattle.ir_core.specs.declared.body.Source.TheVariants as source
use Rattle.ir_core.specs.Bodies.{OpTree}
use Rattle.ir_core.specs.Trees.{BodyTree}
use Rattle.ir_layout.specs.Nodes.{EndTree, jumps, branches, chooses, returns, NodeTree, plain, looped}

-- the arguments of an operation and its guard
abbrev pub op_operands : OpTree → List Operand
op_operands op = op.args ++ option_to_list op.guard

abbrev pub ops_operands : List OpTree → List Operand
ops_operands [] = []
ops_operands (op ∷ ops) = op_operands op ++ ops_operands ops

abbrev pub out_operands : List Out → List Operand
out_operands = map (λ x. x.value)

-- the operands of the operations, the values of the outs, and the test
abbrev pub body_operands : BodyTree → List Operand
body_operands b = ops_operands b.ops ++ (out_operands b.outs ++ option_to_list b.test)

abbrev pub end_operands : EndTree → List Operand
end_operands (jumps node) = []
end_operands (branches test yes_ no_) = test ∷ []
end_operands (chooses cases other) = map (λ c. c.0) cases
end_operands (returns value) = option_to_list value

abbrev pub node_operands : NodeTree → List Operand
node_operands (plain point body end_) = body_operands body ++ end_operands end_
node_operands (looped point body next) = body_operands body

-- ---- what an operand names

abbrev pub names_result : ℕ → Source → Bool
names_result u (source.Result op) = op.0 == u
names_result u s = false

abbrev pub names_variable : ℕ → Source → Bool
names_variable v (source.Variable variable) = variable.0 == v
names_variable v s = false

-- the operand is the result of operation u, in this iteration or in an earlier one
abbrev pub is_result : ℕ → Operand → Bool
is_result u x = names_result u x.value

-- the operand is the result of operation u in this iteration
abbrev pub is_result_now : ℕ → Operand → Bool
is_result_now u x = is_result u x && (x.distance == 0)

abbrev pub is_variable : ℕ → Operand → Bool
is_variable v x = names_variable v x.value

-- how many of these operands are the result of operation u
abbrev pub reads : ℕ → List Operand → ℕ
reads u [] = zero
reads u (x ∷ xs) = if is_result u x then suc (reads u xs) else reads u xs
