-- Nodes whose operands name only earlier operations, as those of a valid program do.
use Rattle.std.specs.Prelude.{◌≡◌, ℕ, zero, suc, ◌<◌, List, [], ◌∷◌, length, Option, Some, None}
use Rattle.std.specs.Option.{option_to_list}
use Rattle.ir_core.specs.declared.body.Operand.{Operand}
use Rattle.ir_core.specs.declared.body.Simple.{Simple}
use Rattle.ir_core.specs.declared.body.Source.{Source}
use Rattle.ir_core.specs.declared.body.Source.TheVariants as source
use Rattle.ir_core.specs.Bodies.{OpTree}
use Rattle.ir_core.specs.Trees.{BodyTree}
use Rattle.ir_layout.specs.Nodes.{NodeTree, plain, looped}
use Rattle.op_chain.specs.Reads.{op_operands, out_operands, end_operands}
use Rattle.op_chain.specs.Pairs.{simple_of}

-- it names no operation, or one before operation n
abbrev pub NamesBefore : ℕ → Source → Type 0
NamesBefore n (source.Result op) = op.0 < n
NamesBefore n (source.Constant w) = Unit {0}
NamesBefore n (source.Variable v) = Unit {0}

abbrev pub AllBefore : ℕ → List Operand → Type 0
AllBefore n [] = Unit {0}
AllBefore n (x ∷ xs) = NamesBefore n x.value × AllBefore n xs

-- an operator that may be fused has two arguments
abbrev pub HasTwo : Option Simple → List Operand → Type 0
HasTwo None args = Unit {0}
HasTwo (Some operator) args = length args ≡ 2

-- these operations, of which the first has number n
abbrev pub OpsForward : ℕ → List OpTree → Type 0
OpsForward n [] = Unit {0}
OpsForward n (op ∷ ops) = AllBefore n (op_operands op) × HasTwo (simple_of op.kind) op.args × OpsForward (suc n) ops

pub record BodyForward (b : BodyTree) : Type 0 where
  pub ops : OpsForward zero b.ops
  pub outs : AllBefore (length b.ops) (out_operands b.outs)
  pub test : AllBefore (length b.ops) (option_to_list b.test)

abbrev pub NodeForward : NodeTree → Type 0
NodeForward (plain point body end_) = BodyForward body × AllBefore (length body.ops) (end_operands end_)
NodeForward (looped point body next) = BodyForward body × Unit {0}

abbrev pub NodesForward : List NodeTree → Type 0
NodesForward [] = Unit {0}
NodesForward (node ∷ nodes) = NodeForward node × NodesForward nodes
