-- Bodies whose operations come behind those that they wait for.
use Rattle.std.specs.Prelude.{◌≡◌, ℕ, suc, ◌<◌, ◌≤◌, ◌^◌, true, List, [], ◌∷◌, Option, None, Some, IfSome}
use Rattle.std.specs.List.{All}
use Rattle.hls_base.specs.declared.number.OpId.{OpId}
use Rattle.ir_core.specs.declared.body.Body.{Body}
use Rattle.ir_core.specs.declared.body.Op.{Op}
use Rattle.ir_core.specs.declared.body.Operand.{Operand}
use Rattle.ir_core.specs.declared.stamp.Untimed.{Untimed}
use Rattle.dep_graph.specs.declared.edge.Edge.{Edge}
use Rattle.dep_graph.specs.Offsets.{result_of}
use Rattle.dep_graph.specs.Meetings.{is_store}
use Rattle.dep_graph.specs.Dependences.{test_maker}
use Rattle.dep_graph.specs.Sizes.{IsSmallBody}

-- the operation, if there is one, is among the first k
abbrev pub IsEarlier : ℕ → Option OpId → Type 0
IsEarlier k None = Unit {0}
IsEarlier k (Some op) = op.0 < k

-- an operand that names a result of its own iteration names one of the first k operations, and no operand goes back by more than 65,536 iterations
pub record IsForwardOperand (k : ℕ) (operand : Operand) : Type 0 where
  pub earlier : operand.distance ≡ 0 → IsEarlier k (result_of operand.value)
  pub near : operand.distance ≤ 65536

-- operation k, of at most 64 bits, comes behind those whose results it reads, and a store behind the one that makes the test
pub record IsForwardOp (test : Option Operand) (k : ℕ) (op : Op Untimed) : Type 0 where
  pub args : All (IsForwardOperand k) op.args.items
  pub guard : IfSome op.guard (IsForwardOperand k)
  pub store : is_store op.kind ≡ true → IsEarlier k (test_maker test)
  pub narrow : op.bits ≤ 64

-- of these operations the first has the number k
abbrev pub AreForwardOps : Option Operand → ℕ → List (Op Untimed) → Type 0
AreForwardOps test k [] = Unit {0}
AreForwardOps test k (op ∷ ops) = IsForwardOp test k op × AreForwardOps test (suc k) ops

pub record IsForwardBody (body : Body Untimed) : Type 0 where
  pub small : IsSmallBody body
  pub ops : AreForwardOps body.test 0 body.ops.items

-- an edge between nodes of the body, within an iteration to one of a greater number, after few cycles and few iterations
pub record IsForwardEdge (nodes : ℕ) (edge : Edge) : Type 0 where
  pub from : edge.from < nodes
  pub to : edge.to < nodes
  pub onward : edge.distance ≡ 0 → edge.from < edge.to
  pub latency : edge.latency < 2 ^ 7
  pub distance : edge.distance ≤ 2 ^ 16
