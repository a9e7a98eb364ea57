-- Bodies whose edges go forward, and orders of units that go by time.
use Rattle.std.specs.Prelude.{◌≡◌, ℕ, ◌<◌, length, slice_get, Option, Some, None, option_to_list}
use Rattle.std.specs.List.{All}
use Rattle.hls_base.specs.declared.number.OpId.{OpId}
use Rattle.ir_core.specs.declared.body.Body.{Body}
use Rattle.ir_core.specs.declared.body.Op.{Op}
use Rattle.ir_core.specs.declared.body.OpKind.TheVariants as o
use Rattle.ir_core.specs.declared.body.Operand.{Operand}
use Rattle.ir_core.specs.declared.stamp.Untimed.{Untimed}
use Rattle.modulo_loop.specs.Rules.{known_first}
use Rattle.dep_graph.specs.Offsets.{result_of}
use Rattle.dep_graph.specs.Dependences.{test_maker}

-- the operation of this number, if there is one, is among the first k
abbrev pub IsEarlier : ℕ → Option OpId → Type 0
IsEarlier k None = Unit {0}
IsEarlier k (Some op) = op.0 < k

-- an operand that names a result of its own iteration names one of the first k operations
abbrev pub NamesEarlier : ℕ → Operand → Type 0
NamesEarlier k operand = operand.distance ≡ 0 → IsEarlier k (result_of operand.value)

-- Each operation comes behind those whose results it reads in its iteration, and each store behind the one that makes the test; what makes the next test is an operation of the body.
pub record IsForwardBody (body : Body Untimed) : Type 0 where
  pub args : (k : ℕ) (op : Op Untimed) → slice_get body.ops.items k ≡ Some op → All (NamesEarlier k) op.args.items
  pub guards : (k : ℕ) (op : Op Untimed) → slice_get body.ops.items k ≡ Some op → All (NamesEarlier k) (option_to_list op.guard)
  pub stores : (k : ℕ) (op : Op Untimed) → slice_get body.ops.items k ≡ Some op → op.kind ≡ o.Store → IsEarlier k (test_maker body.test)
  pub known : IsEarlier (length body.ops.items) (known_first body.outs.items body.test)
