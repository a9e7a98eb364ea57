-- The ports of accesses.
use Rattle.std.specs.Prelude.{◌≡◌, ◌⊎◌, ℕ, List, get_or, map, length, slice_get, Some, true}
use Rattle.hls_base.specs.declared.number.ArrayId.{ArrayId}
use Rattle.ir_core.specs.declared.body.OpKind.{OpKind}
use Rattle.ir_core.specs.declared.cfg.Memory.{Memory}
use Rattle.ir_core.specs.declared.cfg.Node.{Node}
use Rattle.ir_core.specs.declared.timed.Timed.{Timed}
use Rattle.clock_ir.specs.Flows.{TimedOp}
use Rattle.datapath.specs.Plans.{Plan, body_at}
use Rattle.datapath.specs.Ports.{port_of, is_load, is_store}
use Rattle.circuit_context.specs.Bank.Banks.{ArePortCounts}
use Rattle.circuit_context.specs.Counting.{ops_in}
use Rattle.circuit_context.specs.declared.ports.PortNumbers.{PortNumbers}

abbrev pub IsAccess : OpKind → Type 0
IsAccess kind = (is_load kind ≡ true) ⊎ (is_store kind ≡ true)

-- how many operations a node has, none where there is no such node
abbrev pub operations_of : List (Node Timed) → ℕ → ℕ
operations_of nodes i = get_or (map (λ n. length (ops_in n)) nodes) i 0

-- how many of them the ports have a place for
abbrev pub places_of : PortNumbers → ℕ → ℕ
places_of ports i = get_or (map (λ r. length r.items) ports.numbers.items) i 0

-- the operations of each node, and each array, have their places
pub record HasPlaces (nodes : List (Node Timed)) (memories : List Memory) (ports : PortNumbers) : Type 0 where
  pub rows : (i : ℕ) → places_of ports i ≡ operations_of nodes i
  pub counts : length ports.counts.items ≡ length memories

-- each access has its port's number, and each array its number of ports
pub record ArePorts (p : Plan) (ports : PortNumbers) : Type 0 where
  pub counts : ArePortCounts p ports.counts.items
  pub numbers : (i k port : ℕ) (row : List ℕ) (it : TimedOp) (array : ArrayId) → slice_get (body_at p i).ops k ≡ Some it → IsAccess it.op.kind → it.op.array ≡ Some array
      → slice_get (map (λ r. r.items) ports.numbers.items) i ≡ Some row → slice_get row k ≡ Some port → port ≡ port_of p array.0 (record { node = i; number = k; op = it })
