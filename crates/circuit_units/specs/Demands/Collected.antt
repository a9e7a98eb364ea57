-- What is made of operations, one after another.
use Rattle.std.specs.Prelude.{◌≡◌, ℕ, List, [], map, length, get_or, flat_map, Option, Some, None}
use Rattle.std.specs.List.{enumerate_from}
use Rattle.ir_core.specs.declared.body.Op.{Op}
use Rattle.ir_core.specs.declared.cfg.Node.{Node}
use Rattle.rtl_core.specs.declared.design.Atom.{Atom}
use Rattle.rtl_core.specs.Netlist.{Netlist}
use Rattle.ir_core.specs.declared.timed.Timed.{Timed}
use Rattle.clock_ir.specs.Flows.{TimedOp, timed_op}
use Rattle.clock_ir.specs.ClockRuns.{timed_node}
use Rattle.datapath.specs.Plans.{Plan, Placed, body_at, placed_in}
use Rattle.datapath.specs.Cycles.{Register}
use Rattle.datapath.specs.Values.{arriving, arriving_as}
use Rattle.circuit_context.specs.declared.wanted.log.Push.{Push}
use Rattle.circuit_context.specs.Wanted.Entries.{demands_of}
use Rattle.circuit_context.specs.Wanted.Logs.{Logs, CarriesSome}
use Rattle.circuit_units.specs.declared.demands.started.Started.{Started}
use Rattle.circuit_units.specs.Demands.Placing.{placed_as}

-- ---- one operation

-- the wire, if there is one, carries the result
abbrev pub IsWireOf : Plan → List Register → Netlist → Started → Option Atom → Type 0
IsWireOf p names d it wire = (a : Atom) → wire ≡ Some a → CarriesSome p names d a (λ c. arriving_as it.op.now.kind p c (placed_as it))

-- all that the operation gives is logged, and it has its wire
pub record Collects (p : Plan) (names : List Register) (d e : Netlist) (old new : List Push) (it : Started) (wire : Option Atom) : Type 0 where
  pub logs : Logs p names d e old new (demands_of p (placed_as it))
  pub wire_ : IsWireOf p names e it wire

-- ---- the operations of a node

-- these are the operations of node i
pub record AreOpsOf (p : Plan) (i : ℕ) (ops : List (Op Timed)) : Type 0 where
  pub ops_ : (body_at p i).ops ≡ map timed_op ops
  pub units : get_or p.units i [] ≡ map (λ (op : Op Timed). op.stamp.bound) ops

-- operations of node i
abbrev pub placed_ops : ℕ → List TimedOp → List Placed
placed_ops i ops = map (λ (o : ℕ × TimedOp). record { node = i; number = o.0; op = o.1 }) (enumerate_from 0 ops)

-- each wire of these carries its result
abbrev pub AreWires : Plan → List Register → Netlist → ℕ → List (Option Atom) → Type 0
AreWires p names d i wires = (k : ℕ) (a : Atom) → get_or wires k None ≡ Some a → CarriesSome p names d a (λ c. arriving p c i k)

-- so it is of these operations of node i, the first ones
pub record CollectsOps (p : Plan) (names : List Register) (d e : Netlist) (old new : List Push) (i : ℕ) (ops : List (Op Timed)) (wires : List (Option Atom)) : Type 0 where
  pub logs : Logs p names d e old new (flat_map (demands_of p) (placed_ops i (map timed_op ops)))
  pub wires_ : AreWires p names e i wires
  pub count : length wires ≡ length ops

-- ---- all nodes

abbrev pub AreAllWires : Plan → List Register → Netlist → List (List (Option Atom)) → Type 0
AreAllWires p names d rows = (i k : ℕ) (a : Atom) → get_or (get_or rows i []) k None ≡ Some a → CarriesSome p names d a (λ c. arriving p c i k)

-- so it is of these nodes, the first ones
pub record CollectsNodes (p : Plan) (names : List Register) (d e : Netlist) (old new : List Push) (nodes : List (Node Timed)) (rows : List (List (Option Atom))) : Type 0 where
  pub logs : Logs p names d e old new (flat_map (demands_of p) (flat_map placed_in (enumerate_from 0 (map timed_node nodes))))
  pub wires_ : AreAllWires p names e rows
  pub count : length rows ≡ length nodes
