-- Operations where they stand, and their arguments as wires.
use Rattle.std.specs.Prelude.{◌≡◌, ◌⊎◌, ℕ, List, map, get_or, slice_get, Some, if◌then◌else◌}
use Rattle.hls_base.specs.declared.number.ArrayId.{ArrayId}
use Rattle.ir_core.specs.declared.body.Op.{Op}
use Rattle.ir_core.specs.declared.body.OpKind.{OpKind}
use Rattle.ir_core.specs.declared.body.OpKind.TheVariants as o
use Rattle.ir_core.specs.declared.cfg.Node.{Node}
use Rattle.rtl_core.specs.declared.design.Atom.{Atom}
use Rattle.rtl_core.specs.Netlist.{Netlist}
use Rattle.rtl_core.specs.ClockStep.{Widths, widths}
use Rattle.rtl_core.specs.Valid.{HasBits, IsBetween}
use Rattle.ir_core.specs.Bodies.{OpTree, op_of, first_bits, subscripts, stored}
use Rattle.ir_core.specs.declared.timed.Timed.{Timed}
use Rattle.clock_ir.specs.Flows.{timed_op}
use Rattle.datapath.specs.Plans.{Plan, Placed, body_at, unit_of}
use Rattle.datapath.specs.Cycles.{Register, Cycle}
use Rattle.datapath.specs.Reading.{operand, arguments}
use Rattle.datapath.specs.Ports.{port_of, is_store, is_storing}
use Rattle.rtl_logic.specs.Choosing.{where_}
use Rattle.datapath.specs.CircuitWires.Carrying.{Carries}
use Rattle.circuit_context.specs.declared.wanted.role.Target.TheVariants as t
use Rattle.circuit_context.specs.Wanted.Entries.{Entry, entry}
use Rattle.circuit_context.specs.Wanted.Logs.{CarriesSome}
use Rattle.circuit_context.specs.Counting.{ops_in}
use Rattle.circuit_context.specs.declared.context.Context.{Context}
use Rattle.rtl_logic.specs.Arguments.{missing, constant_bits, IsTakenFrom}
use Rattle.rtl_logic.specs.declared.operations.Arguments.{Arguments}
use Rattle.circuit_units.specs.declared.demands.started.Started.{Started}
use Rattle.circuit_units.specs.declared.demands.accesses.Port.{Port}

abbrev pub placed_as : Started → Placed
placed_as it = record { node = it.at.node.0; number = it.number; op = record { op = op_of it.op.now; start = it.at.time } }

-- the operation stands there in the plan, and starts at this time
pub record IsStarted (p : Plan) (it : Started) : Type 0 where
  pub ops : (body_at p it.at.node.0).ops ≡ map timed_op it.ops.now
  pub stands : slice_get it.ops.now it.number ≡ Some it.op.now
  pub time : it.at.time ≡ it.op.now.stamp.start
  pub unit : unit_of p (placed_as it) ≡ it.op.now.stamp.bound

-- these are the operations of node i of the program
pub record HasOps (of : Context) (i : ℕ) (ops : List (Op Timed)) : Type 0 where
  pub node : Node Timed
  pub stands : slice_get of.cfg.now.nodes.items i ≡ Some node
  pub are : ops ≡ ops_in node

-- the program has this operation in this node
pub record IsOfProgram (of : Context) (it : Started) : Type 0 where
  pub all : HasOps of it.at.node.0 it.ops.now
  pub stands : slice_get it.ops.now it.number ≡ Some it.op.now

-- ---- arguments

abbrev pub trees : List (Op Timed) → List OpTree
trees ops = map (λ (op : Op Timed). op_of op) ops

-- what the argument with this number has, 0 where there is none
abbrev pub argument_of : Plan → Started → ℕ → Cycle → ℕ
argument_of p it k c = operand p c it.at.node.0 it.at.time (get_or it.op.now.args.items k missing)

-- the width from which an operation widens its argument
abbrev pub width_before : Plan → Started → ℕ
width_before p it = first_bits p.program.shapes.widths (trees it.ops.now) (op_of it.op.now) it.op.now.args.items

-- the first argument of an operation of so many bits that takes it for a number of `from` bits
abbrev pub FirstFits : Widths → OpKind → ℕ → ℕ → Atom → Type 0
FirstFits w o.Widen bits from a = (n : ℕ) × HasBits w n a × IsBetween 1 64 n × IsTakenFrom bits n from
FirstFits w o.Narrow bits from a = (n : ℕ) × HasBits w n a × IsBetween 1 64 n
FirstFits w kind bits from a = HasBits w (constant_bits kind bits 0) a

-- an atom of 1 to 64 bits carries this value
pub record CarriesWord (p : Plan) (names : List Register) (d : Netlist) (a : Atom) (value : Cycle → ℕ) : Type 0 where
  pub bits : ℕ
  pub between : IsBetween 1 64 bits
  pub carries : Carries p names d bits a value

pub record IsFirst (p : Plan) (names : List Register) (d : Netlist) (it : Started) (a : Atom) : Type 0 where
  pub carries : CarriesSome p names d a (argument_of p it 0)
  pub fits : FirstFits (widths d) it.op.now.kind it.op.now.bits (width_before p it) a

-- the first three arguments, each of the width that the operation reads
pub record AreRead (p : Plan) (names : List Register) (d : Netlist) (it : Started) (of : Arguments) : Type 0 where
  pub first : IsFirst p names d it of.first
  pub second : Carries p names d (constant_bits it.op.now.kind it.op.now.bits 1) of.second (argument_of p it 1)
  pub third : Carries p names d (constant_bits it.op.now.kind it.op.now.bits 2) of.third (argument_of p it 2)

-- ---- accesses

-- the operation is an access to this array
pub record IsAccessTo (it : Started) (array : ArrayId) : Type 0 where
  pub kind : (it.op.now.kind ≡ o.Load) ⊎ (it.op.now.kind ≡ o.Store)
  pub array_ : it.op.now.array ≡ Some array

-- the access is to this array, at this port
pub record IsPortOf (p : Plan) (it : Started) (port : Port) : Type 0 where
  pub array : it.op.now.array ≡ Some port.array
  pub number : port.number ≡ port_of p port.array.0 (placed_as it)

-- the subscripts among the arguments of an access
abbrev pub subscripts_as : OpKind → List ℕ → List ℕ
subscripts_as kind args = if is_store kind then subscripts args else args

-- a store gives its word where it may be
abbrev pub stored_entry : Plan → ArrayId → Placed → Entry
stored_entry p a x = entry (t.Stored a (port_of p a.0 x)) (λ c. where_ (is_storing p c x) (stored (arguments p c x)))

-- ---- results

-- the operation has neither a shared unit nor a port
abbrev pub HasWire : OpKind → Type 0
HasWire o.Mul = ⊥
HasWire o.Div = ⊥
HasWire o.Rem = ⊥
HasWire o.Load = ⊥
HasWire o.Store = ⊥
HasWire kind = Unit {0}
