-- What a circuit is made from: a timed program, the arrays that it works on, and what was found for it: units, registers, and what may be left out.
use Rattle.std.specs.Prelude.{ℕ, ◌^◌, nat_le, min, max, Bool, false, List, [], length, map, get_or, slice_get, slice_index, filter, flat_map, count_by, fold, Option, Some, None, is_some, if◌then◌else◌}
use Rattle.std.specs.List.{enumerate_from, range_with_len}
use Rattle.hls_base.specs.ArrayAddress.{address_bits}
use Rattle.hls_base.specs.declared.number.Kept.{Kept}
use Rattle.hls_base.specs.declared.number.VarId.{VarId}
use Rattle.ir_core.specs.declared.body.Body.{Body}
use Rattle.ir_core.specs.declared.body.Op.{Op}
use Rattle.ir_core.specs.declared.cfg.Cfg.{Cfg}
use Rattle.ir_core.specs.declared.cfg.Memory.{Memory}
use Rattle.ir_core.specs.declared.cfg.Node.{Node}
use Rattle.ir_core.specs.declared.cfg.Node.TheVariants as node
use Rattle.ir_core.specs.declared.timed.Timed.{Timed}
use Rattle.reg_binding.specs.declared.registers.Held.{Held}
use Rattle.reg_binding.specs.declared.registers.Registers.{Registers}
use Rattle.rtl_core.specs.Interface.{Interface}
use Rattle.rtl_core.specs.FramePins.{result_bits}
use Rattle.clock_ir.specs.Flows.{TimedOp, TimedBody}
use Rattle.clock_ir.specs.ClockRuns.{TimedNode, block, overlapped, TimedProgram, timed_program}

-- an array: a table of constants has its words, an array of file scope the elements with which it begins after a reset
pub record Array : Type 0 where
  pub bits : ℕ
  pub dims : List ℕ
  pub table : Option (List ℕ)
  pub first : Option (List ℕ)
  pub host : Bool

-- What the circuit makes use of: which variables are read again behind each node, which are read anywhere, and the nodes of whose cases no two can hold.
pub record Savings : Type 0 where
  pub behind : ℕ → ℕ → Bool
  pub read : ℕ → Bool
  pub exclusive : ℕ → Bool

-- The program; the unit of each operation, by node; the parameters; the scalars that stay from run to run, with their first values; the bits of the result, 0 for none; the arrays; the bits of the registers for results, and what they hold.
pub record Plan : Type 0 where
  pub program : TimedProgram
  pub units : List (List ℕ)
  pub parameters : List VarId
  pub kept : List Kept
  pub result : ℕ
  pub arrays : List Array
  pub widths : List ℕ
  pub held : List Held
  pub savings : Savings

-- ---- the plan of a program

abbrev pub array_of : Memory → Array
array_of m = record { bits = m.bits; dims = m.dims.items; table = m.table; first = m.initial; host = m.host }

abbrev pub units_of : Body Timed → List ℕ
units_of b = map (λ (op : Op Timed). op.stamp.bound) b.ops.items

abbrev pub node_units : Node Timed → List ℕ
node_units (node.Plain b) = units_of b.body
node_units (node.Looped r) = units_of r.body

abbrev pub plan_of : Cfg Timed → Registers → Savings → Plan
plan_of cfg registers savings = record {
  program = timed_program cfg;
  units = map node_units cfg.nodes.items;
  parameters = cfg.frame.params.items;
  kept = cfg.frame.kept.items;
  result = cfg.frame.ret;
  arrays = map array_of cfg.frame.memories.items;
  widths = registers.widths.items;
  held = registers.held.items;
  savings = savings;
}

-- ---- nodes

abbrev pub body_of : TimedNode → TimedBody
body_of (block body end_) = body
body_of (overlapped body exit next) = body

abbrev pub no_body : TimedBody
no_body = record { ops = []; outs = []; test = None; interval = 1 }

abbrev pub body_if : Option TimedNode → TimedBody
body_if None = no_body
body_if (Some n) = body_of n

abbrev pub body_at : Plan → ℕ → TimedBody
body_at p i = body_if (slice_get p.program.nodes i)

-- The time of a node begins again after so many cycles: the length of a block, the interval of a loop.
abbrev pub span : Plan → ℕ → ℕ
span p i = max 1 (body_at p i).interval

-- each node, with its number
abbrev pub numbered : Plan → List (ℕ × TimedNode)
numbered p = enumerate_from 0 p.program.nodes

-- ---- operations

-- an operation, with its node and its number there
pub record Placed : Type 0 where
  pub node : ℕ
  pub number : ℕ
  pub op : TimedOp

abbrev pub placed_in : ℕ × TimedNode → List Placed
placed_in n = map (λ (o : ℕ × TimedOp). record { node = n.0; number = o.0; op = o.1 }) (enumerate_from 0 (body_of n.1).ops)

abbrev pub all_ops : Plan → List Placed
all_ops p = flat_map placed_in (numbered p)

abbrev pub unit_of : Plan → Placed → ℕ
unit_of p x = get_or (get_or p.units x.node []) x.number 0

-- ---- arrays

abbrev pub no_array : Array
no_array = record { bits = 0; dims = []; table = None; first = None; host = false }

abbrev pub array_at : Plan → ℕ → Array
array_at p a = get_or p.arrays a no_array

abbrev pub depth : Plan → ℕ → ℕ
depth p a = address_bits (array_at p a).dims

-- the arrays that the host reaches
abbrev pub host_arrays : Plan → List Array
host_arrays p = filter (λ (a : Array). a.host) p.arrays

-- the pins of the function's module
abbrev pub interface : Plan → Interface
interface p = record {
  scalars = map (λ (v : VarId). slice_index p.program.shapes.widths v.0) p.parameters;
  arrays = map (λ (a : Array). record { bits = a.bits; dims = a.dims }) (host_arrays p);
  result = result_bits p.result;
}

-- ---- numbers

-- After a reset the scalars that stay take their first values, and the arrays of file scope their first elements, a word of each in every cycle.
abbrev pub cycles_for : Array → ℕ
cycles_for a = if is_some a.first then 2 ^ address_bits a.dims else 0

abbrev pub initial_cycles : Plan → ℕ
initial_cycles p = fold (λ n a. max n (cycles_for a)) (min 1 (length p.kept)) p.arrays

-- the bits of a number below 2^64
abbrev pub bits_of : ℕ → ℕ
bits_of n = count_by (λ k. nat_le (2 ^ k) n) (range_with_len 0 64)
