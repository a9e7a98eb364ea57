-- What is known of a plan as its circuit is made.
use Rattle.std.specs.Prelude.{◌≡◌, ◌<◌, ◌++◌, ℕ, List, length, map, slice_get, Option, Some, None}
use Rattle.hls_base.specs.ArrayAddress.{address_bits}
use Rattle.rtl_core.specs.declared.design.Atom.{Atom}
use Rattle.rtl_core.specs.Netlist.{Netlist}
use Rattle.ir_core.specs.declared.body.Op.{Op}
use Rattle.ir_core.specs.declared.body.Operand.{Operand}
use Rattle.ir_core.specs.declared.cfg.Cfg.{Cfg}
use Rattle.ir_core.specs.declared.cfg.Frame.{Frame}
use Rattle.ir_core.specs.declared.cfg.Memory.{Memory}
use Rattle.ir_core.specs.Bodies.{address_of}
use Rattle.ir_core.specs.declared.timed.Timed.{Timed}
use Rattle.clock_ir.specs.Flows.{timed_op}
use Rattle.clock_ir.specs.ClockRuns.{timed_program}
use Rattle.reg_binding.specs.Liveness.{IsLiveness, flow_of}
use Rattle.rtl_logic.specs.Making.{Appends}
use Rattle.datapath.specs.Plans.{Plan, Placed, plan_of, array_of, array_at, body_at}
use Rattle.datapath.specs.Cycles.{Register, Cycle}
use Rattle.datapath.specs.Reading.{operand}
use Rattle.datapath.specs.CircuitWires.Carrying.{Carries, IsBegun}
use Rattle.ir_core.specs.Small.{HasSmallNumbers}
use Rattle.datapath.specs.LeftOut.{savings_of, is_read}
use Rattle.circuit_context.specs.Bank.Banks.{names_of}
use Rattle.datapath.specs.Tables.{ArePlaces}
use Rattle.circuit_context.specs.Numbers.{ArePorts}
use Rattle.circuit_context.specs.declared.context.Context.{Context}

-- The plan is that of the program, with these registers and with what is live. The bank's registers are the first ones of the circuit.
pub record IsContext (p : Plan) (names : List Register) (of : Context) : Type 0 where
  pub plan : p ≡ plan_of of.cfg.now of.registers.now (savings_of of.cfg.now of.live)
  pub more : List Register
  pub names_ : names ≡ names_of of.bank ++ more
  pub small : HasSmallNumbers of.cfg.now
  pub live_ : IsLiveness (flow_of of.cfg.now) of.live
  pub places_ : ArePlaces of.registers.now.held.items of.places
  pub ports_ : ArePorts p of.ports
  pub read_ : (v : ℕ) → v < length of.cfg.now.frame.variables.items → slice_get of.read.items v ≡ Some (is_read of.cfg.now of.live v)

-- operation number k of node i, as it stands in the program
abbrev pub StandsAt : Plan → ℕ → ℕ → Op Timed → Type 0
StandsAt p i k op = slice_get (body_at p i).ops k ≡ Some (timed_op op)

abbrev pub placed : ℕ → ℕ → Op Timed → Placed
placed i k op = record { node = i; number = k; op = timed_op op }

-- the array is there, and has so many dimensions
pub record HasDimensions (f : Frame) (a count : ℕ) : Type 0 where
  pub memory : Memory
  pub stands : slice_get f.memories.items a ≡ Some memory
  pub length_ : length memory.dims.items ≡ count

-- the address of an element in a cycle, from its subscripts
abbrev pub subscripted : Plan → ℕ → ℕ → ℕ → List Operand → Cycle → ℕ
subscripted p i time a xs c = address_of (array_at p a).dims (map (operand p c i time) xs)

-- the plan's nodes, arrays and scalars that stay are those of the program
pub record IsProgramOf (p : Plan) (cfg : Cfg Timed) : Type 0 where
  pub program : p.program ≡ timed_program cfg
  pub arrays : map array_of cfg.frame.memories.items ≡ p.arrays
  pub kept : cfg.frame.kept.items ≡ p.kept

-- an atom of so many bits carries this value; without an atom there are no bits, and the value is 0
abbrev pub MayCarry : Plan → List Register → Netlist → ℕ → Option Atom → (Cycle → ℕ) → Type 0
MayCarry p names d bits None value = (bits ≡ 0) × ((c : Cycle) → value c ≡ 0)
MayCarry p names d bits (Some a) value = Carries p names d bits a value

-- the address of an element of an array with these dimensions is made by appending wires
pub record MakesAddress (p : Plan) (names : List Register) (d e : Netlist) (i time : ℕ) (dims : List ℕ) (xs : List Operand) (o : Option Atom) : Type 0 where
  pub appends : Appends d e
  pub begun : IsBegun p names e
  pub carries : MayCarry p names e (address_bits dims) o (λ c. address_of dims (map (operand p c i time) xs))
