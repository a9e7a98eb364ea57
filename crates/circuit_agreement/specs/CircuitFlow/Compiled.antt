-- Plans of compiled programs.
use Rattle.std.specs.Prelude.{◌≡◌, ℕ, ◌^◌, ◌<◌, ◌≤◌, length, map, slice_get, slice_index, Option, Some, None, ◌≢◌, nat_lt, List, true}
use Rattle.hls_base.specs.declared.number.ArrayId.{ArrayId}
use Rattle.hls_base.specs.declared.number.OpId.{OpId}
use Rattle.ir_core.specs.declared.body.OpKind.{OpKind}
use Rattle.hls_base.specs.ArrayAddress.{addresses}
use Rattle.hls_base.specs.declared.number.Kept.{Kept}
use Rattle.hls_base.specs.declared.number.VarId.{VarId}
use Rattle.ir_core.specs.declared.body.OpKind.TheVariants as o
use Rattle.ir_core.specs.declared.body.Operand.{Operand}
use Rattle.ir_core.specs.declared.body.Source.{Source}
use Rattle.ir_core.specs.declared.body.Source.TheVariants as source
use Rattle.ir_core.specs.declared.cfg.Cfg.{Cfg}
use Rattle.ir_core.specs.declared.cfg.Node.{Node}
use Rattle.ir_core.specs.declared.stamp.Untimed.{Untimed}
use Rattle.ir_core.specs.Timing.{result_bits}
use Rattle.ir_core.specs.declared.timed.Timed.{Timed}
use Rattle.dep_graph.specs.Dependences.{maker_of}
use Rattle.reg_binding.specs.declared.live.Live.{Live}
use Rattle.reg_binding.specs.Liveness.{IsLiveness, flow_of, summary_of, is_behind}
use Rattle.reg_binding.specs.declared.registers.Registers.{Registers}
use Rattle.reg_binding.specs.Assigned.{IsAssigned}
use Rattle.clock_ir.specs.Flows.{TimedOp}
use Rattle.clock_ir.specs.WellTimed.{IsWellTimed}
use Rattle.clock_runs.specs.Premises.{IsSoundProgram}
use Rattle.datapath.specs.Plans.{Plan, array_of, array_at, body_at, plan_of, Array, host_arrays}
use Rattle.datapath.specs.Control.{greatest_time, greatest_wait}
use Rattle.datapath.specs.Blocks.{AreApart}
use Rattle.datapath.specs.Savings.{AreSafe}

-- loads and stores name an array, and no store names a table
pub record NamesArrays (p : Plan) : Type 0 where
  pub loads : (i k : ℕ) (it : TimedOp) → slice_get (body_at p i).ops k ≡ Some it → it.op.kind ≡ o.Load
      → (array : ArrayId) × ((it.op.array ≡ Some array) × (array.0 < length p.arrays))
  pub stores : (i k : ℕ) (it : TimedOp) → slice_get (body_at p i).ops k ≡ Some it → it.op.kind ≡ o.Store
      → (array : ArrayId) × ((it.op.array ≡ Some array) × ((array.0 < length p.arrays) × ((array_at p array.0).table ≡ None)))

-- no pattern of the constant or the variable has more than so many bits
abbrev pub SourceFits : Plan → ℕ → Source → Type 0
SourceFits p bits (source.Constant word) = word < 2 ^ bits
SourceFits p bits (source.Variable v) = slice_index p.program.shapes.widths v.0 ≤ bits
SourceFits p bits (source.Result op) = Unit {0}

-- no more has what is read: the result of an operation, or else the constant or the variable itself
abbrev pub OperandFits : Plan → ℕ → ℕ → Operand → Option OpId → Type 0
OperandFits p i bits x None = SourceFits p bits x.value
OperandFits p i bits x (Some op) = (it : TimedOp) → slice_get (body_at p i).ops op.0 ≡ Some it → result_bits it.op.kind it.op.bits ≤ bits

abbrev pub IsDivision : OpKind → Type 0
IsDivision o.Div = Unit {0}
IsDivision o.Rem = Unit {0}
IsDivision kind = ⊥

-- no operation has more than 64 bits, and what is divided, and by what, has no more than the division
pub record FitsUnits (p : Plan) : Type 0 where
  pub bits : (i k : ℕ) (it : TimedOp) → slice_get (body_at p i).ops k ≡ Some it → it.op.bits ≤ 64
  pub operands : (i k n : ℕ) (it : TimedOp) (x : Operand) → slice_get (body_at p i).ops k ≡ Some it → IsDivision it.op.kind → slice_get it.op.args n ≡ Some x
      → OperandFits p i it.op.bits x (maker_of (body_at p i).outs x)

-- The arrays that the host reaches come first, and are neither tables nor of file scope. An array of file scope has a first element for each place. No variable is two parameters, or two of the scalars that stay, or both.
pub record HasSoundFrame (p : Plan) : Type 0 where
  pub few : length p.arrays < 2 ^ 64
  pub hosts_first : (a : ℕ) (array : Array) → slice_get p.arrays a ≡ Some array → array.host ≡ nat_lt a (length (host_arrays p))
  pub hosts : (a : ℕ) (array : Array) → slice_get p.arrays a ≡ Some array → array.host ≡ true → (array.table ≡ None) × (array.first ≡ None)
  pub firsts : (a : ℕ) (array : Array) (first : List ℕ) → slice_get p.arrays a ≡ Some array → array.first ≡ Some first → (array.table ≡ None) × (length first ≡ length (addresses array.dims))
  pub parameters : (k n : ℕ) (v w : VarId) → slice_get p.parameters k ≡ Some v → slice_get p.parameters n ≡ Some w → v.0 ≡ w.0 → k ≡ n
  pub kept : (k n : ℕ) (s t : Kept) → slice_get p.kept k ≡ Some s → slice_get p.kept n ≡ Some t → s.variable.0 ≡ t.variable.0 → k ≡ n
  pub apart : (k n : ℕ) (v : VarId) (s : Kept) → slice_get p.parameters k ≡ Some v → slice_get p.kept n ≡ Some s → v.0 ≢ s.variable.0

-- The plan of a sound program, well timed, with registers for all results that are read, in which nothing is left out that is needed. No two outs of a node set one variable. What is live is what the registers were given for.
pub record IsCompiled (p : Plan) : Type 0 where
  pub untimed : Cfg Untimed
  pub timed : Cfg Timed
  pub registers : Registers
  pub live : Live
  pub plan : p ≡ plan_of timed registers p.savings
  pub sound : IsSoundProgram untimed
  pub memories : map array_of timed.frame.memories.items ≡ map array_of untimed.frame.memories.items
  pub well_timed : IsWellTimed untimed timed
  pub liveness : IsLiveness (flow_of timed) live
  pub assigned : IsAssigned (λ node. is_behind live (summary_of node)) timed.nodes.items (length timed.nodes.items) registers
  pub behind : (i v : ℕ) (node : Node Timed) → slice_get timed.nodes.items i ≡ Some node → p.savings.behind i v ≡ is_behind live (summary_of node) v
  pub safe : AreSafe p
  pub arrays : NamesArrays p
  pub fits : FitsUnits p
  pub counts : greatest_time p < 2 ^ 64
  pub waits : greatest_wait p < 2 ^ 64
  pub frame : HasSoundFrame p
  pub outs_apart : (i : ℕ) → AreApart (body_at p i).outs
