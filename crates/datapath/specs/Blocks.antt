-- Blocks of simple operations: when their results are read, when registers can hold them, and that the registers hold what the clocked run has.
use Rattle.std.specs.Prelude.{◌≡◌, ◌≢◌, ℕ, ◌+◌, ◌-◌, ◌^◌, ◌<◌, ◌≤◌, ◌⊎◌, find, List, slice_get, Some, None, true}
use Rattle.hls_base.specs.declared.number.OpId.{OpId}
use Rattle.hls_base.specs.declared.number.NodeId.{NodeId}
use Rattle.hls_base.specs.declared.number.VarId.{VarId}
use Rattle.ir_core.specs.declared.body.OpKind.{OpKind}
use Rattle.ir_core.specs.declared.body.OpKind.TheVariants as o
use Rattle.ir_core.specs.declared.body.Operand.{Operand}
use Rattle.ir_core.specs.declared.body.Out.{Out}
use Rattle.ir_core.specs.declared.body.Source.{Source}
use Rattle.ir_core.specs.declared.body.Source.TheVariants as source
use Rattle.ir_core.specs.declared.cfg.End.{End}
use Rattle.ir_core.specs.declared.cfg.End.TheVariants as end
use Rattle.reg_binding.specs.declared.registers.Held.{Held}
use Rattle.rtl_core.specs.Interface.{reset_of}
use Rattle.ir_core.specs.Bodies.{Words}
use Rattle.clock_ir.specs.Flows.{TimedOp, TimedBody, Flow, ready, first_flow, tick, operand_at, taken}
use Rattle.clock_ir.specs.ClockRuns.{block, inside, clock_step, goes_to}
use Rattle.datapath.specs.Plans.{Plan, body_at}
use Rattle.datapath.specs.Cycles.{Variable, Value, Contents, Result, Cycle, in_cycle}
use Rattle.datapath.specs.Reading.{is_place}
use Rattle.datapath.specs.Control.{greatest_time}
use Rattle.datapath.specs.Circuits.{Step}
use Rattle.datapath.specs.Standing.{IsInside}
use Rattle.ir_core.specs.FlatRuns.{ends}
use Rattle.datapath.specs.Laws.{leads_to}

-- an operation with a unit of its own, whose result is there in the next cycle
abbrev pub IsSimple : OpKind → Type 0
IsSimple o.Mul = ⊥
IsSimple o.Div = ⊥
IsSimple o.Rem = ⊥
IsSimple o.Load = ⊥
IsSimple o.Store = ⊥
IsSimple kind = Unit {0}

-- ---- reads

abbrev pub EndReads : End → Operand → Type 0
EndReads (end.Jump next) x = ⊥
EndReads (end.Branch test left right) x = test ≡ x
EndReads (end.Choose cases other) x = (n : ℕ) × (next : NodeId) × (slice_get cases.items n ≡ Some (x, next))
EndReads (end.Return None) x = ⊥
EndReads (end.Return (Some y)) x = y ≡ x

-- An operand is read at this time of a block. A result that only just comes in the last cycle goes into a variable unread.
pub data Reads (body : TimedBody) (end_ : End) : Operand → ℕ → Type 0 where
  by_op : (k n : ℕ) (it : TimedOp) (x : Operand) → slice_get body.ops k ≡ Some it → slice_get it.op.args n ≡ Some x → Reads body end_ x it.start
  by_out : (n : ℕ) (out : Out) → slice_get body.outs n ≡ Some out → ((op : OpId) → out.value.value ≡ source.Result op → ready body op < body.interval)
      → Reads body end_ out.value (body.interval - 1)
  by_end : (x : Operand) → EndReads end_ x → Reads body end_ x (body.interval - 1)

pub record ReadsFrom (body : TimedBody) (end_ : End) (from : Source) (time : ℕ) : Type 0 where
  pub operand : Operand
  pub reads : Reads body end_ operand time
  pub is : operand.value ≡ from

-- ---- a block that can be run by these registers

pub record HasResult (p : Plan) (i : ℕ) (op : OpId) : Type 0 where
  pub it : TimedOp
  pub is : slice_get (body_at p i).ops op.0 ≡ Some it
  pub held : Held
  pub found : find (is_place i op.0 0) p.held ≡ Some held

-- Node i is a block of simple operations. Each result is read from the time on from which it is there; it has a register, which no other result of the block takes until its last read.
pub record IsSimpleBlock (p : Plan) (i : ℕ) (end_ : End) : Type 0 where
  pub node : slice_get p.program.nodes i ≡ Some (block (body_at p i) end_)
  pub counts : greatest_time p < 2 ^ 64
  pub simple : (k : ℕ) (it : TimedOp) → slice_get (body_at p i).ops k ≡ Some it → IsSimple it.op.kind
  pub real : (n : ℕ) (h : Held) → slice_get p.held n ≡ Some h → h.node.0 ≡ i → (it : TimedOp) × (slice_get (body_at p i).ops h.op.0 ≡ Some it)
  pub within : (k : ℕ) (it : TimedOp) → slice_get (body_at p i).ops k ≡ Some it → it.start < (body_at p i).interval
  pub near : (x : Operand) (time : ℕ) → Reads (body_at p i) end_ x time → x.distance ≡ 0
  pub outs : (n : ℕ) (out : Out) → slice_get (body_at p i).outs n ≡ Some out → out.value.distance ≡ 0
  pub makes : (n : ℕ) (out : Out) (op : OpId) → slice_get (body_at p i).outs n ≡ Some out → out.value.value ≡ source.Result op → (it : TimedOp) × (slice_get (body_at p i).ops op.0 ≡ Some it)
  pub has : (op : OpId) (time : ℕ) → ReadsFrom (body_at p i) end_ (source.Result op) time → HasResult p i op
  pub waits : (op : OpId) (time : ℕ) → ReadsFrom (body_at p i) end_ (source.Result op) time → ready (body_at p i) op ≤ time
  pub apart : (n m : ℕ) (g h : Held) (time : ℕ) → slice_get p.held n ≡ Some g → slice_get p.held m ≡ Some h → g.node.0 ≡ i → h.node.0 ≡ i → g.register ≡ h.register
      → g.op.0 ≢ h.op.0 → ReadsFrom (body_at p i) end_ (source.Result h.op) time → (ready (body_at p i) g.op < ready (body_at p i) h.op) ⊎ (time < ready (body_at p i) g.op)

-- ---- what the registers hold

-- Block i is at the time of the flow; the variables that it reads hold what they held at entry, and each result that is still read stands in its register.
pub record HoldsFlow (p : Plan) (i : ℕ) (end_ : End) (f : Flow) (x : Contents) : Type 0 where
  pub inside : IsInside i f.time x
  pub variables : (v : VarId) (time : ℕ) → ReadsFrom (body_at p i) end_ (source.Variable v) time → x.regs (Variable v.0) ≡ f.entry v.0
  pub results : (op : OpId) (time : ℕ) (h : Held) → ReadsFrom (body_at p i) end_ (source.Result op) time → ready (body_at p i) op ≤ f.time → f.time ≤ time
      → find (is_place i op.0 0) p.held ≡ Some h → x.regs (Value h.register) ≡ f.chain op.0 0

-- One edge of the clock within a block is one step of the clocked run.
abbrev pub BlocksStep : Type 0
BlocksStep = (p : Plan) (i : ℕ) (end_ : End) (f : Flow) (x y : Contents) (pins : List ℕ) → IsSimpleBlock p i end_ → f.time + 1 < (body_at p i).interval → reset_of pins ≡ 0
    → HoldsFlow p i end_ f x → Step p x pins y
    → (clock_step p.program (inside i f) ≡ inside i (tick p.program.shapes (body_at p i) f)) × HoldsFlow p i end_ (tick p.program.shapes (body_at p i) f) y

-- As a block begins its registers need hold nothing but the variables that it reads.
abbrev pub BlocksBegin : Type 0
BlocksBegin = (p : Plan) (i : ℕ) (end_ : End) (t : Words) (x : Contents) → IsSimpleBlock p i end_ → IsInside i 0 x
    → ((v : VarId) (time : ℕ) → ReadsFrom (body_at p i) end_ (source.Variable v) time → x.regs (Variable v.0) ≡ t.variables v.0)
    → HoldsFlow p i end_ (first_flow (body_at p i) t) x

-- ---- the last cycle

-- what variables and memories hold behind a block
abbrev pub left_words : TimedBody → Flow → Words
left_words body g = record { variables = taken (operand_at body g g.time) body.outs g.entry; memories = g.memories }

-- no two outs set one variable
abbrev pub AreApart : List Out → Type 0
AreApart outs = (n m : ℕ) (x y : Out) → slice_get outs n ≡ Some x → slice_get outs m ≡ Some y → x.variable.0 ≡ y.variable.0 → n ≡ m

-- In the last cycle the clocked run goes where the circuit goes; each variable that is set and read again takes its value, and the others stay; and the result of the run is taken where it ends.
pub record LeavesFlow (p : Plan) (i : ℕ) (end_ : End) (f : Flow) (c : Cycle) (y : Contents) : Type 0 where
  pub moves : clock_step p.program (inside i f) ≡ goes_to p.program.nodes (leads_to p i end_ c) (left_words (body_at p i) (tick p.program.shapes (body_at p i) f))
  pub outs : (n : ℕ) (out : Out) → slice_get (body_at p i).outs n ≡ Some out → p.savings.behind i out.variable.0 ≡ true
      → y.regs (Variable out.variable.0) ≡ (left_words (body_at p i) (tick p.program.shapes (body_at p i) f)).variables out.variable.0
  pub others : (v : ℕ) → ((n : ℕ) (out : Out) → slice_get (body_at p i).outs n ≡ Some out → out.variable.0 ≢ v) → y.regs (Variable v) ≡ c.regs (Variable v)
  pub result : (word : ℕ) → leads_to p i end_ c ≡ ends (Some word) → y.regs Result ≡ word

abbrev pub BlocksLeave : Type 0
BlocksLeave = (p : Plan) (i : ℕ) (end_ : End) (f : Flow) (x y : Contents) (pins : List ℕ) → IsSimpleBlock p i end_ → AreApart (body_at p i).outs
    → f.time + 1 ≡ (body_at p i).interval → reset_of pins ≡ 0 → HoldsFlow p i end_ f x → (step : Step p x pins y) → LeavesFlow p i end_ f (in_cycle x step.signals pins) y
