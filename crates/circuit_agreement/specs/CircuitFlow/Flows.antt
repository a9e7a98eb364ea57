-- What a circuit has in common with the clocked run in a cycle of a block or of a loop.
use Rattle.std.specs.Prelude.{◌≡◌, ◌≢◌, ℕ, suc, ◌+◌, ◌-◌, ◌*◌, ◌^◌, ◌<◌, ◌&&◌, nat_le, true, not, List, map, slice_get, Some, None}
use Rattle.hls_base.specs.ArrayAddress.{addresses}
use Rattle.hls_base.specs.declared.number.ArrayId.{ArrayId}
use Rattle.ir_core.specs.declared.body.OpKind.TheVariants as o
use Rattle.ir_core.specs.declared.body.Operand.{Operand}
use Rattle.ir_core.specs.Bodies.{dims_of, address_of, subscripts}
use Rattle.ir_core.specs.FirstContents.{given_at}
use Rattle.clock_ir.specs.Flows.{TimedOp, Flow, latency, is_at, pushed, operand_at, holds_at, runs_at, given, starts}
use Rattle.datapath.specs.Plans.{Plan, array_at, depth, body_at}
use Rattle.datapath.specs.Cycles.{Variable, Contents, Cycle}
use Rattle.datapath.specs.Reading.{has_passed, operand}
use Rattle.datapath.specs.Control.{leaves_loop, wait, may_store}
use Rattle.datapath.specs.Values.{arriving}
use Rattle.datapath.specs.Savings.{IsLive}
use Rattle.circuit_agreement.specs.CircuitFlow.Reads.{IsRead}

-- ---- operands and results

-- what is read in this cycle is what the clocked run reads
abbrev pub Sees : Plan → ℕ → Flow → Cycle → Type 0
Sees p i f c = (x : Operand) (time : ℕ) → IsRead p i x time → is_at (body_at p i).interval time f.time ≡ true → operand p c i time x ≡ operand_at (body_at p i) f time x

-- each result that is there in the next cycle arrives in this one
abbrev pub Arrives : Plan → ℕ → Flow → Cycle → Type 0
Arrives p i f c = (k : ℕ) (it : TimedOp) → slice_get (body_at p i).ops k ≡ Some it → it.op.kind ≢ o.Store
    → is_at (body_at p i).interval (it.start + latency it) (suc f.time) ≡ true
    → arriving p c i k ≡ pushed (given p.program.shapes (body_at p i) f it) (f.under_way k) (latency it - 1)

-- ---- control

-- the intervals of a loop are counted
abbrev pub CountsIntervals : Plan → ℕ → Flow → Cycle → Type 0
CountsIntervals p i f c = (n : ℕ) → has_passed c n ≡ nat_le (n * (body_at p i).interval) f.time

-- a store is let through exactly where it starts in the clocked run
abbrev pub StoresAsRun : Plan → ℕ → Flow → Cycle → Type 0
StoresAsRun p i f c = (k : ℕ) (it : TimedOp) → slice_get (body_at p i).ops k ≡ Some it → it.op.kind ≡ o.Store
    → may_store p c (record { node = i; number = k; op = it }) ≡ starts (body_at p i) f it

-- a loop is left exactly where the clocked run leaves it
abbrev pub LeavesAsRun : Plan → ℕ → ℕ → Flow → Cycle → Type 0
LeavesAsRun p i exit f c = leaves_loop p c i (wait (body_at p i) exit) ≡ (is_at (body_at p i).interval exit f.time && not (runs_at (body_at p i) f exit))

-- ---- variables and memories

-- each variable that is still read holds this
abbrev pub HoldsVariables : Plan → ℕ → (ℕ → ℕ) → Contents → Type 0
HoldsVariables p i variables x = (v : ℕ) → IsLive p v i → x.regs (Variable v) ≡ variables v

-- The words of each array are these, and those of a table are its constants.
pub record HoldsMemories (p : Plan) (memories : ℕ → ℕ → ℕ) (x : Contents) : Type 0 where
  pub words : (a address : ℕ) → (array_at p a).table ≡ None → address < 2 ^ depth p a → x.memories a address ≡ memories a address
  pub tables : (a address : ℕ) (words : List ℕ) → (array_at p a).table ≡ Some words → address < 2 ^ depth p a
      → memories a address ≡ given_at (addresses (array_at p a).dims) words address 0

-- the address at which a store stores in this cycle
abbrev pub store_address : Plan → ℕ → Flow → ArrayId → TimedOp → ℕ
store_address p i f array it = address_of (dims_of p.program.shapes array) (subscripts (map (operand_at (body_at p i) f it.start) it.op.args))

-- this store changes a word of the array in this cycle
pub record Stores (p : Plan) (i : ℕ) (f : Flow) (array : ArrayId) (it : TimedOp) : Type 0 where
  pub kind : it.op.kind ≡ o.Store
  pub array_ : it.op.array ≡ Some array
  pub starts_ : starts (body_at p i) f it ≡ true
  pub allowed : holds_at (body_at p i) f it.start it.op.guard ≡ true

-- Two stores of one cycle change different words. Nothing is said of their order: in a run that has a meaning in C it does not matter.
abbrev pub StoresAreApart : Plan → ℕ → Flow → Type 0
StoresAreApart p i f = (k n : ℕ) (one other : TimedOp) (array : ArrayId) → slice_get (body_at p i).ops k ≡ Some one → slice_get (body_at p i).ops n ≡ Some other → k ≢ n
    → Stores p i f array one → Stores p i f array other → store_address p i f array one ≢ store_address p i f array other
