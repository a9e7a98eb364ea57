-- What multipliers, dividers and ports of arrays hold while operations are under way.
use Rattle.std.specs.Prelude.{◌≡◌, ℕ, suc, ◌+◌, ◌*◌, ◌%◌, ◌^◌, ◌<◌, ◌≤◌, true, [], ◌∷◌, slice_get, Some}
use Rattle.hls_base.specs.declared.number.ArrayId.{ArrayId}
use Rattle.ir_core.specs.declared.body.OpKind.TheVariants as o
use Rattle.ir_core.specs.declared.cfg.End.{End}
use Rattle.ir_core.specs.Value.{value}
use Rattle.clock_ir.specs.Flows.{TimedOp, TimedBody, Flow, is_at}
use Rattle.clock_ir.specs.ClockRuns.{block}
use Rattle.datapath.specs.Plans.{Plan, Placed, body_at, unit_of}
use Rattle.datapath.specs.Cycles.{Left, Right, Word, Contents}
use Rattle.datapath.specs.Ports.{port_of}
use Rattle.circuit_agreement.specs.CircuitFlow.Compiled.{IsDivision}
use Rattle.circuit_agreement.specs.UnitResults.Divisions.{IsDividing}

-- ---- times

-- the time of a block is below its length
abbrev pub IsWithin : Plan → ℕ → ℕ → Type 0
IsWithin p i time = (body : TimedBody) (end_ : End) → slice_get p.program.nodes i ≡ Some (block body end_) → time < body.interval

-- an iteration started the operation so many cycles ago
abbrev pub HasStarted : Plan → ℕ → Flow → TimedOp → ℕ → Type 0
HasStarted p i f it ago = is_at (body_at p i).interval (it.start + ago) f.time ≡ true

-- ---- units

abbrev pub placed_at : ℕ → ℕ → TimedOp → Placed
placed_at i k it = record { node = i; number = k; op = it }

-- the divider is n steps on with operation k, which was started one cycle before the first step
pub record Divides (p : Plan) (i : ℕ) (f : Flow) (x : Contents) (k n : ℕ) (it : TimedOp) : Type 0 where
  pub dividend : ℕ
  pub divisor : ℕ
  pub dividend_fits : dividend < 2 ^ it.op.bits
  pub divisor_fits : divisor < 2 ^ it.op.bits
  pub gives : (from : ℕ) → f.under_way k n ≡ value it.op.kind it.op.signed it.op.bits from (dividend ∷ divisor ∷ [])
  pub divides : IsDividing it.op.signed it.op.bits (unit_of p (placed_at i k it)) dividend divisor n x

-- A multiplier has the factors of the operation that started one cycle ago, and a port has the word that is loaded. A divider is on with its division, until one cycle before the result is there.
pub record HasUnderWay (p : Plan) (i : ℕ) (f : Flow) (x : Contents) : Type 0 where
  pub within : IsWithin p i f.time
  pub products : (k : ℕ) (it : TimedOp) → slice_get (body_at p i).ops k ≡ Some it → it.op.kind ≡ o.Mul → HasStarted p i f it 1
      → (x.regs (Left it.op.bits (unit_of p (placed_at i k it))) * x.regs (Right it.op.bits (unit_of p (placed_at i k it)))) % 2 ^ it.op.bits ≡ f.under_way k 0
  pub words : (k : ℕ) (it : TimedOp) (array : ArrayId) → slice_get (body_at p i).ops k ≡ Some it → it.op.kind ≡ o.Load → it.op.array ≡ Some array → HasStarted p i f it 1
      → x.regs (Word array.0 (port_of p array.0 (placed_at i k it))) ≡ f.under_way k 0
  pub divisions : (k n : ℕ) (it : TimedOp) → slice_get (body_at p i).ops k ≡ Some it → IsDivision it.op.kind → n ≤ it.op.bits → HasStarted p i f it (suc n) → Divides p i f x k n it
