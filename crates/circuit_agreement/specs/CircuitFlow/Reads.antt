-- At which times of a node operands are read.
use Rattle.std.specs.Prelude.{◌≡◌, ℕ, ◌-◌, ◌<◌, slice_get, Some}
use Rattle.hls_base.specs.declared.number.OpId.{OpId}
use Rattle.ir_core.specs.declared.body.Operand.{Operand}
use Rattle.ir_core.specs.declared.body.Out.{Out}
use Rattle.ir_core.specs.declared.body.Source.TheVariants as source
use Rattle.ir_core.specs.declared.cfg.End.{End}
use Rattle.clock_ir.specs.Flows.{TimedOp, TimedBody, ready, known}
use Rattle.clock_ir.specs.ClockRuns.{block, overlapped, later}
use Rattle.datapath.specs.Plans.{Plan, body_at, span}
use Rattle.datapath.specs.Blocks.{EndReads}
use Rattle.datapath.specs.Savings.{IsLiveBehind}

-- a result that is there in the last cycle of a block, or anything else
abbrev pub IsThereLast : TimedBody → Operand → Type 0
IsThereLast body x = (op : OpId) → x.value ≡ source.Result op → ready body op < body.interval

-- Operations read as they start, and the test of a loop is read as soon as it is known. The end of a block is read in its last cycle, with what goes into variables that are read again; what a loop leaves for these is read at its exit, one iteration later.
pub data IsRead (p : Plan) (i : ℕ) : Operand → ℕ → Type 0 where
  by_argument : (k n : ℕ) (it : TimedOp) (x : Operand) → slice_get (body_at p i).ops k ≡ Some it → slice_get it.op.args n ≡ Some x → IsRead p i x it.start
  by_guard : (k : ℕ) (it : TimedOp) (x : Operand) → slice_get (body_at p i).ops k ≡ Some it → it.op.guard ≡ Some x → IsRead p i x it.start
  by_test : (body : TimedBody) (exit next : ℕ) (x : Operand) → slice_get p.program.nodes i ≡ Some (overlapped body exit next) → body.test ≡ Some x → IsRead p i x (known body)
  by_end : (body : TimedBody) (end_ : End) (x : Operand) → slice_get p.program.nodes i ≡ Some (block body end_) → EndReads end_ x → IsRead p i x (span p i - 1)
  by_out : (body : TimedBody) (end_ : End) (n : ℕ) (out : Out) → slice_get p.program.nodes i ≡ Some (block body end_) → slice_get body.outs n ≡ Some out
      → IsLiveBehind p out.variable.0 i → IsThereLast body out.value → IsRead p i out.value (span p i - 1)
  by_exit : (body : TimedBody) (exit next n : ℕ) (out : Out) → slice_get p.program.nodes i ≡ Some (overlapped body exit next) → slice_get body.outs n ≡ Some out
      → IsLiveBehind p out.variable.0 i → IsRead p i (later out.value) exit
