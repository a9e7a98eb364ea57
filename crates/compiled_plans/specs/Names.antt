-- The variables that are named in a plan are there.
use Rattle.std.specs.Prelude.{◌≡◌, ℕ, ◌<◌, length, slice_get, Some}
use Rattle.hls_base.specs.declared.number.VarId.{VarId}
use Rattle.ir_core.specs.declared.body.Operand.{Operand}
use Rattle.ir_core.specs.declared.body.Source.TheVariants as source
use Rattle.clock_ir.specs.ClockRuns.{TimedNode}
use Rattle.datapath.specs.Plans.{Plan}
use Rattle.datapath.specs.Savings.{NodeReads, Moves}

-- those that nodes read, and those of which they make others
pub record NamesVariables (p : Plan) : Type 0 where
  pub read : (i : ℕ) (n : TimedNode) (x : Operand) (v : VarId) → slice_get p.program.nodes i ≡ Some n → NodeReads n x → x.value ≡ source.Variable v → v.0 < length p.program.shapes.widths
  pub moved : (i v w : ℕ) (n : TimedNode) → slice_get p.program.nodes i ≡ Some n → Moves n v w → v < length p.program.shapes.widths
