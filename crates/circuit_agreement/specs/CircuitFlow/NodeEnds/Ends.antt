-- What stays while a node goes on, and what a block hands on where it is left.
use Rattle.std.specs.Prelude.{◌≡◌, ℕ, ◌<◌, slice_get, Option, Some}
use Rattle.ir_core.specs.declared.body.OpKind.TheVariants as o
use Rattle.ir_core.specs.declared.cfg.End.{End}
use Rattle.ir_core.specs.FlatRuns.{to, ends}
use Rattle.clock_ir.specs.Flows.{TimedOp, Flow, operand_at, given, tick}
use Rattle.clock_ir.specs.ClockRuns.{inside, going_by, goes_to, clock_step}
use Rattle.datapath.specs.Plans.{Plan, body_at}
use Rattle.datapath.specs.Cycles.{Variable, Result, Contents, Cycle}
use Rattle.datapath.specs.Laws.{leads_to}
use Rattle.datapath.specs.Blocks.{left_words}
use Rattle.datapath.specs.Savings.{StaysForNextRun}
use Rattle.circuit_agreement.specs.CircuitFlow.Flows.{HoldsVariables}

-- all variables, and the result of the run, are as before
pub record KeepsVariables (x y : Contents) : Type 0 where
  pub variables : (v : ℕ) → y.regs (Variable v) ≡ x.regs (Variable v)
  pub result : y.regs Result ≡ x.regs Result

-- the clocked run behind this cycle
abbrev pub flow_behind : Plan → ℕ → Flow → Flow
flow_behind p i f = tick p.program.shapes (body_at p i) f

-- In its last cycle a block goes where the clocked run goes. Behind it each variable that is read there has its value, and so has each that stays for the next run; and the result is taken where the run ends.
pub record HandsOn (p : Plan) (i : ℕ) (end_ : End) (f : Flow) (c : Cycle) (y : Contents) : Type 0 where
  pub going : going_by (operand_at (body_at p i) (flow_behind p i f) (flow_behind p i f).time) end_ ≡ leads_to p i end_ c
  pub moves : clock_step p.program (inside i f) ≡ goes_to p.program.nodes (leads_to p i end_ c) (left_words (body_at p i) (flow_behind p i f))
  pub variables : (j : ℕ) → leads_to p i end_ c ≡ to j → HoldsVariables p j (left_words (body_at p i) (flow_behind p i f)).variables y
  pub kept : (word : Option ℕ) (v : ℕ) → leads_to p i end_ c ≡ ends word → StaysForNextRun p v → y.regs (Variable v) ≡ (left_words (body_at p i) (flow_behind p i f)).variables v
  pub result : (word : ℕ) → leads_to p i end_ c ≡ ends (Some word) → y.regs Result ≡ word

-- each comparison for equality that was made gives what it would give for the operands as they are now
abbrev pub HoldsComparisons : Plan → ℕ → Flow → Type 0
HoldsComparisons p i f = (k : ℕ) (it : TimedOp) → slice_get (body_at p i).ops k ≡ Some it → it.op.kind ≡ o.Eq → it.start < f.time
    → f.chain k 0 ≡ given p.program.shapes (body_at p i) f it
