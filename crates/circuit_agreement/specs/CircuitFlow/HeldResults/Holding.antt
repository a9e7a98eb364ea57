-- When the register of a row holds its value, and that it is the value of the clocked run.
use Rattle.std.specs.Prelude.{◌≡◌, ℕ, ◌+◌, ◌*◌, ◌≤◌, ◌<◌, ◌⊎◌, false, List, slice_get, Some}
use Rattle.ir_core.specs.declared.timed.Timed.{Timed}
use Rattle.ir_core.specs.declared.cfg.Node.{Node}
use Rattle.reg_binding.specs.Liveness.{summary_of, is_behind}
use Rattle.reg_binding.specs.declared.life.Life.{Life}
use Rattle.reg_binding.specs.declared.registers.Held.{Held}
use Rattle.reg_binding.specs.Lives.{node_lives, node_period}
use Rattle.reg_binding.specs.Pools.{Has}
use Rattle.reg_binding.specs.Sharing.{IsThere}
use Rattle.clock_ir.specs.Flows.{Flow, ready}
use Rattle.datapath.specs.Plans.{Plan, body_at}
use Rattle.datapath.specs.Cycles.{Value, Contents}
use Rattle.datapath.specs.Control.{is_loop}
use Rattle.datapath.specs.Values.{entry_of}
use Rattle.datapath.specs.Savings.{IsLive}
use Rattle.circuit_agreement.specs.CircuitFlow.Compiled.{IsCompiled}

-- the values of a node for which there are registers
abbrev pub lives_at : (p : Plan) → IsCompiled p → Node Timed → List Life
lives_at p c node = node_lives (is_behind c.live (summary_of node)) node

-- A variable takes the result of the row over, and is live as the loop is entered. So the chain begins with what the variable holds then.
pub record HasEntry (p : Plan) (i : ℕ) (h : Held) : Type 0 where
  pub variable : ℕ
  pub entry : entry_of p h ≡ Some variable
  pub live : IsLive p variable i

-- In this cycle of node i the value of the row is to be held: its life covers the cycle, and the value is that of an iteration, or the one that a live variable has at entry.
pub record IsHeld (p : Plan) (c : IsCompiled p) (i : ℕ) (h : Held) (time : ℕ) : Type 0 where
  pub node : Node Timed
  pub stands : slice_get c.timed.nodes.items i ≡ Some node
  pub life : Life
  pub lives : Has (lives_at p c node) life
  pub op : life.op ≡ h.op.0
  pub place : life.place ≡ h.place
  pub there : IsThere (node_period node) life time
  pub made : (ready (body_at p i) h.op + h.place * (body_at p i).interval ≤ time) ⊎ HasEntry p i h

-- Each value that is to be held in this cycle stands in the register of its row, and is what the chain has in its place. The time of a block is within its length.
pub record HoldsResults (p : Plan) (c : IsCompiled p) (i : ℕ) (f : Flow) (x : Contents) : Type 0 where
  pub within : is_loop (slice_get p.program.nodes i) ≡ false → f.time < (body_at p i).interval
  pub held : (n : ℕ) (h : Held) → slice_get p.held n ≡ Some h → h.node.0 ≡ i → IsHeld p c i h f.time → x.regs (Value h.register) ≡ f.chain h.op.0 h.place
