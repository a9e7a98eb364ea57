-- Bodies whose times are within what a machine counts.
use Rattle.std.specs.Prelude.{◌≡◌, ℕ, ◌<◌, ◌≤◌, ◌^◌, slice_get, Some}
use Rattle.ir_core.specs.declared.body.Body.{Body}
use Rattle.ir_core.specs.declared.cfg.Cfg.{Cfg}
use Rattle.ir_core.specs.declared.cfg.Node.{Node}
use Rattle.ir_core.specs.declared.cfg.Node.TheVariants as node
use Rattle.ir_core.specs.declared.timed.Timed.{Timed}
use Rattle.clock_ir.specs.Flows.{TimedBody, timed_body, known}
use Rattle.clock_machine.specs.declared.lines.reads.Region.{Region}
use Rattle.clock_machine.specs.Lines.Reads.{AreEarly}

abbrev pub body_of : Region → TimedBody
body_of r = timed_body r.interval r.body.now

-- iterations begin some cycles apart, and each operation starts before 2 to the power of 32
pub record IsOrderly (r : Region) : Type 0 where
  pub early : AreEarly r.body.now.ops.items
  pub positive : 0 < r.interval
  pub small : r.interval < 2 ^ 32

-- ---- programs

-- Each operation starts before 2 to the power of 32, iterations begin some cycles apart, and a test is known before the next one begins.
pub record IsOrderlyBody (interval : ℕ) (b : Body Timed) : Type 0 where
  pub early : AreEarly b.ops.items
  pub positive : 0 < interval
  pub known : known (timed_body interval b) ≤ interval

abbrev pub IsOrderlyNode : Node Timed → Type 0
IsOrderlyNode (node.Plain block) = IsOrderlyBody block.length block.body
IsOrderlyNode (node.Looped region) = IsOrderlyBody region.ii region.body

abbrev pub IsOrderlyProgram : Cfg Timed → Type 0
IsOrderlyProgram cfg = (k : ℕ) (it : Node Timed) → slice_get cfg.nodes.items k ≡ Some it → IsOrderlyNode it
