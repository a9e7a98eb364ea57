-- The bodies of an orderly program.
use Rattle.std.proofs.Common.{ℕ, ◌<◌, ◌^◌, subst}
use Rattle.ir_core.specs.declared.body.Body.{Body}
use Rattle.ir_core.specs.declared.cfg.Cfg.{Cfg}
use Rattle.ir_core.specs.declared.cfg.Node.{Node}
use Rattle.ir_core.specs.declared.cfg.Node.TheVariants as node
use Rattle.ir_core.specs.declared.timed.Timed.{Timed}
use Rattle.clock_ir.specs.Flows.{TimedOp, timed_op, timed_body}
use Rattle.clock_ir.specs.ClockRuns.{timed_node, timed_program}
use Rattle.clock_machine.specs.Lines.Regions.{IsOrderlyBody, IsOrderlyNode, IsOrderlyProgram}
use Rattle.clock_machine.proofs.LinesLemmas.Appending.{from_map}
use Rattle.clock_machine.specs.Standing.{body_at, IsSteadyBody, IsSteadyProgram}

steady_body : (interval : ℕ) (b : Body Timed) → IsOrderlyBody interval b → IsSteadyBody (timed_body interval b)
steady_body interval b h = record {
  positive = h.positive;
  early = λ k o is. (let op = from_map timed_op b.ops.items k o is in subst (λ (x : TimedOp). x.start < 2 ^ 32) op.1.1 (h.early k op.0 op.1.0));
}

steady_node : (it : Node Timed) → IsOrderlyNode it → IsSteadyBody (body_at (timed_node it))
steady_node (node.Plain block) h = steady_body block.length block.body h
steady_node (node.Looped region) h = steady_body region.ii region.body h

pub steady_of : (cfg : Cfg Timed) → IsOrderlyProgram cfg → IsSteadyProgram (timed_program cfg)
steady_of cfg h i n is = (let it = from_map timed_node cfg.nodes.items i n is in subst (λ x. IsSteadyBody (body_at x)) it.1.1 (steady_node it.0 (h i it.0 it.1.0)))
