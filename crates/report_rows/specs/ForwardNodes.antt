-- Nodes that can be given times.
use Rattle.ir_core.specs.declared.cfg.Node.{Node}
use Rattle.ir_core.specs.declared.cfg.Node.TheVariants as n
use Rattle.ir_core.specs.declared.stamp.Untimed.{Untimed}
use Rattle.dep_graph.specs.ForwardBodies.{IsForwardBody}
use Rattle.modulo_loop.specs.ForwardRules.{IsForwardLoop}

-- a node whose operations come behind those that they wait for
abbrev pub HasForwardBody : Node Untimed → Type 0
HasForwardBody (n.Plain block) = IsForwardBody block.body
HasForwardBody (n.Looped region) = IsForwardLoop region.body
