-- Rules of a loop that lead on within an iteration.
use Rattle.std.specs.Prelude.{◌≡◌, ℕ, ◌<◌, ◌≤◌, ◌^◌, List, length}
use Rattle.std.specs.List.{All}
use Rattle.ir_core.specs.declared.body.Body.{Body}
use Rattle.ir_core.specs.declared.stamp.Untimed.{Untimed}
use Rattle.dep_graph.specs.declared.edge.Edge.{Edge}
use Rattle.dep_graph.specs.ForwardBodies.{IsEarlier, IsForwardBody}
use Rattle.modulo_loop.specs.Rules.{known_first}

-- a forward body, in which an operation makes what must be known before the next iteration
pub record IsForwardLoop (body : Body Untimed) : Type 0 where
  pub forward : IsForwardBody body
  pub known : IsEarlier (length body.ops.items) (known_first body.outs.items body.test)

-- a rule between nodes of the loop, of few cycles and few iterations
pub record IsRuleWithin (nodes : ℕ) (rule : Edge) : Type 0 where
  pub from : rule.from < nodes
  pub to : rule.to < nodes
  pub latency : rule.latency < 2 ^ 7
  pub distance : rule.distance ≤ 2 ^ 16

-- by ranks of the nodes, of which the beginning of the iteration has the least, each rule within an iteration leads to a node of greater rank
pub record AreForwardRules (nodes : ℕ) (rules : List Edge) : Type 0 where
  pub within : All (IsRuleWithin nodes) rules
  pub rank : ℕ → ℕ
  pub first : rank 0 ≡ 0
  pub onward : All (λ (rule : Edge). rule.distance ≡ 0 → rank rule.from < rank rule.to) rules
