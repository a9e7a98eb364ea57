use Rattle.std.proofs.Common.{◌≡◌, take}
use Rattle.std.specs.List.{flat_map}
use Rattle.stage_runs.specs.Stages.{node_costs}
use Rattle.stage_runs.proofs.steps.step_costs.Given as goal

abbrev pub invariant-loop-node : goal.invariant-loop-node
invariant-loop-node l = l.costs.items ≡ flat_map node_costs (take l.node-index l.nodes)
