use Rattle.std.proofs.Common.{◌≡◌, ◌++◌, drop, map}
use Rattle.reg_binding.specs.Liveness.{case_node}
use Rattle.reg_binding.proofs.reads.push_nodes.Given as goal

abbrev pub invariant-loop-case : goal.invariant-loop-case
invariant-loop-case l =
    l.nodes.items ++ map case_node (drop l.case-index l.cases) ≡ l.initial.nodes.items ++ map case_node l.cases
