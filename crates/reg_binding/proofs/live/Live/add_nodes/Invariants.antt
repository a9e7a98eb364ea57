use Rattle.std.proofs.Common.{◌≡◌, take}
use Rattle.std.specs.List.{list_any}
use Rattle.reg_binding.specs.Sets.{Gains}
use Rattle.reg_binding.specs.Liveness.{IsSized, entered_at}
use Rattle.reg_binding.proofs.live.Live.add_nodes.Given as goal

abbrev pub invariant-loop-node : goal.invariant-loop-node
invariant-loop-node l =
    IsSized l.self → l.initial.set.variables ≡ l.self.variables → Gains l.initial.set l.set (λ n. list_any (λ next. entered_at l.self next.0 n) (take l.node-index l.nodes))
