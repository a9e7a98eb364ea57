use Rattle.std.proofs.Common.{◌≡◌, map, drop}
use Rattle.op_chain.specs.Views.{counted}
use Rattle.op_chain.proofs.reads.count_cases.Given as goal

abbrev pub invariant-loop-case : goal.invariant-loop-case
invariant-loop-case l = counted l.counts (map (λ c. c.0) (drop l.case-index l.cases)) ≡ counted l.initial.counts (map (λ c. c.0) l.cases)
