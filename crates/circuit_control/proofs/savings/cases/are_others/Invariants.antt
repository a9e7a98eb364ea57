use Rattle.std.proofs.Common.{◌≡◌, ◌∷◌, [], ℕ, map, drop}
use Rattle.clock_ir.specs.Flows.{timed_body}
use Rattle.datapath.specs.LeftOut.{compared}
use Rattle.circuit_control.specs.Savings.Cases.{all_others}
use Rattle.circuit_control.proofs.savings.cases.are_others.Given as goal

abbrev pub invariant-loop-case : goal.invariant-loop-case
invariant-loop-case l = (interval : ℕ) →
    all_others l.operand l.numbers.keys (map (compared (timed_body interval l.body)) (drop l.case-index l.cases))
    ≡ all_others l.operand (l.number ∷ []) (map (compared (timed_body interval l.body)) l.cases)
