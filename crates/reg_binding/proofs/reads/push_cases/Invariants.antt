use Rattle.std.proofs.Common.{◌≡◌, ◌++◌, drop}
use Rattle.std.specs.List.{flat_map}
use Rattle.reg_binding.specs.Liveness.{case_reads}
use Rattle.reg_binding.proofs.reads.push_cases.Given as goal

abbrev pub invariant-loop-case : goal.invariant-loop-case
invariant-loop-case l =
    l.reads.items ++ flat_map case_reads (drop l.case-index l.cases) ≡ l.initial.reads.items ++ flat_map case_reads l.cases
