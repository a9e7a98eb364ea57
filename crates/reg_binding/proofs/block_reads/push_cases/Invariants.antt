use Rattle.std.proofs.Common.{◌≡◌, ◌++◌, drop}
use Rattle.std.specs.List.{flat_map}
use Rattle.reg_binding.specs.Lives as spec
use Rattle.reg_binding.proofs.block_reads.push_cases.Given as goal

abbrev pub invariant-loop-case : goal.invariant-loop-case
invariant-loop-case l =
    l.reads.items ++ flat_map (spec.case_reads l.time) (drop l.case-index l.cases) ≡ l.initial.reads.items ++ flat_map (spec.case_reads l.time) l.cases
