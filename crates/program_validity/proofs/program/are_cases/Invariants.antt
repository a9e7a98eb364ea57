use Rattle.std.proofs.Common.{◌≡◌, drop}
use Rattle.std.specs.List.{list_all}
use Rattle.program_validity.specs.Programs.{is_case}
use Rattle.program_validity.proofs.program.are_cases.Given as goal

abbrev pub invariant-loop-case : goal.invariant-loop-case
invariant-loop-case g l = list_all (is_case l.frame l.ops l.count) (drop l.case-index l.cases) ≡ list_all (is_case l.frame l.ops l.count) l.cases
