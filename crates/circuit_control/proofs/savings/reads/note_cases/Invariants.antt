use Rattle.std.proofs.Common.{take}
use Rattle.std.specs.List.{list_any}
use Rattle.reg_binding.specs.Sets.{Gains}
use Rattle.reg_binding.specs.Liveness.{is_among, case_reads}
use Rattle.circuit_control.proofs.savings.reads.note_cases.Given as goal

abbrev pub invariant-loop-case : goal.invariant-loop-case
invariant-loop-case l = Gains l.initial.set l.set (λ n. list_any (λ case. is_among n (case_reads case)) (take l.case-index l.cases))
