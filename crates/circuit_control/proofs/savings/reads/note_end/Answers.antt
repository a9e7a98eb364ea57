use Rattle.std.proofs.Common.{sym, subst}
use Rattle.std.specs.List.{flat_map}
use Rattle.reg_binding.specs.Sets.{Gains}
use Rattle.reg_binding.specs.Liveness.{is_among, case_reads, end_reads}
use Rattle.circuit_control.proofs.SavingsLemmas.Reading.{gains_flat}
use Rattle.circuit_control.proofs.savings.reads.note_end.Goals as goal

pub returns-in-Choose : goal.returns-in-Choose
returns-in-Choose c =
    let before = c.args.set.now in
    let new = c.note_cases.new.set in
    subst (λ e. Gains before new (λ n. is_among n (end_reads e))) (sym c.in-Choose.is)
    (subst (λ cases. Gains before new (λ n. is_among n (flat_map case_reads cases))) c.deref.ensures.value (gains_flat case_reads c.deref.result.now before new c.note_cases.ensures))
