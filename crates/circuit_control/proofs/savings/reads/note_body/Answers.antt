use Rattle.std.proofs.Common.{subst}
use Rattle.std.specs.List.{flat_map}
use Rattle.std.specs.Option.{option_to_list}
use Rattle.reg_binding.specs.Sets.{Gains}
use Rattle.reg_binding.specs.Liveness.{is_among, operand_reads, op_reads}
use Rattle.circuit_control.proofs.SavingsLemmas.Reading.{gains_flat, gains_both}
use Rattle.circuit_control.proofs.savings.reads.note_body.Goals as goal

pub returns : goal.returns
returns c =
    let body = c.args.body.now in
    let before = c.args.set.now in
    let between = c.note_ops.new.set in
    gains_both (flat_map op_reads body.ops.items) (flat_map operand_reads (option_to_list body.test)) before between c.note_if.new.set
    (subst (λ ops. Gains before between (λ n. is_among n (flat_map op_reads ops))) c.deref.ensures.value (gains_flat op_reads c.deref.result.now before between c.note_ops.ensures)) c.note_if.ensures
