use Rattle.std.proofs.Common.{subst}
use Rattle.std.specs.List.{flat_map}
use Rattle.std.specs.Option.{option_to_list}
use Rattle.reg_binding.specs.Sets.{Gains}
use Rattle.reg_binding.specs.Liveness.{is_among, operand_reads}
use Rattle.circuit_control.proofs.SavingsLemmas.Reading.{gains_flat, gains_both}
use Rattle.circuit_control.proofs.savings.reads.note_op.Goals as goal

pub returns : goal.returns
returns c =
    let op = c.args.op.now in
    let between = c.note_if.new.set in
    let new = c.note_operands.new.set in
    gains_both (flat_map operand_reads (option_to_list op.guard)) (flat_map operand_reads op.args.items) c.args.set.now between new c.note_if.ensures
    (subst (λ args. Gains between new (λ n. is_among n (flat_map operand_reads args))) c.as_slice.ensures (gains_flat operand_reads c.as_slice.result.now between new c.note_operands.ensures))
