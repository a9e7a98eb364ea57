use Rattle.std.proofs.Common.{sym, subst}
use Rattle.std.specs.List.{flat_map}
use Rattle.reg_binding.specs.Sets.{Gains}
use Rattle.reg_binding.specs.Liveness.{is_among, body_reads, out_reads, summary_of}
use Rattle.circuit_control.proofs.SavingsLemmas.Reading.{gains_flat, gains_both}
use Rattle.circuit_control.proofs.savings.reads.note_node.Goals as goal

pub returns-in-Looped : goal.returns-in-Looped
returns-in-Looped c =
    let body = c.in-Looped.region.body in
    let before = c.args.set.now in
    let between = c.note_body-in-Looped.new.set in
    let new = c.note_outs.new.set in
    subst (λ node. Gains before new (λ n. is_among n (summary_of node).reads)) (sym c.in-Looped.is)
    (gains_both (body_reads body) (flat_map out_reads body.outs.items) before between new c.note_body-in-Looped.ensures
    (subst (λ outs. Gains between new (λ n. is_among n (flat_map out_reads outs))) c.deref.ensures.value (gains_flat out_reads c.deref.result.now between new c.note_outs.ensures)))
