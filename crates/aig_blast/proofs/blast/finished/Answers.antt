use Rattle.rtl_core.specs.Netlist.{netlist_of}
use Rattle.aig_blast.proofs.Growing.{blasted_later}
use Rattle.aig_blast.proofs.Sizes.{input_sum}
use Rattle.aig_blast.proofs.Finishing.{graph_made}
use Rattle.aig_blast.proofs.blast.finished.Goals as goal

pub output_literals-requires-clause-blasted : goal.output_literals-requires-clause-blasted
output_literals-requires-clause-blasted c =
    let d = netlist_of c.args.design.now in
    blasted_later d d.wires _ _ c.args.literals.now c.in_ok-latches.ensures.extends c.in_ok-latches.ensures.sound c.requires.blasted

pub returns : goal.returns
returns c =
    let d = netlist_of c.args.design.now in
    graph_made d c.args.literals.now _ _ _ _ _ _ c.requires.valid c.requires.blasted c.in_ok-latches.ensures c.in_ok-outputs.ensures (input_sum d _ _ c.as_slice.ensures.value c.input_bits-inputs.ensures.value) c.in_ok-ands.ensures
