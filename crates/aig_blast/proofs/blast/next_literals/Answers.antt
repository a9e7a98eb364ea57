use Rattle.rtl_core.specs.Netlist.{netlist_of}
use Rattle.aig_blast.proofs.Growing.{blasted_later}
use Rattle.aig_blast.proofs.Finishing.{next_joined}
use Rattle.aig_blast.proofs.blast.next_literals.Goals as goal

pub memory_latches-requires-clause-blasted : goal.memory_latches-requires-clause-blasted
memory_latches-requires-clause-blasted c =
    let d = netlist_of c.args.design.now in
    blasted_later d d.wires _ _ c.args.literals.now c.in_ok-latches.ensures.extends c.in_ok-latches.ensures.sound c.requires.blasted

pub returns : goal.returns
returns c = next_joined (netlist_of c.args.design.now) c.args.literals.now _ _ _ _ _ _ _ c.in_ok-latches.ensures c.in_ok-words.ensures c.as_slice.ensures.value c.in_ok-extend_from_slice.ensures.items
