use Rattle.std.proofs.Common.{ap, ◌∙◌}
use Rattle.aig_graph.specs.Making.{no_gates}
use Rattle.rtl_core.specs.Netlist.{netlist_of}
use Rattle.aig_blast.proofs.Fresh.{blasted_begins}
use Rattle.aig_blast.proofs.blast.blast.Goals as goal

pub fresh_literals-requires-clause-few : goal.fresh_literals-requires-clause-few
fresh_literals-requires-clause-few c = c.in_default.ensures.small.0

pub add_wires-requires-clause-given : goal.add_wires-requires-clause-given
add_wires-requires-clause-given c =
    blasted_begins (netlist_of c.args.design.now) c.in_ok-literals.literals _ c.in_ok-literals.ensures c.in_default.ensures.small.0 (c.new-graph.ensures ∙ ap no_gates c.bit_count.ensures)

pub finished-requires-clause-few : goal.finished-requires-clause-few
finished-requires-clause-few c = c.in_default.ensures.small.0

pub returns : goal.returns
returns c = record { graph = c.in_ok-aig.ensures; small = c.in_default.ensures.small; refused = tt }
