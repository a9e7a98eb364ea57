use Rattle.std.proofs.Common.{refl, arith}
use Rattle.aig_graph.specs.Making.{gates_of}
use Rattle.rtl_core.specs.Netlist.{netlist_of}
use Rattle.aig_blast.proofs.NextBits.{shows_none, outputs_more, outputs_all}
use Rattle.aig_blast.proofs.latches.output_literals.Goals as goal

pub loop-k-init : goal.loop-k-init
loop-k-init c = shows_none (gates_of c.args.graph.now) _ _ c.new-shown.ensures.items c.requires.blasted.sound (λ w. refl)

pub loop-k-preserved : goal.loop-k-preserved
loop-k-preserved c =
    outputs_more (netlist_of c.args.design.now) (gates_of c.args.graph.now) c.args.literals.now _ _ _ _ c.loop-k.k c.index.result.now c.requires.valid c.requires.blasted (omega arith) c.index.ensures c.loop-k.invariant
    c.in_ok-word.ensures c.as_slice.ensures.value c.in_ok-extend_from_slice.ensures.items

pub returns : goal.returns
returns c = outputs_all (netlist_of c.args.design.now) (gates_of c.args.graph.now) c.args.literals.now _ c.loop-k.k (omega arith) c.loop-k.invariant
