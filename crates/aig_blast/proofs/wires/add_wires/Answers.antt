use Rattle.std.proofs.Common.{◌++◌, ◌∷◌, [], ap, ◌∙◌, arith}
use Rattle.rtl_core.specs.Netlist.{netlist_of}
use Rattle.aig_blast.proofs.Growing.{can_make, wires_more, wires_done}
use Rattle.aig_blast.proofs.wires.add_wires.Goals as goal

pub wire_word-requires : goal.wire_word-requires
wire_word-requires c = can_make (netlist_of c.args.design.now) _ _ c.loop-k.k c.index.result.now c.requires.valid (omega arith) c.index.ensures c.loop-k.invariant

pub loop-k-preserved : goal.loop-k-preserved
loop-k-preserved c =
    wires_more (netlist_of c.args.design.now) _ _ c.loop-k.literals _ c.loop-k.k c.index.result.now _ c.requires.valid (omega arith) c.index.ensures c.loop-k.invariant c.in_ok-word.ensures
    (c.in_ok-push.ensures.items ∙ ap (λ z. c.loop-k.literals.wires.items ++ z ∷ []) c.new.ensures)

pub returns : goal.returns
returns c = wires_done (netlist_of c.args.design.now) _ _ c.loop-k.k (omega arith) c.loop-k.invariant
