use Rattle.std.proofs.Common.{refl, ◌∙◌, arith}
use Rattle.rtl_core.specs.declared.design.Wire.{Wire}
use Rattle.rtl_core.specs.Netlist.{netlist_of}
use Rattle.aig_blast.specs.Weight.{wire_weight}
use Rattle.aig_blast.proofs.Sizes.{sum_begins, sum_more, sum_whole, sum_few, fits_read}
use Rattle.aig_blast.proofs.weight.wires_weight.Goals as goal

pub loop-k-init : goal.loop-k-init
loop-k-init c = sum_begins Wire (wire_weight (netlist_of c.args.design.now)) 4194304 c.args.design.now.wires.items

pub wire_weight-requires-clause-valid : goal.wire_weight-requires-clause-valid
wire_weight-requires-clause-valid c = c.requires.mems

pub wire_weight-requires-clause-fits : goal.wire_weight-requires-clause-fits
wire_weight-requires-clause-fits c = fits_read (netlist_of c.args.design.now) c.requires.wires c.loop-k.k c.index.result.now (omega arith) c.index.ensures

pub overflow_add-weight : goal.overflow_add-weight
overflow_add-weight c = omega (arith, c.loop-k.invariant.few, c.wire_weight.ensures.few, c.from-weight.ensures)

pub loop-k-preserved : goal.loop-k-preserved
loop-k-preserved c =
    sum_more Wire (wire_weight (netlist_of c.args.design.now)) 4194304 c.args.design.now.wires.items c.loop-k.k c.index.result.now c.loop-k.weight c.from-weight.result _ c.loop-k.invariant (omega arith) c.index.ensures
    (c.from-weight.ensures ∙ c.wire_weight.ensures.value) (omega (arith, c.wire_weight.ensures.few, c.from-weight.ensures)) refl

pub returns-clause-value : goal.returns-clause-value
returns-clause-value c = sum_whole Wire (wire_weight (netlist_of c.args.design.now)) 4194304 c.args.design.now.wires.items c.loop-k.k c.loop-k.weight (omega arith) c.loop-k.invariant

pub returns-clause-few : goal.returns-clause-few
returns-clause-few c = sum_few Wire (wire_weight (netlist_of c.args.design.now)) 4194304 c.args.design.now.wires.items c.loop-k.k c.loop-k.weight (omega arith) c.loop-k.invariant
