use Rattle.std.proofs.Common.{◌≤◌, refl, subst}
use Rattle.rtl_core.specs.Netlist.{netlist_of}
use Rattle.rtl_core.specs.ClockStep.{widths}
use Rattle.aig_blast.proofs.Sizes.{shapes_read, few_words, weight_is}
use Rattle.aig_blast.proofs.weight.check_size.Goals as goal

pub ports_weight-requires : goal.ports_weight-requires
ports_weight-requires c =
    let d = netlist_of c.args.design.now in
    let xs = c.args.design.now.mems.items in
    record {
      shapes = shapes_read (widths d) c.as_slice.result.now xs c.as_slice.ensures.value c.requires.mems;
      few = few_words d c.as_slice.result.now xs c.bit_count.result c.as_slice.ensures.value refl c.bit_count.ensures c.if-bit_count-gt-BIT_LIMIT.false;
    }

pub returns : goal.returns
returns c =
    let d = netlist_of c.args.design.now in
    let e = weight_is d c.as_slice.result.now c.args.design.now.mems.items c.wires_weight.result c.ports_weight.result c.as_slice.ensures.value refl c.wires_weight.ensures.value c.ports_weight.ensures.value in
    record { rejected = tt; small = (subst (λ z. z ≤ 65536) c.bit_count.ensures c.if-bit_count-gt-BIT_LIMIT.false, subst (λ z. z ≤ 4194304) e c.if-weight-gt-WEIGHT_LIMIT.false) }
