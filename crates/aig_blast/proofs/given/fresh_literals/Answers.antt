use Rattle.std.proofs.Common.{◌≡◌, ◌+◌, map, sum, ap, ◌∙◌, arith}
use Rattle.std.specs.List.{sum_by}
use Rattle.rtl_core.specs.declared.design.Pin.{Pin}
use Rattle.rtl_core.specs.declared.design.Reg.{Reg}
use Rattle.rtl_core.specs.Netlist.{netlist_of, memory_of}
use Rattle.rtl_core.specs.ClockStep.{input_widths, register_widths, widths}
use Rattle.aig_blast.specs.Weight.{memory_size}
use Rattle.aig_blast.proofs.Fresh.{given_is}
use Rattle.aig_blast.proofs.Sizes.{parts_few, input_sum, register_sum, shapes_read}
use Rattle.aig_blast.proofs.given.fresh_literals.Goals as goal

pub fresh_words-requires : goal.fresh_words-requires
fresh_words-requires c =
    let d = netlist_of c.args.design.now in
    let W : c.as_slice-2.result.now ≡ input_widths d = c.as_slice-2.ensures.value ∙ (c.in_ok-widths.ensures ∙ ap (map (λ (p : Pin). p.bits)) c.as_slice.ensures.value) in
    omega (arith, ap sum W, parts_few d c.requires.few)

pub fresh_words-requires-2 : goal.fresh_words-requires-2
fresh_words-requires-2 c =
    let d = netlist_of c.args.design.now in
    let W : c.as_slice-5.result.now ≡ register_widths d = c.as_slice-5.ensures.value ∙ (c.in_ok-widths-2.ensures ∙ ap (map (λ (r : Reg). r.bits)) c.as_slice-4.ensures.value) in
    omega (arith, ap sum W, input_sum d _ _ c.as_slice-3.ensures.value c.input_bits.ensures.value, parts_few d c.requires.few)

pub overflow_add-memories : goal.overflow_add-memories
overflow_add-memories c =
    let d = netlist_of c.args.design.now in
    let I = input_sum d _ _ c.as_slice-3.ensures.value c.input_bits.ensures.value in
    let R = register_sum d _ _ c.as_slice-6.ensures.value c.register_bits.ensures.value in
    omega (arith, I, R, parts_few d c.requires.few)

pub fresh_banks-requires : goal.fresh_banks-requires
fresh_banks-requires c =
    let d = netlist_of c.args.design.now in
    let xs = c.args.design.now.mems.items in
    let I = input_sum d _ _ c.as_slice-3.ensures.value c.input_bits.ensures.value in
    let R = register_sum d _ _ c.as_slice-6.ensures.value c.register_bits.ensures.value in
    let M = ap (λ z. sum_by memory_size (map memory_of z)) c.as_slice-7.ensures.value in
    record {
      shapes = shapes_read (widths d) c.as_slice-7.result.now xs c.as_slice-7.ensures.value c.requires.valid.mems;
      few = (omega (arith, I, R, M, parts_few d c.requires.few));
    }

pub returns : goal.returns
returns c =
    let d = netlist_of c.args.design.now in
    let W = c.as_slice-2.ensures.value ∙ (c.in_ok-widths.ensures ∙ ap (map (λ (p : Pin). p.bits)) c.as_slice.ensures.value) in
    let V = c.as_slice-5.ensures.value ∙ (c.in_ok-widths-2.ensures ∙ ap (map (λ (r : Reg). r.bits)) c.as_slice-4.ensures.value) in
    let I = input_sum d _ _ c.as_slice-3.ensures.value c.input_bits.ensures.value in
    let R = register_sum d _ _ c.as_slice-6.ensures.value c.register_bits.ensures.value in
    given_is d c.in_ok-inputs.inputs c.in_ok-regs.regs c.in_ok-mems.mems c.new.result _ _ _ _ _ c.in_ok-inputs.ensures.lengths W c.in_ok-inputs.ensures.joined c.in_ok-regs.ensures.lengths V c.in_ok-regs.ensures.joined
    (ap (map memory_of) c.as_slice-7.ensures.value) c.in_ok-mems.ensures.banks c.in_ok-mems.ensures.joined (ap (λ z. 1 + z) I) (ap (λ z. 1 + c.input_bits.result + z) R) c.new.ensures.items
