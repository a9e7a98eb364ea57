use Rattle.std.proofs.Common.{◌<◌, length, sym, refl, ◌∙◌, arith, subst}
use Rattle.aig_graph.specs.Making.{gates_of}
use Rattle.rtl_core.specs.Netlist.{netlist_of}
use Rattle.rtl_core.specs.ClockStep.{widths}
use Rattle.rtl_core.specs.Valid.{RegisterFits}
use Rattle.aig_blast.proofs.Context.{atom_length}
use Rattle.aig_blast.proofs.Growing.{of_later}
use Rattle.aig_blast.proofs.NextBits.{shows_none, registers_more, registers_all, held_length, held_width}
use Rattle.aig_blast.proofs.latches.register_latches.Goals as goal

pub loop-k-init : goal.loop-k-init
loop-k-init c = shows_none (gates_of c.args.graph.now) _ _ c.new-latches.ensures.items c.requires.blasted.sound (λ w. refl)

pub next_word-requires : goal.next_word-requires
next_word-requires c =
    let d = netlist_of c.args.design.now in
    let t = c.args.literals.now in
    let e = gates_of c.args.graph.now in
    let b = c.requires.blasted in
    let k = c.loop-k.k in
    let r = c.index.result.now in
    let h : k < length d.regs = omega arith in
    let fit = subst (RegisterFits (widths d)) (sym c.index.ensures) (c.requires.valid.regs k r h) in
    record {
      inside = omega (arith, held_length d e t b);
      enable = atom_length d d.wires t b.shaped 1 r.enable fit.enable;
      next = atom_length d d.wires t b.shaped r.bits r.next fit.next ∙ sym (held_width d e t k r b h c.index.ensures);
      sound = c.loop-k.invariant.sound;
      fits = of_later e _ t c.loop-k.invariant.extends b.fits;
    }

pub loop-k-preserved : goal.loop-k-preserved
loop-k-preserved c =
    registers_more (netlist_of c.args.design.now) _ _ _ c.args.literals.now _ _ _ _ c.loop-k.k c.index.result.now c.requires.valid c.requires.blasted (omega arith) c.index.ensures c.loop-k.invariant c.in_ok-next.ensures
    c.as_slice.ensures.value c.in_ok-extend_from_slice.ensures.items

pub returns : goal.returns
returns c = registers_all (netlist_of c.args.design.now) _ _ c.args.literals.now _ c.loop-k.k (omega arith) c.requires.blasted c.loop-k.invariant
