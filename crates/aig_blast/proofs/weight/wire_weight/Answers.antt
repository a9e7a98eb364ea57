use Rattle.std.proofs.Common.{refl, arith}
use Rattle.rtl_core.specs.Netlist.{netlist_of}
use Rattle.rtl_core.specs.ClockStep.{widths}
use Rattle.aig_blast.proofs.Sizes.{two_have_bits, pick_has_bits, word_inside, shapes, shape_at, word_weight}
use Rattle.aig_blast.proofs.weight.wire_weight.Goals as goal

pub bits_of-requires : goal.bits_of-requires
bits_of-requires c = (let d = netlist_of c.args.design.now in two_have_bits (widths d) d.mems c.args.wire.net c.in-Two.op c.in-Two.a c.in-Two.b c.in-Two.is c.args.wire.bits c.requires.fits).0

pub bits_of-requires-in-Two : goal.bits_of-requires-in-Two
bits_of-requires-in-Two c = (let d = netlist_of c.args.design.now in two_have_bits (widths d) d.mems c.args.wire.net c.in-Two.op c.in-Two.a c.in-Two.b c.in-Two.is c.args.wire.bits c.requires.fits).1

pub bits_of-requires-in-Pick : goal.bits_of-requires-in-Pick
bits_of-requires-in-Pick c = let d = netlist_of c.args.design.now in (c.args.wire.bits, (pick_has_bits (widths d) d.mems c.args.wire.net c.in-Pick.test c.in-Pick.a c.in-Pick.b c.in-Pick.is c.args.wire.bits c.requires.fits).1)

pub bits_of-requires-in-Pick-2 : goal.bits_of-requires-in-Pick-2
bits_of-requires-in-Pick-2 c = let d = netlist_of c.args.design.now in (c.args.wire.bits, (pick_has_bits (widths d) d.mems c.args.wire.net c.in-Pick.test c.in-Pick.a c.in-Pick.b c.in-Pick.is c.args.wire.bits c.requires.fits).2)

pub bits_of-requires-in-Pick-3 : goal.bits_of-requires-in-Pick-3
bits_of-requires-in-Pick-3 c = let d = netlist_of c.args.design.now in (1, (pick_has_bits (widths d) d.mems c.args.wire.net c.in-Pick.test c.in-Pick.a c.in-Pick.b c.in-Pick.is c.args.wire.bits c.requires.fits).0)

pub index-requires : goal.index-requires
index-requires c =
    let l = word_inside (widths (netlist_of c.args.design.now)) c.args.design.now.mems.items c.args.wire.net c.in-Word.mem c.in-Word.addr c.in-Word.is c.args.wire.bits c.requires.fits in
    omega (arith, l, c.args.design.now.mems.ok)

pub memory_size-requires-clause-bits : goal.memory_size-requires-clause-bits
memory_size-requires-clause-bits c =
    let w = widths (netlist_of c.args.design.now) in
    let ms = c.args.design.now.mems.items in
    let l = word_inside w ms c.args.wire.net c.in-Word.mem c.in-Word.addr c.in-Word.is c.args.wire.bits c.requires.fits in
    (shape_at ms c.in-Word.mem c.index.result.now (shapes w ms c.requires.valid) l c.index.ensures).0.1

pub memory_size-requires-clause-depth : goal.memory_size-requires-clause-depth
memory_size-requires-clause-depth c =
    let w = widths (netlist_of c.args.design.now) in
    let ms = c.args.design.now.mems.items in
    let l = word_inside w ms c.args.wire.net c.in-Word.mem c.in-Word.addr c.in-Word.is c.args.wire.bits c.requires.fits in
    (shape_at ms c.in-Word.mem c.index.result.now (shapes w ms c.requires.valid) l c.index.ensures).1.1

pub returns-in-Word-clause-value : goal.returns-in-Word-clause-value
returns-in-Word-clause-value c =
    let d = netlist_of c.args.design.now in
    let ms = c.args.design.now.mems.items in
    let l = word_inside (widths d) ms c.args.wire.net c.in-Word.mem c.in-Word.addr c.in-Word.is c.args.wire.bits c.requires.fits in
    word_weight d ms c.args.wire c.in-Word.mem c.in-Word.addr c.index.result.now c.memory_size.result refl c.in-Word.is l c.index.ensures c.memory_size.ensures.value
