use Rattle.std.proofs.Common.{sym, refl, ◌∙◌, arith}
use Rattle.rtl_core.specs.declared.design.Mem.{Mem}
use Rattle.rtl_core.specs.Netlist.{Memory, memory_of}
use Rattle.aig_blast.specs.Weight.{memory_size}
use Rattle.aig_blast.proofs.Sizes.{mem_size, sum_begins, sum_more, sum_whole, sum_few, mapped_sum, shape_at}
use Rattle.aig_blast.proofs.weight.memory_bits.Goals as goal

pub loop-k-init : goal.loop-k-init
loop-k-init c = sum_begins Mem mem_size 4194304 c.args.mems.now

pub memory_size-requires-clause-bits : goal.memory_size-requires-clause-bits
memory_size-requires-clause-bits c = (shape_at c.args.mems.now c.loop-k.k c.index-mems-k.result c.requires (omega arith) c.index-mems-k.is).0.1

pub memory_size-requires-clause-depth : goal.memory_size-requires-clause-depth
memory_size-requires-clause-depth c = (shape_at c.args.mems.now c.loop-k.k c.index-mems-k.result c.requires (omega arith) c.index-mems-k.is).1.1

pub overflow_add-bits : goal.overflow_add-bits
overflow_add-bits c = omega (arith, c.loop-k.invariant.few, c.memory_size.ensures.few, c.from-bits.ensures)

pub loop-k-preserved : goal.loop-k-preserved
loop-k-preserved c =
    sum_more Mem mem_size 4194304 c.args.mems.now c.loop-k.k c.index-mems-k.result c.loop-k.bits c.from-bits.result _ c.loop-k.invariant c.loop-k-test.true c.index-mems-k.is
    (c.from-bits.ensures ∙ c.memory_size.ensures.value) (omega (arith, c.memory_size.ensures.few, c.from-bits.ensures)) refl

pub returns-clause-value : goal.returns-clause-value
returns-clause-value c = sum_whole Mem mem_size 4194304 c.args.mems.now c.loop-k.k c.loop-k.bits (omega arith) c.loop-k.invariant ∙ sym (mapped_sum Mem Memory memory_size memory_of c.args.mems.now)

pub returns-clause-few : goal.returns-clause-few
returns-clause-few c = sum_few Mem mem_size 4194304 c.args.mems.now c.loop-k.k c.loop-k.bits (omega arith) c.loop-k.invariant
