use Rattle.std.proofs.Common.{◌+◌, ◌^◌, refl, ◌∙◌, arith}
use Rattle.std.proofs.Math.Nat.{mul-le-mul_left}
use Rattle.aig_blast.proofs.Sizes.{ports_begin, ports_low, ports_more, ports_bound, ports_whole, ports_few, shape_at}
use Rattle.aig_blast.proofs.weight.ports_weight.Goals as goal

pub loop-k-init : goal.loop-k-init
loop-k-init c = ports_begin c.args.mems.now

pub memory_size-requires-clause-bits : goal.memory_size-requires-clause-bits
memory_size-requires-clause-bits c = (shape_at c.args.mems.now c.loop-k.k c.index-mems-k.result c.requires.shapes (omega arith) c.index-mems-k.is).0.1

pub memory_size-requires-clause-depth : goal.memory_size-requires-clause-depth
memory_size-requires-clause-depth c = (shape_at c.args.mems.now c.loop-k.k c.index-mems-k.result c.requires.shapes (omega arith) c.index-mems-k.is).1.1

pub overflow_add-weight : goal.overflow_add-weight
overflow_add-weight c =
    let low = ports_low c.args.mems.now c.loop-k.k c.index-mems-k.result c.loop-k.weight c.len.result c.from.result c.loop-k.invariant c.loop-k-test.true c.index-mems-k.is (c.from.ensures ∙ c.memory_size.ensures.value) (omega (arith, c.len.type_inv)) in
    let all = mul-le-mul_left (2 ^ 64) (ports_bound c.args.mems.now (c.loop-k.k + 1) c.requires.few) in
    omega (arith, low, all)

pub loop-k-preserved : goal.loop-k-preserved
loop-k-preserved c =
    ports_more c.args.mems.now c.loop-k.k c.index-mems-k.result c.loop-k.weight c.len.result c.from.result _ c.loop-k.invariant c.loop-k-test.true c.index-mems-k.is (c.from.ensures ∙ c.memory_size.ensures.value)
    (omega (arith, c.len.ensures, c.index-mems-k.result.ports.ok)) (omega (arith, c.len.type_inv)) refl

pub returns-clause-value : goal.returns-clause-value
returns-clause-value c = ports_whole c.args.mems.now c.loop-k.k c.loop-k.weight (omega arith) c.loop-k.invariant

pub returns-clause-few : goal.returns-clause-few
returns-clause-few c = ports_few c.args.mems.now c.loop-k.k c.loop-k.weight (omega arith) c.loop-k.invariant c.requires.few
