use Rattle.std.proofs.Common.{◌+◌, ap, arith}
use Rattle.aig_blast.proofs.Fresh.{banks_begin, banks_more, banks_whole, banks_joined, banks_within}
use Rattle.aig_blast.proofs.Sizes.{shape_at}
use Rattle.aig_blast.proofs.given.fresh_banks.Goals as goal

pub loop-k-init : goal.loop-k-init
loop-k-init c = banks_begin c.args.first c.args.mems.now _ c.in_ok-banks.ensures.items

pub fresh_bank-requires-clause-depth : goal.fresh_bank-requires-clause-depth
fresh_bank-requires-clause-depth c = (shape_at c.args.mems.now c.loop-k.k c.index-mems-k.result c.requires.shapes c.loop-k-test.true c.index-mems-k.is).1.1

pub fresh_bank-requires-clause-few : goal.fresh_bank-requires-clause-few
fresh_bank-requires-clause-few c = banks_within c.args.first c.args.mems.now c.loop-k.k c.index-mems-k.result c.loop-k.next _ c.loop-k.invariant c.loop-k-test.true c.index-mems-k.is c.requires.few

pub memory_size-next-requires-clause-bits : goal.memory_size-next-requires-clause-bits
memory_size-next-requires-clause-bits c = (shape_at c.args.mems.now c.loop-k.k c.index-mems-k.result c.requires.shapes c.loop-k-test.true c.index-mems-k.is).0.1

pub memory_size-next-requires-clause-depth : goal.memory_size-next-requires-clause-depth
memory_size-next-requires-clause-depth c = (shape_at c.args.mems.now c.loop-k.k c.index-mems-k.result c.requires.shapes c.loop-k-test.true c.index-mems-k.is).1.1

pub overflow_add-next : goal.overflow_add-next
overflow_add-next c =
    let low = banks_within c.args.first c.args.mems.now c.loop-k.k c.index-mems-k.result c.loop-k.next _ c.loop-k.invariant c.loop-k-test.true c.index-mems-k.is c.requires.few in
    omega (arith, low, c.memory_size-next.ensures.value)

pub loop-k-preserved : goal.loop-k-preserved
loop-k-preserved c =
    banks_more c.args.first c.args.mems.now c.loop-k.k c.index-mems-k.result c.loop-k.next _ _ _ _ c.loop-k.invariant c.loop-k-test.true c.index-mems-k.is c.in_ok-bank.ensures.bank c.in_ok-bank.ensures.joined c.in_ok-push.ensures.items
    (ap (λ z. c.loop-k.next + z) c.memory_size-next.ensures.value)

pub returns-clause-banks : goal.returns-clause-banks
returns-clause-banks c = banks_whole c.args.first c.args.mems.now c.loop-k.k c.loop-k.next _ (omega arith) c.loop-k.invariant

pub returns-clause-joined : goal.returns-clause-joined
returns-clause-joined c = banks_joined c.args.first c.args.mems.now c.loop-k.k c.loop-k.next _ (omega arith) c.loop-k.invariant
