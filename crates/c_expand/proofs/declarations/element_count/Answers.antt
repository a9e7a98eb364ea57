use Rattle.std.proofs.Common.{rules, arith, ◌≡◌, ◌*◌}
use Rattle.c_expand.proofs.Subscripts.{count_more, count_positive}
use Rattle.c_expand.proofs.declarations.element_count.Goals as goal

pub loop-length-preserved : goal.loop-length-preserved
loop-length-preserved c =
    let made : c.in_ok-count.count ≡ c.loop-length.count * c.max-length.result = search rules in
    record {
      value = count_more c.args.lengths.now c.loop-length.length-index _ _ c.loop-length.count _ _ c.loop-length-test.true c.from.ensures c.max-length.ensures made c.loop-length.invariant.value;
      positive = count_positive c.loop-length.count c.max-length.result _ c.loop-length.invariant.positive (omega (arith, c.max-length.ensures)) made;
    }
