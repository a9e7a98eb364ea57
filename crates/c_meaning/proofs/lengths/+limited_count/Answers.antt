use Rattle.std.proofs.Common.{rules, arith}
use Rattle.c_meaning.proofs.DimensionLengths.{many_inside, many_together, many_wide}
use Rattle.c_meaning.proofs.lengths.+limited_count.Goals as goal
use Rattle.c_meaning.proofs.lengths.+limited_count.Goals.{else-len-le65536-via-then-len-le65536+else-len-count-le65536, else-len-le65536-via-else-len-le65536}

pub returns-in_default-limited_count : goal.returns-in_default-limited_count
returns-in_default-limited_count t c =
    let cases = c.in-Some.ensures.cases in
    many_inside c.args.lengths.now c.in-Some.len.now c.in-Some.inner.now (search rules) c.requires c.in_default-limited_count.ensures

pub returns-else-len-le65536 : goal.returns-else-len-le65536
returns-else-len-le65536 t c = elim c.else-len-le65536.branch [
  | else-len-le65536-via-then-len-le65536+else-len-count-le65536 w ↦
      many_together c.args.lengths.now c.in-Some.len.now c.in-Some.inner.now c.in-Some-limited_count.count (search rules) c.requires c.in-Some-limited_count.ensures (omega arith)
  | else-len-le65536-via-else-len-le65536 w ↦
      many_wide c.args.lengths.now c.in-Some.len.now c.in-Some.inner.now (search rules) c.requires w.if-len-le65536.false
]
