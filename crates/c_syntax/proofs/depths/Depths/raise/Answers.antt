use Rattle.std.proofs.Common.{sym, subst, arith, set, length, ◌+◌, ◌<◌, true}
use Rattle.std.proofs.lemmas.List.{get_or_read}
use Rattle.c_syntax.proofs.Holding.{Raising, raising_first, raising_last, raising_more, raising_stops}
use Rattle.c_syntax.proofs.depths.Depths.raise.Goals as goal

pub loop-i-init : goal.loop-i-init
loop-i-init c = λ noted s. raising_first c.args.first c.args.self.now.nestings.items c.args.self.now.beyond noted s

pub loop-i-preserved-then-index-lt-NESTING_LIMIT : goal.loop-i-preserved-then-index-lt-NESTING_LIMIT
loop-i-preserved-then-index-lt-NESTING_LIMIT c = λ noted s.
    let items = c.loop-i.self.nestings.items in let i = c.loop-i.i in
    let t = c.loop-i-test.true in let l = c.len.ensures in let small = c.if-index-lt-NESTING_LIMIT.true in
    let below : i < length items = omega (arith, t, l, c.loop-i.self.nestings.ok.0) in
    let read = get_or_read items i c.index.result.now below c.index.ensures 0 in
    let written = get_or_read items i c.index_mut.result.now below c.index_mut.ensures.value 0 in
    subst (λ k. Raising c.args.first (i + 1) (set items i (k + 1)) c.loop-i.self.beyond noted) (sym written)
    (raising_more c.args.first i items c.loop-i.self.beyond noted below (omega (arith, small, read)) (c.loop-i.invariant noted s))

pub loop-i-preserved : goal.loop-i-preserved
loop-i-preserved c = λ noted s.
    let items = c.loop-i.self.nestings.items in let i = c.loop-i.i in
    let t = c.loop-i-test.true in let l = c.len.ensures in let large = c.if-index-lt-NESTING_LIMIT.false in
    let below : i < length items = omega (arith, t, l, c.loop-i.self.nestings.ok.0) in
    let read = get_or_read items i c.index.result.now below c.index.ensures 0 in
    subst (λ k. Raising c.args.first i k true noted) (sym c.truncate.ensures.items)
    (raising_stops c.args.first i items c.loop-i.self.beyond noted below (omega (arith, large, read)) (c.loop-i.invariant noted s))

pub returns : goal.returns
returns c = λ noted s.
    let t = c.loop-i-test.false in let l = c.len.ensures in
    raising_last c.args.first c.loop-i.i c.loop-i.self.nestings.items c.loop-i.self.beyond noted (omega (arith, t, l, c.loop-i.self.nestings.ok.0)) (c.loop-i.invariant noted s)
