use Rattle.std.proofs.Common.{◌<◌, ◌||◌, take, length, get_or, sym, ap, ◌∙◌, arith}
use Rattle.c_calls.specs.Linked.{is_among, calls_one}
use Rattle.c_calls.proofs.Rounds.{spreads_more, calls_taken, row_is}
use Rattle.c_calls.proofs.recursion.spread.Goals as goal

pub loop-number-preserved : goal.loop-number-preserved
loop-number-preserved c =
    let rows = c.args.rows.now in
    let front = c.args.front.now in
    let i = c.loop-number.number-index in
    let x = get_or front i 0 in
    let row = c.index-rows-number.result in
    let within : i < length front = c.loop-number-test.true in
    let below = c.requires.front i 0 within in
    let lt : x < length rows = let long = c.requires.long in omega arith in
    spreads_more (λ f. calls_one rows f (take i front)) (λ f. is_among f c.deref.result.now) _ _ c.loop-number.marks _ _ c.loop-number.noted.items _ c.loop-number.invariant c.in_ok-mark.ensures
    (λ f. calls_taken rows f i 0 front within
    ∙ ap (λ r. calls_one rows f (take i front) || is_among f r) (row_is rows x row lt ∙ ap (λ v. v.items) (sym c.index-rows-number.is) ∙ sym c.deref.ensures.value))
