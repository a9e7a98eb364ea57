use Rattle.std.proofs.Common.{◌≡◌, ◌∙◌, ap, ◌∷◌, ℕ, suc, ◌+◌, drop, drop-cons, get_or, arith}
use Rattle.ir_core.specs.declared.body.Out.{Out}
use Rattle.ir_core.specs.declared.body.Source.TheVariants as source
use Rattle.block_draft.specs.Settings.{placed}
use Rattle.block_draft.proofs.Listing.{listed_all, listed_more}
use Rattle.block_draft.proofs.outs.listed.Goals as goal

none : Out
none = record { variable = record { 0 = 0 }; value = record { value = source.Constant 0; distance = 0 } }

next_is : (n : ℕ) → suc n ≡ n + 1
next_is n = omega arith

pub loop-place-preserved : goal.loop-place-preserved
unfolding none
loop-place-preserved c =
    let xs = c.args.sets.now in
    let n = c.loop-place.place in
    let x = get_or xs n none in
    listed_more c.loop-place.outs.items c.add_last.new.outs.items xs n x c.is_latest.result c.loop-place.invariant (drop-cons xs n none c.loop-place-test.true ∙ ap (λ m. x ∷ drop m xs) (next_is n))
    (c.is_latest.ensures ∙ ap (placed n) (c.requires x.variable)) c.in_ok-add_last.ensures

pub returns : goal.returns
returns c = listed_all c.loop-place.outs.items c.args.sets.now c.loop-place.place c.loop-place.invariant c.loop-place-test.false
