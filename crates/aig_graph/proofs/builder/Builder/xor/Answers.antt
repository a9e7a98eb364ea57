use Rattle.std.proofs.Common.{◌≡◌, ◌&&◌, ◌||◌, not, ap, ◌∙◌}
use Rattle.aig_graph.specs.Graphs.{literal}
use Rattle.aig_graph.proofs.Growing.{then_made, fits_later}
use Rattle.aig_graph.proofs.Bits.{one_of}
use Rattle.aig_graph.proofs.builder.Builder.xor.Goals as goal

pub returns : goal.returns
returns c = λ sound left right.
    let m = c.in_ok-both.ensures sound left right in
    let n = c.in_ok-any.ensures m.sound (fits_later _ _ m.extends _ left) (fits_later _ _ m.extends _ right) in
    let two = then_made _ _ _ _ _ _ _ (λ w x. (x ≡ (literal w c.args.left || literal w c.args.right)) × (literal w c.in_ok-both.both ≡ (literal w c.args.left && literal w c.args.right))) m n (λ w p q. (q, p)) in
    let o = c.in_ok-one.ensures n.sound n.shows.fits (c.not.ensures.within _ (fits_later _ _ n.extends _ m.shows.fits)) in
    then_made _ _ _ _ _ _ _ _ two o
    (λ w p q.
    q ∙ (ap (λ z. z && literal w c.not.result) p.0 ∙ (ap (λ z. (literal w c.args.left || literal w c.args.right) && z) (c.not.ensures.value w ∙ ap not p.1)
    ∙ one_of (literal w c.args.left) (literal w c.args.right))))
