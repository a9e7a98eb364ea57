use Rattle.std.proofs.Common.{◌≡◌, ◌&&◌, ◌||◌, ap, ◌∙◌}
use Rattle.aig_graph.specs.Graphs.{literal}
use Rattle.aig_graph.proofs.Growing.{then_made, fits_later}
use Rattle.aig_graph.proofs.Bits.{picked}
use Rattle.aig_graph.proofs.builder.Builder.pick.Goals as goal

pub returns : goal.returns
returns c = λ sound test first second.
    let t = literal in
    let m = c.in_ok-yes.ensures sound test first in
    let n = c.in_ok-no.ensures m.sound (c.not.ensures.within _ (fits_later _ _ m.extends _ test)) (fits_later _ _ m.extends _ second) in
    let two = then_made _ _ _ _ _ _ _ (λ w x. (x ≡ (literal w c.not.result && literal w c.args.second)) × (literal w c.in_ok-yes.yes ≡ (literal w c.args.test && literal w c.args.first))) m n (λ w p q. (q, p)) in
    let o = c.in_ok-picked.ensures n.sound (fits_later _ _ n.extends _ m.shows.fits) n.shows.fits in
    then_made _ _ _ _ _ _ _ _ two o
    (λ w p q.
    q ∙ (ap (λ z. z || literal w c.in_ok-no.no) p.1
    ∙ (ap (λ z. (literal w c.args.test && literal w c.args.first) || z) (p.0 ∙ ap (λ z. z && literal w c.args.second) (c.not.ensures.value w))
    ∙ picked (literal w c.args.test) (literal w c.args.first) (literal w c.args.second))))
