use Rattle.std.proofs.Common.{◌&&◌, not, ap, ◌∙◌}
use Rattle.aig_graph.specs.Graphs.{literal}
use Rattle.aig_graph.proofs.Growing.{made_by}
use Rattle.aig_graph.proofs.Bits.{neither}
use Rattle.aig_graph.proofs.builder.Builder.or.Goals as goal

pub returns : goal.returns
returns c = λ sound left right.
    made_by _ _ _ _ _ _ (c.in_ok-neither.ensures sound (c.not.ensures.within _ left) (c.not-2.ensures.within _ right)) (c.not-3.ensures.within _)
    (λ w h.
    c.not-3.ensures.value w ∙ (ap not h ∙ (ap (λ z. not (z && literal w c.not-2.result)) (c.not.ensures.value w)
    ∙ (ap (λ z. not (not (literal w c.args.left) && z)) (c.not-2.ensures.value w) ∙ neither (literal w c.args.left) (literal w c.args.right)))))
