use Rattle.std.proofs.Common.{◌∙◌, ap, arith, refl, subst, drop, length}
use Rattle.cycle_report.specs.Reading.{IsShared}
use Rattle.cycle_report.proofs.KindWords.{max_which, tried_none, tried_more, tried_within, kind_found, kind_stuck}
use Rattle.cycle_report.proofs.lines.kind.Goals as goal

pub loop-kind-init : goal.loop-kind-init
loop-kind-init c = (refl, tried_none _ _)

pub returns-then-n-word : goal.returns-then-n-word
returns-then-n-word c =
    let i = c.loop-kind.invariant in
    let n = c.shared_length-n.result in
    kind_found _ _ _ _ _ c.kind_text-word.ensures (subst (λ z. IsShared c.kind_text-word.result.now z n) (c.left.ensures ∙ i.0) c.shared_length-n.ensures.shared) (c.advance.ensures ∙ ap (drop n) i.0) c.if-n-word.true

pub loop-kind-preserved : goal.loop-kind-preserved
loop-kind-preserved c =
    let i = c.loop-kind.invariant in
    let n = c.shared_length-n.result in
    let m = c.max-most.ensures in (
      i.0,
      tried_more _ _ _ _ _ _ n _ i.1 refl c.kind_text-word.ensures (subst (λ z. IsShared c.kind_text-word.result.now z n) (c.left.ensures ∙ i.0) c.shared_length-n.ensures.shared) c.if-n-word.false
          (omega (arith, m)) (omega (arith, m)) (max_which _ _ _ m),
    )

pub advance-requires-2 : goal.advance-requires-2
advance-requires-2 c = let i = c.loop-kind.invariant in omega (arith, tried_within _ _ _ _ i.1, ap length i.0)

pub returns : goal.returns
returns c =
    let i = c.loop-kind.invariant in
    kind_stuck _ _ _ _ i.1 c.loop-kind-test.false (c.advance-2.ensures ∙ ap (drop c.loop-kind.most) i.0)
