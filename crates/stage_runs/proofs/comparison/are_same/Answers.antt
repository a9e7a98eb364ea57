use Rattle.std.proofs.Common.{◌≡◌, ◌<◌, ◌∙◌, ◌+◌, ℕ, List, [], ◌∷◌, ◌++◌, take, length, get_or, sym, ap, subst, add-one, arith}
use Rattle.std.proofs.Math.Seq.{take-suc}
use Rattle.stage_runs.proofs.comparison.are_same.Goals as goal

one_more : {X : Type 0} (xs ys : List X) (k : ℕ) (x y : X) → k < length xs → length xs ≡ length ys → take k xs ≡ take k ys → x ≡ get_or xs k x → y ≡ get_or ys k y → x ≡ y
    → take (k + 1) xs ≡ take (k + 1) ys
one_more xs ys k x y within lengths before first second same =
    subst (λ n. take n xs ≡ take n ys) (sym (add-one k))
    (take-suc xs k x within
    ∙ (ap (λ zs. zs ++ (get_or xs k x ∷ [])) before
    ∙ (ap (λ z. take k ys ++ (z ∷ [])) (sym first ∙ (same ∙ second)) ∙ sym (take-suc ys k y (omega (arith, within, lengths))))))

pub loop-k-preserved : goal.loop-k-preserved
loop-k-preserved c = (
  c.loop-k.invariant.0,
  one_more c.args.arrays.now c.args.others.now c.loop-k.k c.index-arrays-k.result c.index-others-k.result c.loop-k-test.true c.loop-k.invariant.0 c.loop-k.invariant.1
      c.index-arrays-k.is c.index-others-k.is (c.is_same.ensures.0 c.if-not-is_same.false),
)
