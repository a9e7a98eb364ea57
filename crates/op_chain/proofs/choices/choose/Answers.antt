use Rattle.std.proofs.Common.{◌≡◌, ◌∙◌, ◌++◌, ◌∷◌, [], suc, ◌+◌, length, length-append, map, drop, ap, sym, arith}
use Rattle.std.specs.Prelude.{slice_get}
use Rattle.ir_core.specs.Bodies.{op_of}
use Rattle.op_chain.specs.Fusing.{choice, chosen}
use Rattle.op_chain.proofs.Shown.{op_at, ops_from}
use Rattle.op_chain.proofs.choices.choose.Goals as goal

pub loop-op-preserved : goal.loop-op-preserved
loop-op-preserved c =
    let k = c.loop-op._op-index in
    let ops = c.args.ops.now in
    let all = map op_of ops in
    let x = c._op-item.result in
    let old = c.loop-op.choices.items in
    let front = ops_from ops k (k + 1) x c.loop-op-test.true (let e : k + 1 ≡ suc k = omega arith in e) c._op-item.is in
    let here = op_at ops k x c.loop-op-test.true c._op-item.is in
    record {
      count = ap length c.in_ok-push.ensures.items ∙ (let a = length-append old (c.choice-choice.result ∷ []) in let b = c.loop-op.invariant.count in omega (arith, a, b));
      chosen = λ s shows.
          let it = c.choice-choice.ensures s (op_of x) shows (ap (λ l. slice_get all (length l)) c.as_slice.ensures.value ∙ (ap (λ n. slice_get all n) c.loop-op.invariant.count ∙ here))
          ∙ ap (λ l. choice s all l (op_of x)) c.as_slice.ensures.value in
          ap (λ l. chosen s all l (map op_of (drop (k + 1) ops))) (c.in_ok-push.ensures.items ∙ ap (λ y. old ++ y ∷ []) it)
          ∙ (ap (chosen s all old) (sym front) ∙ c.loop-op.invariant.chosen s shows);
    }
