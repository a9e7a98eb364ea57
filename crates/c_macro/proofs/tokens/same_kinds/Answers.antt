use Rattle.std.proofs.Common.{sym}
use Rattle.c_macro.proofs.SameTokens.{lengths_differ, agree_at}
use Rattle.c_macro.proofs.tokens.same_kinds.Goals as goal

pub returns-then-tokens-others : goal.returns-then-tokens-others
returns-then-tokens-others c = sym (lengths_differ c.args.tokens.now c.args.others.now c.if-tokens-others.true)

pub returns-then-not-is_same : goal.returns-then-not-is_same
returns-then-not-is_same c =
    sym (rw c.if-not-is_same.true at
    (agree_at c.args.tokens.now c.args.others.now c.loop-i.i c.index-tokens-i.result c.index-others-i.result c.is_same.result c.loop-i-test.true c.loop-i.invariant.0
    c.index-tokens-i.is c.is_same.ensures c.loop-i.invariant.1))

pub loop-i-preserved : goal.loop-i-preserved
loop-i-preserved c = (
  c.loop-i.invariant.0,
  rw c.if-not-is_same.false at
      (agree_at c.args.tokens.now c.args.others.now c.loop-i.i c.index-tokens-i.result c.index-others-i.result c.is_same.result c.loop-i-test.true c.loop-i.invariant.0
      c.index-tokens-i.is c.is_same.ensures c.loop-i.invariant.1),
)
