use Rattle.c_syntax.proofs.SortsLemmas.WordLists.{found, passed}
use Rattle.c_syntax.proofs.sorts.sort.is_one_of.Goals as goal

pub returns-then-is : goal.returns-then-is
returns-then-is c = found c.args.text.now c.args.words.now c.loop-word.word-index _ c.is.result c.loop-word-test.true c.loop-word.invariant c.is.ensures c.if-is.true

pub loop-word-preserved : goal.loop-word-preserved
loop-word-preserved c = passed c.args.text.now c.args.words.now c.loop-word.word-index _ c.is.result c.loop-word-test.true c.loop-word.invariant c.is.ensures c.if-is.false
