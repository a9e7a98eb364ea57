use Rattle.std.proofs.Common.{◌++◌, ◌∷◌, [], ap, ◌∙◌, arith}
use Rattle.aig_graph.proofs.Memories.{writes_more}
use Rattle.aig_graph.proofs.memory.written.Goals as goal

pub loop-k-preserved : goal.loop-k-preserved
loop-k-preserved c =
    writes_more _ _ _ c.args.write.now c.args.words.now _ _ _ _ _ c.loop-k.k c.loop-k.invariant (omega arith) c.requires.words c.index-words-k.is c.literals.ensures
    (c.in_ok-push.ensures.items ∙ ap (λ z. c.loop-k.after.items ++ z ∷ []) c.new.ensures) c.in_ok-word.ensures
