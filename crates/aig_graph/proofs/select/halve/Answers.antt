use Rattle.std.proofs.Common.{◌+◌, ◌*◌, ◌<◌, length, ◌++◌, ◌∷◌, [], ap, ◌∙◌, arith}
use Rattle.aig_graph.proofs.Steps.{halve_more}
use Rattle.aig_graph.proofs.select.halve.Goals as goal

pub loop-i-preserved : goal.loop-i-preserved
loop-i-preserved c = λ width all.
    let h : 2 * c.loop-i.i + 1 < length c.args.column.now = omega arith in
    halve_more _ _ _ c.args.column.now _ _ c.args.test c.loop-i.i width _ _ _ _ _ (c.loop-i.invariant width all) all h
    c.literals-odd.ensures c.index-column-i.is c.literals-even.ensures c.index-column-i-in-loop-i.is
    (c.in_ok-push.ensures.items ∙ ap (λ z. c.loop-i.words.items ++ z ∷ []) c.new.ensures) c.in_ok-word.ensures
