use Rattle.aig_text.specs.Views.{ReadsWhole}
use Rattle.aig_text.proofs.Reading.{passed}
use Rattle.aig_text.proofs.Wholes.{whole_found, whole_stuck, whole_trailing}
use Rattle.aig_text.proofs.read.whole.Goals as goal

pub returns-in_err-graph : goal.returns-in_err-graph
returns-in_err-graph c =
    passed (λ r. ReadsWhole r c.args.cursor.now c.graph.new.cursor) _ c.from_residual.ensures.1 (λ y e. e) (λ y h. h) c.in_err-graph.ensures (λ k. whole_stuck _ _ k)

pub returns-in_err-tail : goal.returns-in_err-tail
returns-in_err-tail c =
    passed (λ r. ReadsWhole r c.args.cursor.now c.tail.new.cursor) _ c.from_residual-in_err-tail.ensures.1 (λ y e. e) (λ y h. h) c.in_err-tail.ensures (λ k. whole_trailing _ _ _ _ c.in_ok-graph.ensures k)

pub returns : goal.returns
returns c = whole_found _ _ _ c.in_ok-graph.ensures c.in_ok-tail.ensures
