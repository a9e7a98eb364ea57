use Rattle.std.proofs.Common.{map}
use Rattle.pieces.specs.View.{pure_of, piece_of}
use Rattle.piece_making.specs.Calls.{call_of}
use Rattle.piece_making.specs.Stocks.{stock}
use Rattle.piece_making.proofs.Exits.{through, IfOk-weaker, IfRefused-weaker}
use Rattle.c_expand.proofs.Operating.{forked_heavy_other, forked_or, forked_or_heavy, forked_and, forked_and_heavy}
use Rattle.c_expand.proofs.operators.fork_behind.Goals as goal

pub returns-in_err-other-clause-refused : goal.returns-in_err-other-clause-refused
returns-in_err-other-clause-refused c =
    let o = c.args.operator in
    through _ c.in_err-other.field-0.0 _ _ c.from_residual.ensures.1 (λ y e. e) c.in_err-other.ensures.refused
    (λ r h. forked_heavy_other (call_of c.args.frame.now) o.op o.kind o.at (pure_of c.args.test) (map piece_of c.args.reached.pieces.items) c.args.reached.own _ c.is_or-is_or.ensures (stock c.args.work.now) _ h)

pub returns-then-is_or-clause-made : goal.returns-then-is_or-clause-made
returns-then-is_or-clause-made c =
    let o = c.args.operator in
    IfOk-weaker c.fork.result _ _
    (λ v h. forked_or (call_of c.args.frame.now) o.op o.kind o.at (pure_of c.args.test) (map piece_of c.args.reached.pieces.items) c.args.reached.own _ c.is_or-is_or.ensures (stock c.args.work.now) _ _ c.in_ok-other.ensures.made _ _ c.if-is_or.true h) c.fork.ensures.made

pub returns-then-is_or-clause-refused : goal.returns-then-is_or-clause-refused
returns-then-is_or-clause-refused c =
    let o = c.args.operator in
    IfRefused-weaker c.fork.result _ _
    (λ r h. forked_or_heavy (call_of c.args.frame.now) o.op o.kind o.at (pure_of c.args.test) (map piece_of c.args.reached.pieces.items) c.args.reached.own _ c.is_or-is_or.ensures (stock c.args.work.now) _ _ c.in_ok-other.ensures.made _ c.if-is_or.true h) c.fork.ensures.refused

pub returns-else-is_or-clause-made : goal.returns-else-is_or-clause-made
returns-else-is_or-clause-made c =
    let o = c.args.operator in
    IfOk-weaker c.fork-else-is_or.result _ _
    (λ v h. forked_and (call_of c.args.frame.now) o.op o.kind o.at (pure_of c.args.test) (map piece_of c.args.reached.pieces.items) c.args.reached.own _ c.is_or-is_or.ensures (stock c.args.work.now) _ _ c.in_ok-other.ensures.made _ _ c.if-is_or.false h) c.fork-else-is_or.ensures.made

pub returns-else-is_or-clause-refused : goal.returns-else-is_or-clause-refused
returns-else-is_or-clause-refused c =
    let o = c.args.operator in
    IfRefused-weaker c.fork-else-is_or.result _ _
    (λ r h. forked_and_heavy (call_of c.args.frame.now) o.op o.kind o.at (pure_of c.args.test) (map piece_of c.args.reached.pieces.items) c.args.reached.own _ c.is_or-is_or.ensures (stock c.args.work.now) _ _ c.in_ok-other.ensures.made _ c.if-is_or.false h) c.fork-else-is_or.ensures.refused
