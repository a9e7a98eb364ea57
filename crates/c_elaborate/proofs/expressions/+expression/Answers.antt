use Rattle.std.proofs.Common.{◌∙◌, ap, sym, arith}
use Rattle.c_tree.specs.declared.expression.Expr.{Expr, size-Expr}
use Rattle.c_tree.specs.declared.expression.Expr.TheViews.{sized-Unary, sized-Cast, sized-Binary, sized-Comma, sized-Assign}
use Rattle.c_tree.specs.View.{tree_of}
use Rattle.pieces.specs.Resolved.Core.{row, argument_row}
use Rattle.pieces.specs.Resolved.CoreView.{core_of, core_argument_of}
use Rattle.c_elaborate.specs.Expressions.{elaborated, argument_elaborated}
use Rattle.c_elaborate.specs.Chains.{steps}
use Rattle.c_elaborate.proofs.Chaining.{unary_more, cast_more, binary_more, comma_more, assign_more}
use Rattle.c_elaborate.proofs.Lists.{pushed, finished}
use Rattle.c_elaborate.proofs.Operands.{all_are, arguments_are}
use Rattle.c_elaborate.proofs.expressions.+expression.Goals as goal

pub all-loop-e-preserved : goal.all-loop-e-preserved
all-loop-e-preserved t c =
    pushed core_of (λ (e : Expr). elaborated c.args.functions.now c.args.names.now (tree_of e))
    _ _ _ _ _ _ c.in_ok-push.ensures.items c.loop-e-test.true c.e-item.is c.in_ok-expression.ensures c.loop-e.invariant

pub all-returns : goal.all-returns
all-returns t c =
    ap row (finished core_of (λ (e : Expr). elaborated c.args.functions.now c.args.names.now (tree_of e)) c.loop-e.list.items _ c.loop-e.e-index c.loop-e-test.false c.loop-e.invariant)
    ∙ all_are c.args.functions.now c.args.names.now c.args.es.now

pub arguments-loop-arg-preserved : goal.arguments-loop-arg-preserved
arguments-loop-arg-preserved t c =
    pushed core_argument_of (λ (e : Expr). argument_elaborated c.args.functions.now c.args.names.now (tree_of e))
    _ _ _ _ _ _ c.in_ok-push.ensures.items c.loop-arg-test.true c.arg-item.is c.in_ok-argument.ensures c.loop-arg.invariant

pub arguments-returns : goal.arguments-returns
arguments-returns t c =
    ap argument_row (finished core_argument_of (λ (e : Expr). argument_elaborated c.args.functions.now c.args.names.now (tree_of e)) c.loop-arg.list.items _ c.loop-arg.arg-index c.loop-arg-test.false c.loop-arg.invariant)
    ∙ arguments_are c.args.functions.now c.args.names.now c.args.args.now

pub expression-chain-preserved-in-Unary : goal.expression-chain-preserved-in-Unary
expression-chain-preserved-in-Unary t c =
    let done = λ (e : Expr). elaborated c.args.functions.now c.args.names.now (tree_of e) in
    let after = c.push.new.self.items in
    record {
      no_deeper = let x = sized-Unary c.in-Unary.op c.in-Unary.arg c.in-Unary.at in let d = ap size-Expr c.deref-part.ensures in let i = ap size-Expr c.in-Unary.is in let n = c.chain.invariant.no_deeper in grind arith;
      whole =
          ap (λ e. steps after (done e)) c.deref-part.ensures
          ∙ unary_more c.args.functions.now c.args.names.now c.chain.steps.items after (done c.args.e.now) c.in-Unary.op c.in-Unary.arg c.in-Unary.at c.in_ok-push-in-Unary.ensures.items
          (ap (λ e. steps c.chain.steps.items (done e)) (sym c.in-Unary.is) ∙ c.chain.invariant.whole);
    }

pub expression-chain-preserved-in-Cast : goal.expression-chain-preserved-in-Cast
expression-chain-preserved-in-Cast t c =
    let done = λ (e : Expr). elaborated c.args.functions.now c.args.names.now (tree_of e) in
    let after = c.push-in-Cast.new.self.items in
    record {
      no_deeper = let x = sized-Cast c.in-Cast.to c.in-Cast.arg c.in-Cast.at in let d = ap size-Expr c.deref-part-in-Cast.ensures in let i = ap size-Expr c.in-Cast.is in let n = c.chain.invariant.no_deeper in grind arith;
      whole =
          ap (λ e. steps after (done e)) c.deref-part-in-Cast.ensures
          ∙ cast_more c.args.functions.now c.args.names.now c.chain.steps.items after (done c.args.e.now) c.in-Cast.to c.in-Cast.arg c.in-Cast.at c.in_ok-push-in-Cast.ensures.items
          (ap (λ e. steps c.chain.steps.items (done e)) (sym c.in-Cast.is) ∙ c.chain.invariant.whole);
    }

pub expression-chain-preserved-in-Binary : goal.expression-chain-preserved-in-Binary
expression-chain-preserved-in-Binary t c =
    let done = λ (e : Expr). elaborated c.args.functions.now c.args.names.now (tree_of e) in
    let after = c.push-in-Binary.new.self.items in
    record {
      no_deeper = let x = sized-Binary c.in-Binary.op c.in-Binary.left c.in-Binary.right c.in-Binary.at in let d = ap size-Expr c.deref-part-in-Binary.ensures in let i = ap size-Expr c.in-Binary.is in let n = c.chain.invariant.no_deeper in grind arith;
      whole =
          ap (λ e. steps after (done e)) c.deref-part-in-Binary.ensures
          ∙ binary_more c.args.functions.now c.args.names.now c.chain.steps.items after (done c.args.e.now) c.in-Binary.op c.in-Binary.left c.in-Binary.right c.in-Binary.at c.in_ok-right-in-Binary.right (c.in_ok-right-in-Binary.ensures ∙ ap done c.deref.ensures) c.in_ok-push-in-Binary.ensures.items
          (ap (λ e. steps c.chain.steps.items (done e)) (sym c.in-Binary.is) ∙ c.chain.invariant.whole);
    }

pub expression-chain-preserved-in-Assign : goal.expression-chain-preserved-in-Assign
expression-chain-preserved-in-Assign t c =
    let done = λ (e : Expr). elaborated c.args.functions.now c.args.names.now (tree_of e) in
    let after = c.push-in-Assign.new.self.items in
    record {
      no_deeper = let x = sized-Assign c.in-Assign.target c.in-Assign.op c.in-Assign.value c.in-Assign.at in let d = ap size-Expr c.deref-part-in-Assign.ensures in let i = ap size-Expr c.in-Assign.is in let n = c.chain.invariant.no_deeper in grind arith;
      whole =
          ap (λ e. steps after (done e)) c.deref-part-in-Assign.ensures
          ∙ assign_more c.args.functions.now c.args.names.now c.chain.steps.items after (done c.args.e.now) c.in-Assign.target c.in-Assign.op c.in-Assign.value c.in-Assign.at c.in_ok-target-in-Assign.target c.in_ok-target-in-Assign.ensures c.in_ok-push-in-Assign.ensures.items
          (ap (λ e. steps c.chain.steps.items (done e)) (sym c.in-Assign.is) ∙ c.chain.invariant.whole);
    }

pub expression-chain-preserved : goal.expression-chain-preserved
expression-chain-preserved t c =
    let done = λ (e : Expr). elaborated c.args.functions.now c.args.names.now (tree_of e) in
    let after = c.push-in-Comma.new.self.items in
    record {
      no_deeper = let x = sized-Comma c.in-Comma.left c.in-Comma.right c.in-Comma.at in let d = ap size-Expr c.deref-part-in-Comma.ensures in let i = ap size-Expr c.in-Comma.is in let n = c.chain.invariant.no_deeper in grind arith;
      whole =
          ap (λ e. steps after (done e)) c.deref-part-in-Comma.ensures
          ∙ comma_more c.args.functions.now c.args.names.now c.chain.steps.items after (done c.args.e.now) c.in-Comma.left c.in-Comma.right c.in-Comma.at c.in_ok-right-in-Comma.right (c.in_ok-right-in-Comma.ensures ∙ ap done c.deref-in-Comma.ensures) c.in_ok-push-in-Comma.ensures.items
          (ap (λ e. steps c.chain.steps.items (done e)) (sym c.in-Comma.is) ∙ c.chain.invariant.whole);
    }
