use Rattle.std.proofs.Common.{◌≡◌, [], ◌∷◌, ◌++◌, ◌∙◌, sym, ap, arith}
use Rattle.c_tree.specs.declared.expression.Expr.{size-Expr}
use Rattle.c_tree.specs.declared.expression.Expr.TheViews.{sized-Binary, sized-Choice, sized-Assign, sized-Comma}
use Rattle.c_tree.specs.View.{tree_of}
use Rattle.c_meaning.specs.Checks.Recursion.{calls}
use Rattle.c_calls.specs.Called.{backwards}
use Rattle.c_calls.proofs.Calling.{binary_more, choice_more, assign_more, comma_more}
use Rattle.c_calls.proofs.called.+calls.Goals as goal

pub add_calls-chain-preserved-in-Binary-1 : goal.add_calls-chain-preserved-in-Binary-1
add_calls-chain-preserved-in-Binary-1 t c =
    let done = c.chain.calls.items in
    let before = c.chain.later.items in
    let after = c.push.new.self.items in
    let found = c.in_ok-calls_in-in-Binary.field-0 in
    let step = c.in-Binary in
    let grown : after ≡ before ++ found ∷ [] = grind arith in
    record {
      no_deeper = omega (arith, c.chain.invariant.no_deeper, ap size-Expr c.deref-part.ensures, ap size-Expr step.is, sized-Binary step.op step.left step.right step.at);
      calls = ap (λ x. (done ++ calls c.args.names.now (tree_of x)) ++ backwards after) c.deref-part.ensures
          ∙ binary_more c.args.names.now before after found done _ grown step.op step.left step.right step.at
          (c.in_ok-calls_in-in-Binary.ensures ∙ ap (λ x. calls c.args.names.now (tree_of x)) c.deref.ensures)
          (ap (λ x. (done ++ calls c.args.names.now (tree_of x)) ++ backwards before) (sym step.is) ∙ c.chain.invariant.calls);
    }

pub add_calls-chain-preserved-in-Comma-1 : goal.add_calls-chain-preserved-in-Comma-1
add_calls-chain-preserved-in-Comma-1 t c =
    let done = c.chain.calls.items in
    let before = c.chain.later.items in
    let after = c.push-in-Comma.new.self.items in
    let found = c.in_ok-calls_in-in-Comma.field-0 in
    let step = c.in-Comma in
    let grown : after ≡ before ++ found ∷ [] = grind arith in
    record {
      no_deeper = omega (arith, c.chain.invariant.no_deeper, ap size-Expr c.deref-part-in-Comma.ensures, ap size-Expr step.is, sized-Comma step.left step.right step.at);
      calls = ap (λ x. (done ++ calls c.args.names.now (tree_of x)) ++ backwards after) c.deref-part-in-Comma.ensures
          ∙ comma_more c.args.names.now before after found done _ grown step.left step.right step.at
          (c.in_ok-calls_in-in-Comma.ensures ∙ ap (λ x. calls c.args.names.now (tree_of x)) c.deref-in-Comma.ensures)
          (ap (λ x. (done ++ calls c.args.names.now (tree_of x)) ++ backwards before) (sym step.is) ∙ c.chain.invariant.calls);
    }

pub add_calls-chain-preserved-in-Assign-1 : goal.add_calls-chain-preserved-in-Assign-1
add_calls-chain-preserved-in-Assign-1 t c =
    let done = c.chain.calls.items in
    let after = c.add_target_calls.new.calls.items in
    let rest = backwards c.chain.later.items in
    let step = c.in-Assign in
    record {
      no_deeper = let x = sized-Assign step.target step.op step.value step.at in let d = ap size-Expr c.deref-part-in-Assign.ensures in let i = ap size-Expr step.is in let n = c.chain.invariant.no_deeper in grind arith;
      calls = ap (λ x. (after ++ calls c.args.names.now (tree_of x)) ++ rest) c.deref-part-in-Assign.ensures
          ∙ assign_more c.args.names.now rest done _ step.target step.op step.value step.at after c.in_ok-add_target_calls-in-Assign.ensures
          (ap (λ x. (done ++ calls c.args.names.now (tree_of x)) ++ rest) (sym step.is) ∙ c.chain.invariant.calls);
    }

pub add_calls-chain-preserved-in-Choice-1 : goal.add_calls-chain-preserved-in-Choice-1
add_calls-chain-preserved-in-Choice-1 t c =
    let done = c.chain.calls.items in
    let tested = c.add_calls.new.calls.items in
    let after = c.add_calls-in-Choice.new.calls.items in
    let rest = backwards c.chain.later.items in
    let step = c.in-Choice in
    record {
      no_deeper = omega (arith, c.chain.invariant.no_deeper, ap size-Expr c.deref-part-in-Choice.ensures, ap size-Expr step.is, sized-Choice step.test step.yes step.no step.at step.colon);
      calls = ap (λ x. (after ++ calls c.args.names.now (tree_of x)) ++ rest) c.deref-part-in-Choice.ensures
          ∙ choice_more c.args.names.now rest done _ step.test step.yes step.no step.at step.colon tested after
          (c.in_ok-add_calls-in-Choice.ensures ∙ ap (λ x. done ++ calls c.args.names.now (tree_of x)) c.deref-in-Choice.ensures)
          (c.in_ok-add_calls-in-Choice-2.ensures ∙ ap (λ x. tested ++ calls c.args.names.now (tree_of x)) c.deref-in-Choice-2.ensures)
          (ap (λ x. (done ++ calls c.args.names.now (tree_of x)) ++ rest) (sym step.is) ∙ c.chain.invariant.calls);
    }
