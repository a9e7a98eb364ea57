use Rattle.std.proofs.Common.{◌≡◌, true, false, [], ◌∷◌, ◌++◌, sym, ap, ◌∙◌, arith}
use Rattle.c_tree.specs.declared.expression.Expr.{size-Expr}
use Rattle.c_tree.specs.declared.expression.Expr.TheViews.{sized-Binary, sized-Comma, sized-Assign}
use Rattle.c_tree.specs.View.{tree_of}
use Rattle.c_meaning.specs.Checks.Faults.{least}
use Rattle.c_meaning.specs.Checks.Conflicts.{accesses}
use Rattle.c_meaning.specs.Checks.Expressions.{expression_faults}
use Rattle.c_types.specs.declared.steps.Step.TheVariants as s
use Rattle.c_types.specs.Chains.{found_of, steps}
use Rattle.c_types.proofs.Chains.{binary_more, comma_more, assign_more}
use Rattle.c_types.proofs.Operands.{operands_more, conflicts_more, accesses_more}
use Rattle.c_types.proofs.expressions.+expression.Goals as goal

pub all_operands-loop-i-preserved : goal.all_operands-loop-i-preserved
all_operands-loop-i-preserved t c =
    let bodies = c.args.bodies.now in
    let names = c.args.names.now in
    let params = c.args.params.now in
    let es = c.args.es.now in
    let lt = c.loop-i-test.true in
    let is = c.index-es-i.is in
    let before = c.loop-i.before in
    let own = c.in_ok-judged.judged.accesses in
    let since = c.in_ok-before.ensures in
    let apart = c.between.ensures in
    record {
      faults = operands_more bodies names params es c.loop-i.i c.index-es-i.result lt is _ _ _ _ _ c.in_ok-judged.ensures.fault c.operand_fault-own.ensures c.lesser-fault.ensures c.loop-i.invariant.faults;
      conflicts = conflicts_more bodies names params es c.loop-i.i c.index-es-i.result lt is before _ own _ _ _ _ c.in_ok-judged.ensures.accesses since apart c.lesser-conflict.ensures c.loop-i.invariant.conflicts;
      accesses = accesses_more bodies names params es c.loop-i.i c.index-es-i.result lt is before _ own _ c.in_ok-judged.ensures.accesses since c.loop-i.invariant.accesses;
    }

pub expression-chain-preserved-in-Binary-1 : goal.expression-chain-preserved-in-Binary-1
expression-chain-preserved-in-Binary-1 t c =
    let bodies = c.args.bodies.now in
    let names = c.args.names.now in
    let before = c.chain.steps.items in
    let after = c.push.new.self.items in
    let right = c.in_ok-right-in-Binary.right in
    let grown : after ≡ before ++ s.Binary c.in-Binary.op right ∷ [] = grind arith in
    record {
      no_deeper = omega (arith, c.chain.invariant.no_deeper, ap size-Expr c.deref-part.ensures, ap size-Expr c.in-Binary.is, sized-Binary c.in-Binary.op c.in-Binary.left c.in-Binary.right c.in-Binary.at);
      whole = ap (λ x. steps after (found_of true bodies names (tree_of x))) c.deref-part.ensures
          ∙ binary_more bodies names c.chain.used before after _ c.in-Binary.op c.in-Binary.left c.in-Binary.right c.in-Binary.at right
          (c.in_ok-right-in-Binary.ensures.fault ∙ ap (λ x. least (expression_faults true bodies names (tree_of x))) c.deref.ensures)
          (c.in_ok-right-in-Binary.ensures.accesses ∙ ap (λ x. accesses names (tree_of x)) c.deref.ensures)
          grown
          (ap (λ x. steps before (found_of c.chain.used bodies names (tree_of x))) (sym c.in-Binary.is) ∙ c.chain.invariant.whole);
    }

pub expression-chain-preserved-in-Comma-1 : goal.expression-chain-preserved-in-Comma-1
expression-chain-preserved-in-Comma-1 t c =
    let bodies = c.args.bodies.now in
    let names = c.args.names.now in
    let before = c.chain.steps.items in
    let after = c.push-in-Comma.new.self.items in
    let right = c.in_ok-right-in-Comma.right in
    let grown : after ≡ before ++ s.Comma right ∷ [] = grind arith in
    record {
      no_deeper = omega (arith, c.chain.invariant.no_deeper, ap size-Expr c.deref-part-in-Comma.ensures, ap size-Expr c.in-Comma.is, sized-Comma c.in-Comma.left c.in-Comma.right c.in-Comma.at);
      whole = ap (λ x. steps after (found_of false bodies names (tree_of x))) c.deref-part-in-Comma.ensures
          ∙ comma_more bodies names c.chain.used before after _ c.in-Comma.left c.in-Comma.right c.in-Comma.at right
          (c.in_ok-right-in-Comma.ensures.fault ∙ ap (λ x. least (expression_faults true bodies names (tree_of x))) c.deref-in-Comma.ensures)
          (c.in_ok-right-in-Comma.ensures.accesses ∙ ap (λ x. accesses names (tree_of x)) c.deref-in-Comma.ensures)
          grown
          (ap (λ x. steps before (found_of c.chain.used bodies names (tree_of x))) (sym c.in-Comma.is) ∙ c.chain.invariant.whole);
    }

pub expression-chain-preserved-in-Assign-1 : goal.expression-chain-preserved-in-Assign-1
expression-chain-preserved-in-Assign-1 t c =
    let bodies = c.args.bodies.now in
    let names = c.args.names.now in
    let before = c.chain.steps.items in
    let after = c.push-in-Assign.new.self.items in
    let target = c.in_ok-target-in-Assign.target in
    let grown : after ≡ before ++ s.Assign target ∷ [] = grind arith in
    record {
      no_deeper = let x = sized-Assign c.in-Assign.target c.in-Assign.op c.in-Assign.value c.in-Assign.at in let d = ap size-Expr c.deref-part-in-Assign.ensures in let i = ap size-Expr c.in-Assign.is in let n = c.chain.invariant.no_deeper in grind arith;
      whole = ap (λ x. steps after (found_of true bodies names (tree_of x))) c.deref-part-in-Assign.ensures
          ∙ assign_more bodies names c.chain.used before after _ c.in-Assign.target c.in-Assign.op c.in-Assign.value c.in-Assign.at target
          c.in_ok-target-in-Assign.ensures.used c.in_ok-target-in-Assign.ensures.conflict c.in_ok-target-in-Assign.ensures.inside
          c.in_ok-target-in-Assign.ensures.fault c.in_ok-target-in-Assign.ensures.own c.in_ok-target-in-Assign.ensures.subscripts
          grown
          (ap (λ x. steps before (found_of c.chain.used bodies names (tree_of x))) (sym c.in-Assign.is) ∙ c.chain.invariant.whole);
    }
