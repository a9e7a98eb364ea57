use Rattle.std.proofs.Common.{◌≡◌, ◌∙◌, ◌-◌, sym, ap, ◌++◌, ◌∷◌, [], append_assoc, arith}
use Rattle.std.proofs.lemmas.Result.{on_ok_weaker}
use Rattle.c_tree.specs.View.{tree_of, trees_of}
use Rattle.c_tree.specs.declared.expression.Expr.{size-Expr}
use Rattle.c_tree.specs.declared.expression.Expr.TheViews.{sized-Binary, sized-Comma, sized-Assign, sized-Choice, sized-Cast, sized-Unary}
use Rattle.c_tree.specs.declared.print.behind.Behind.TheVariants as b
use Rattle.c_tree.specs.Behind.{part_row, behind_row, call_row}
use Rattle.c_tree.specs.Grammar.{level_of, assign_level}
use Rattle.c_tree.specs.Rows.{expression_row, subscripts_row, infix_row, sign, word}
use Rattle.c_tree.proofs.BehindRows.{weight, deepest, deepest_more, closing_weight, taken, chain_opened, binary_in, comma_in, assign_in, choice_in, cast_in, unary_in, closed, own_bump, own_call, own_index, own_name, own_number}
use Rattle.c_tree.proofs.print.expression.+expression.Goals as goal
use Rattle.c_tree.proofs.print.expression.+expression.Goals.{push_expression-in-Bump+in_ok-push_bump-in-Bump, push_expression-in-Call+in_ok-push_call-in-Call, push_expression-in-Index+in_ok-push_element-in-Index, push_expression-in-Name+in_ok-push_word-in-Name, push_expression-in-Number+in_ok-push_number-in-Number}

pub push_behind-loop-part-preserved-in-Continue-1 : goal.push_behind-loop-part-preserved-in-Continue-1
push_behind-loop-part-preserved-in-Continue-1 t c =
    let popped = c.in-Some.ensures.items in
    record {
      no_deeper = omega (arith, c.loop-part.invariant.no_deeper, ap deepest popped, deepest_more c.pop.new.self.items c.in-Some.part);
      whole = taken _ _ _ c.in-Some.part c.loop-part.behind.items c.pop.new.self.items popped (c.in_ok-push_sign-in-Closing.ensures ∙ ap (λ p. c.loop-part.row.items ++ part_row p) (sym c.in-Closing.is)) c.loop-part.invariant.whole;
    }

pub push_behind-push_expression-requires : goal.push_behind-push_expression-requires
push_behind-push_expression-requires t c =
    let popped = c.in-Some.ensures.items in
    (omega (arith, c.decreases, c.loop-part.invariant.no_deeper, ap deepest popped, deepest_more c.pop.new.self.items c.in-Some.part, ap weight c.in-Operator.is), tt)

pub push_behind-loop-part-preserved-in-Continue-branch-3 : goal.push_behind-loop-part-preserved-in-Continue-branch-3
push_behind-loop-part-preserved-in-Continue-branch-3 t c =
    let popped = c.in-Some.ensures.items in
    let signed = c.in_ok-push_infix-in-Operator.ensures ∙ ap (λ s. c.loop-part.row.items ++ infix_row s) c.operator_sign.ensures in
    let level : c.saturating_sub.result ≡ level_of c.in-Operator.op - 1 = omega (arith, c.level_of.ensures, c.saturating_sub.ensures) in
    let whole = c.in_ok-push_expression-in-Operator.ensures ∙ ap (λ n. c.push_infix.new.row.items ++ expression_row n (tree_of c.in-Operator.right.now)) level
    ∙ ap (λ row. row ++ expression_row (level_of c.in-Operator.op - 1) (tree_of c.in-Operator.right.now)) signed ∙ append_assoc c.loop-part.row.items _ _ in
    record {
      no_deeper = omega (arith, c.loop-part.invariant.no_deeper, ap deepest popped, deepest_more c.pop.new.self.items c.in-Some.part);
      whole = taken _ _ _ c.in-Some.part c.loop-part.behind.items c.pop.new.self.items popped (whole ∙ ap (λ p. c.loop-part.row.items ++ part_row p) (sym c.in-Operator.is)) c.loop-part.invariant.whole;
    }

pub push_behind-push_expression-requires-in-Comma : goal.push_behind-push_expression-requires-in-Comma
push_behind-push_expression-requires-in-Comma t c =
    let popped = c.in-Some.ensures.items in
    (omega (arith, c.decreases, c.loop-part.invariant.no_deeper, ap deepest popped, deepest_more c.pop.new.self.items c.in-Some.part, ap weight c.in-Comma.is), tt)

pub push_behind-loop-part-preserved : goal.push_behind-loop-part-preserved
push_behind-loop-part-preserved t c =
    let popped = c.in-Some.ensures.items in
    let whole = c.in_ok-push_expression-in-Comma.ensures ∙ ap (λ row. row ++ expression_row assign_level (tree_of c.in-Comma.right.now)) c.in_ok-push_comma-in-Comma.ensures ∙ append_assoc c.loop-part.row.items _ _ in
    record {
      no_deeper = omega (arith, c.loop-part.invariant.no_deeper, ap deepest popped, deepest_more c.pop.new.self.items c.in-Some.part);
      whole = taken _ _ _ c.in-Some.part c.loop-part.behind.items c.pop.new.self.items popped (whole ∙ ap (λ p. c.loop-part.row.items ++ part_row p) (sym c.in-Comma.is)) c.loop-part.invariant.whole;
    }

pub push_expression-chain-preserved-in-Binary : goal.push_expression-chain-preserved-in-Binary
push_expression-chain-preserved-in-Binary t c =
    let opened = chain_opened (tree_of c.chain.part.now) c.chain.level c.own_level.result c.chain.row.items c.push_opening.new.row.items _ c.chain.behind.items c.push_opening.new.behind.items
    c.own_level.ensures c.in_ok-push_opening.ensures.row c.in_ok-push_opening.ensures.behind c.chain.invariant.whole in
    let wider : deepest c.push_opening.new.behind.items ≡ deepest c.chain.behind.items = ap deepest c.in_ok-push_opening.ensures.behind ∙ closing_weight c.chain.behind.items _ in
    let grown : c.push.new.self.items ≡ c.push_opening.new.behind.items ++ b.Operator c.in-Binary.op c.deref.result ∷ [] = grind arith in
    let sizes = sized-Binary c.in-Binary.op c.in-Binary.left c.in-Binary.right c.in-Binary.at in
    record {
      no_deeper = omega (arith, c.chain.invariant.no_deeper, ap size-Expr c.deref-part.ensures, ap size-Expr c.in-Binary.is, sizes);
      behind = omega (arith, c.chain.invariant.no_deeper, c.chain.invariant.behind, wider, ap deepest grown, deepest_more c.push_opening.new.behind.items (b.Operator c.in-Binary.op c.deref.result), ap size-Expr c.deref.ensures, ap size-Expr c.in-Binary.is, sizes);
      whole = binary_in _ _ _ c.chain.part.now opened c.in-Binary.op c.in-Binary.left c.in-Binary.right c.in-Binary.at _ c.deref-part.result.now c.deref.result _ c.in-Binary.is c.level_of-level.ensures c.deref-part.ensures c.deref.ensures grown;
    }

pub push_expression-chain-preserved-in-Comma : goal.push_expression-chain-preserved-in-Comma
push_expression-chain-preserved-in-Comma t c =
    let opened = chain_opened (tree_of c.chain.part.now) c.chain.level c.own_level.result c.chain.row.items c.push_opening.new.row.items _ c.chain.behind.items c.push_opening.new.behind.items
    c.own_level.ensures c.in_ok-push_opening.ensures.row c.in_ok-push_opening.ensures.behind c.chain.invariant.whole in
    let wider : deepest c.push_opening.new.behind.items ≡ deepest c.chain.behind.items = ap deepest c.in_ok-push_opening.ensures.behind ∙ closing_weight c.chain.behind.items _ in
    let grown : c.push-in-Comma.new.self.items ≡ c.push_opening.new.behind.items ++ b.Comma c.deref-in-Comma.result ∷ [] = grind arith in
    let sizes = sized-Comma c.in-Comma.left c.in-Comma.right c.in-Comma.at in
    record {
      no_deeper = omega (arith, c.chain.invariant.no_deeper, ap size-Expr c.deref-part-in-Comma.ensures, ap size-Expr c.in-Comma.is, sizes);
      behind = omega (arith, c.chain.invariant.no_deeper, c.chain.invariant.behind, wider, ap deepest grown, deepest_more c.push_opening.new.behind.items (b.Comma c.deref-in-Comma.result), ap size-Expr c.deref-in-Comma.ensures, ap size-Expr c.in-Comma.is, sizes);
      whole = comma_in _ _ _ c.chain.part.now opened c.in-Comma.left c.in-Comma.right c.in-Comma.at c.deref-part-in-Comma.result.now c.deref-in-Comma.result _ c.in-Comma.is c.deref-part-in-Comma.ensures c.deref-in-Comma.ensures grown;
    }

pub push_expression-chain-preserved-in-Assign : goal.push_expression-chain-preserved-in-Assign
push_expression-chain-preserved-in-Assign t c =
    let opened = chain_opened (tree_of c.chain.part.now) c.chain.level c.own_level.result c.chain.row.items c.push_opening.new.row.items _ c.chain.behind.items c.push_opening.new.behind.items
    c.own_level.ensures c.in_ok-push_opening.ensures.row c.in_ok-push_opening.ensures.behind c.chain.invariant.whole in
    let wider : deepest c.push_opening.new.behind.items ≡ deepest c.chain.behind.items = ap deepest c.in_ok-push_opening.ensures.behind ∙ closing_weight c.chain.behind.items _ in
    let sizes = sized-Assign c.in-Assign.target c.in-Assign.op c.in-Assign.value c.in-Assign.at in
    record {
      no_deeper = let d = ap size-Expr c.deref-part-in-Assign.ensures in let i = ap size-Expr c.in-Assign.is in let n = c.chain.invariant.no_deeper in grind arith;
      behind = omega (arith, c.chain.invariant.behind, wider);
      whole = assign_in _ _ c.push_opening.new.behind.items c.chain.part.now opened c.in-Assign.target c.in-Assign.op c.in-Assign.value c.in-Assign.at c.deref-part-in-Assign.result.now c.push_target.new.row.items _ c.in-Assign.is c.deref-part-in-Assign.ensures c.in_ok-push_target-in-Assign.ensures
          (c.in_ok-push_infix-in-Assign.ensures ∙ ap (λ s. c.push_target.new.row.items ++ infix_row s) c.assignment_sign.ensures);
    }

pub push_expression-chain-preserved-in-Choice : goal.push_expression-chain-preserved-in-Choice
push_expression-chain-preserved-in-Choice t c =
    let opened = chain_opened (tree_of c.chain.part.now) c.chain.level c.own_level.result c.chain.row.items c.push_opening.new.row.items _ c.chain.behind.items c.push_opening.new.behind.items
    c.own_level.ensures c.in_ok-push_opening.ensures.row c.in_ok-push_opening.ensures.behind c.chain.invariant.whole in
    let wider : deepest c.push_opening.new.behind.items ≡ deepest c.chain.behind.items = ap deepest c.in_ok-push_opening.ensures.behind ∙ closing_weight c.chain.behind.items _ in
    let sizes = sized-Choice c.in-Choice.test c.in-Choice.yes c.in-Choice.no c.in-Choice.at c.in-Choice.colon in
    record {
      no_deeper = omega (arith, c.chain.invariant.no_deeper, ap size-Expr c.deref-part-in-Choice.ensures, ap size-Expr c.in-Choice.is, sizes);
      behind = omega (arith, c.chain.invariant.behind, wider);
      whole = choice_in _ _ c.push_opening.new.behind.items c.chain.part.now opened c.in-Choice.test c.in-Choice.yes c.in-Choice.no c.in-Choice.at c.in-Choice.colon c.deref-in-Choice.result.now c.deref-in-Choice-2.result.now c.deref-part-in-Choice.result.now _ c.in-Choice.is
          c.deref-in-Choice.ensures c.deref-in-Choice-2.ensures c.deref-part-in-Choice.ensures c.in_ok-push_branch-in-Choice.ensures;
    }

pub push_expression-chain-preserved-in-Cast : goal.push_expression-chain-preserved-in-Cast
push_expression-chain-preserved-in-Cast t c =
    let opened = chain_opened (tree_of c.chain.part.now) c.chain.level c.own_level.result c.chain.row.items c.push_opening.new.row.items _ c.chain.behind.items c.push_opening.new.behind.items
    c.own_level.ensures c.in_ok-push_opening.ensures.row c.in_ok-push_opening.ensures.behind c.chain.invariant.whole in
    let wider : deepest c.push_opening.new.behind.items ≡ deepest c.chain.behind.items = ap deepest c.in_ok-push_opening.ensures.behind ∙ closing_weight c.chain.behind.items _ in
    let sizes = sized-Cast c.in-Cast.to c.in-Cast.arg c.in-Cast.at in
    record {
      no_deeper = omega (arith, c.chain.invariant.no_deeper, ap size-Expr c.deref-part-in-Cast.ensures, ap size-Expr c.in-Cast.is, sizes);
      behind = omega (arith, c.chain.invariant.behind, wider);
      whole = cast_in _ _ c.push_opening.new.behind.items c.chain.part.now opened c.in-Cast.to c.in-Cast.arg c.in-Cast.at c.deref-part-in-Cast.result.now _ c.in-Cast.is c.deref-part-in-Cast.ensures c.in_ok-push_cast-in-Cast.ensures;
    }

pub push_expression-chain-preserved : goal.push_expression-chain-preserved
push_expression-chain-preserved t c =
    let opened = chain_opened (tree_of c.chain.part.now) c.chain.level c.own_level.result c.chain.row.items c.push_opening.new.row.items _ c.chain.behind.items c.push_opening.new.behind.items
    c.own_level.ensures c.in_ok-push_opening.ensures.row c.in_ok-push_opening.ensures.behind c.chain.invariant.whole in
    let wider : deepest c.push_opening.new.behind.items ≡ deepest c.chain.behind.items = ap deepest c.in_ok-push_opening.ensures.behind ∙ closing_weight c.chain.behind.items _ in
    let sizes = sized-Unary c.in-Unary.op c.in-Unary.arg c.in-Unary.at in
    record {
      no_deeper = omega (arith, c.chain.invariant.no_deeper, ap size-Expr c.deref-part-in-Unary.ensures, ap size-Expr c.in-Unary.is, sizes);
      behind = omega (arith, c.chain.invariant.behind, wider);
      whole = unary_in _ _ c.push_opening.new.behind.items c.chain.part.now opened c.in-Unary.op c.in-Unary.arg c.in-Unary.at c.deref-part-in-Unary.result.now _ c.in-Unary.is c.deref-part-in-Unary.ensures
          (c.in_ok-push_sign-in-Unary.ensures ∙ ap (λ s. c.push_opening.new.row.items ++ sign s ∷ []) c.prefix_sign.ensures);
    }

pub push_expression-push_behind-requires : goal.push_expression-push_behind-requires
push_expression-push_behind-requires t c =
    let wider : deepest c.push_opening.new.behind.items ≡ deepest c.chain.behind.items = ap deepest c.in_ok-push_opening.ensures.behind ∙ closing_weight c.chain.behind.items _ in
    (omega (arith, c.decreases, wider, c.chain.invariant.behind), tt)

pub push_expression-returns : goal.push_expression-returns
push_expression-returns t c =
    let opened = chain_opened (tree_of c.chain.part.now) c.chain.level c.own_level.result c.chain.row.items c.push_opening.new.row.items _ c.chain.behind.items c.push_opening.new.behind.items
    c.own_level.ensures c.in_ok-push_opening.ensures.row c.in_ok-push_opening.ensures.behind c.chain.invariant.whole in
    let done : c.match-part.row.items ++ behind_row c.push_opening.new.behind.items ≡ c.args.row.now.items ++ expression_row c.args.level (tree_of c.args.e.now) = elim c.match-part.branch [
      | push_expression-in-Bump+in_ok-push_bump-in-Bump w ↦ closed _ _ c.push_opening.new.behind.items c.chain.part.now opened c.match-part.row.items _ (ap (λ v. v.items) w.row-is ∙ w.in_ok-push_bump-in-Bump.ensures) (own_bump c.chain.part.now w.in-Bump.target w.in-Bump.up w.in-Bump.post w.in-Bump.at w.in-Bump.is)
      | push_expression-in-Call+in_ok-push_call-in-Call w ↦ closed _ _ c.push_opening.new.behind.items c.chain.part.now opened c.match-part.row.items _ (ap (λ v. v.items) w.row-is ∙ w.in_ok-push_call-in-Call.ensures)
          (own_call c.chain.part.now w.in-Call.callee w.in-Call.args w.in-Call.at w.in-Call.is ∙ ap (λ es. call_row w.in-Call.callee (trees_of es)) (sym w.deref-in-Call.ensures.value))
      | push_expression-in-Index+in_ok-push_element-in-Index w ↦ closed _ _ c.push_opening.new.behind.items c.chain.part.now opened c.match-part.row.items _ (ap (λ v. v.items) w.row-is ∙ w.in_ok-push_element-in-Index.ensures)
          (own_index c.chain.part.now w.in-Index.array w.in-Index.subscripts w.in-Index.at w.in-Index.is ∙ ap (λ es. word w.in-Index.array ∷ subscripts_row (trees_of es)) (sym w.deref-in-Index.ensures.value))
      | push_expression-in-Name+in_ok-push_word-in-Name w ↦ closed _ _ c.push_opening.new.behind.items c.chain.part.now opened c.match-part.row.items _ (ap (λ v. v.items) w.row-is ∙ w.in_ok-push_word-in-Name.ensures)
          (own_name c.chain.part.now w.in-Name.name w.in-Name.at w.in-Name.is ∙ ap (λ text. word text ∷ []) (sym w.items.ensures))
      | push_expression-in-Number+in_ok-push_number-in-Number w ↦ closed _ _ c.push_opening.new.behind.items c.chain.part.now opened c.match-part.row.items _ (ap (λ v. v.items) w.row-is ∙ w.in_ok-push_number-in-Number.ensures)
          (own_number c.chain.part.now w.in-Number.value w.in-Number.kind w.in-Number.at w.in-Number.is)
    ] in
    on_ok_weaker c.push_behind.result (λ is. is ∙ done) c.push_behind.ensures
