use Rattle.std.proofs.Common.{◌≡◌, ◌≢◌, ◌∙◌, sym, ap, refl, rules, arith, length, map, append-nil, ◌++◌, ◌∷◌, []}
use Rattle.std.proofs.lemmas.Result.{IfOk-weaker}
use Rattle.c_token.specs.declared.punct.Punct.TheVariants as p
use Rattle.c_tree.specs.Terminals.{is_keyword}
use Rattle.c_tree.specs.View.{tree_of}
use Rattle.c_parser.specs.Cursor.Types.{opens_cast}
use Rattle.c_parser.specs.Chains.{all_assigned}
use Rattle.c_parser.specs.declared.chain.Assigned.{Assigned}
use Rattle.c_parser.proofs.CursorLemmas.Exits.{IfAbsent-weaker, through}
use Rattle.c_parser.proofs.CursorLemmas.Readings.{step_none, step_more, step_found, step_never, tail_found, tail_absent, then_found, then_stuck, then_never, apart_found, apart_stuck, apart_never, grows_more, grows_last, grows_never, listed_more, listed_never, listed_closed, listed_unclosed, pushed, sign_apart, repeated_more, repeated_never, sign_found}
use Rattle.c_parser.proofs.Chains.{Groups, chain_first, chain_first_never, chain_more, chain_never, chain_last, assigned_last}
use Rattle.c_parser.proofs.Operands.{number_found, keyword_never, sign_never_here, named_step, group_step, call_step, alone_step, target_found, target_absent, target_never, bump_found, bump_absent, bump_none, postfix_never, prefix_step, bump_step, cast_step, bare_step, chosen_step, unchosen_found, either_never, set_step, set_absent, unset_found, setting_never, closes_apart}
use Rattle.c_parser.proofs.Subscripts.{arguments_step, no_arguments, signs_step, no_stop, subscripts_end, subscripts_apart, comma_ends, paren_ends, paren_no_comma}
use Rattle.c_parser.proofs.expression.+expression.Goals as goal

-- ---- arguments
pub argument_list-returns-in_err-arg-clause-absent : goal.argument_list-returns-in_err-arg-clause-absent
argument_list-returns-in_err-arg-clause-absent t c = through _ c.in_err-arg.field-0.0 _ _ c.from_residual.ensures.1 (λ y e. e) c.in_err-arg.ensures.absent
    (λ n. grows_never _ _ _ c.loop-args.invariant.grows (listed_never p.RightParen paren_no_comma comma_ends paren_ends _ n))

pub argument_list-loop-args-preserved : goal.argument_list-loop-args-preserved
argument_list-loop-args-preserved t c = let x = c.if-not-eat.ensures in record {
  shorter = omega (arith, c.loop-args.invariant.shorter, c.in_ok-arg.ensures.shorter, ap length x.1);
  grows = grows_more _ _ _ _ _ _ (ap (map tree_of) c.in_ok-push.ensures.items ∙ pushed tree_of _ _) c.loop-args.invariant.grows
      (listed_more p.RightParen paren_no_comma comma_ends paren_ends _ _ _ _ x.0 c.in_ok-arg.ensures.found x.1);
}

pub argument_list-returns-in_err-expect-clause-absent : goal.argument_list-returns-in_err-expect-clause-absent
argument_list-returns-in_err-expect-clause-absent t c = let x = c.if-not-eat.ensures in
    through _ c.in_err-expect.field-0.0 _ _ c.from_residual-in_err-expect.ensures.1 (λ y e. e) c.in_err-expect.ensures.absent
    (λ n. grows_never _ _ _ c.loop-args.invariant.grows (listed_unclosed p.RightParen paren_no_comma comma_ends paren_ends _ _ _ _ c.in_ok-arg.ensures.found x.0 x.1 n))

pub argument_list-returns-clause-found : goal.argument_list-returns-clause-found
argument_list-returns-clause-found t c = let x = c.if-not-eat.ensures in
    grows_last _ _ _ _ _ _ (ap (map tree_of) c.in_ok-push.ensures.items ∙ pushed tree_of _ _) c.loop-args.invariant.grows
    (listed_closed p.RightParen paren_no_comma comma_ends paren_ends _ _ _ _ _ _ c.in_ok-arg.ensures.found x.0 c.in_ok-expect.ensures.found)

pub arguments-returns-then-eat-clause-found : goal.arguments-returns-then-eat-clause-found
arguments-returns-then-eat-clause-found t c = let x = c.if-eat.ensures in no_arguments _ _ x.0 _ (ap (map tree_of) c.new.ensures.items) x.1

pub arguments-returns-clause-found : goal.arguments-returns-clause-found
arguments-returns-clause-found t c = let x = c.if-eat.ensures in
    tail_found (λ args. map tree_of args.items) _ _ _ _ (arguments_step _ _ x.0 x.1) c.argument_list.ensures.found

pub arguments-returns-clause-absent : goal.arguments-returns-clause-absent
arguments-returns-clause-absent t c = let x = c.if-eat.ensures in
    tail_absent _ _ _ (arguments_step _ _ x.0 x.1) c.argument_list.ensures.absent

-- ---- assignment
pub assignment-chain-init : goal.assignment-chain-init
assignment-chain-init t c = record {
  shorter = omega arith;
  step = step_none _ _ refl (λ value. ap (λ chain. all_assigned chain value) c.new-chain.ensures.items);
}

pub assignment-returns-in_err-left-clause-absent : goal.assignment-returns-in_err-left-clause-absent
assignment-returns-in_err-left-clause-absent t c =
    through _ c.in_err-left.field-0.0 _ _ c.from_residual.ensures.1 (λ y e. e) c.in_err-left.ensures.absent (λ n. step_never _ _ c.chain.invariant.step (setting_never _ n))

pub assignment-returns-in_default-clause-found : goal.assignment-returns-in_default-clause-found
assignment-returns-in_default-clause-found t c = let o = c.in_default.ensures in
    step_found _ _ _ _ _ c.in_ok-assign_all.ensures c.chain.invariant.step (unset_found _ _ _ _ o.0 c.in_ok-left.ensures.found o.1)

pub assignment-returns-in_err-target-clause-absent : goal.assignment-returns-in_err-target-clause-absent
assignment-returns-in_err-target-clause-absent t c = let o = c.in-Some.ensures in
    through _ c.in_err-target.field-0.0 _ _ c.from_residual-in_err-target.ensures.1 (λ y e. e) c.in_err-target.ensures.absent
    (λ n. step_never _ _ c.chain.invariant.step (set_absent _ _ _ _ _ o.0 _ _ c.opens_paren-grouped.ensures c.in_ok-left.ensures.found o.1 o.2 n))

pub assignment-chain-preserved : goal.assignment-chain-preserved
assignment-chain-preserved t c = let o = c.in-Some.ensures in
    let one : Assigned = record { target = c.in_ok-target.target; op = c.in-Some.op; at = c.in-Some.at } in
    let grown : c.push.new.self.items ≡ c.chain.chain.items ++ one ∷ [] = grind arith in
    record {
      shorter = omega (arith, c.chain.invariant.shorter, c.in_ok-left.ensures.shorter, ap length o.1);
      step = step_more _ _ _ (λ value. ap (λ chain. all_assigned chain value) grown ∙ assigned_last c.chain.chain.items one value) c.chain.invariant.step
          (set_step _ _ _ _ _ o.0 _ _ _ c.opens_paren-grouped.ensures c.in_ok-left.ensures.found o.1 o.2 c.in_ok-target.ensures.found);
    }

-- ---- cast
pub cast-returns-in_err-to-clause-absent : goal.cast-returns-in_err-to-clause-absent
cast-returns-in_err-to-clause-absent t c = through _ c.in_err-to.field-0.0 _ _ c.from_residual.ensures.1 (λ y e. e) c.in_err-to.ensures.absent (λ n. then_never _ n)

pub cast-returns-in_err-arg-clause-absent : goal.cast-returns-in_err-arg-clause-absent
cast-returns-in_err-arg-clause-absent t c =
    through _ c.in_err-arg.field-0.0 _ _ c.from_residual-in_err-arg.ensures.1 (λ y e. e) c.in_err-arg.ensures.absent (λ n. then_stuck _ _ _ c.in_ok-to.ensures.found n)

pub cast-returns-clause-found : goal.cast-returns-clause-found
cast-returns-clause-found t c = then_found _ _ _ _ _ _ c.in_ok-cast.ensures c.in_ok-to.ensures.found c.in_ok-arg.ensures.found

-- ---- choice
pub choice-returns-in_err-test-clause-absent : goal.choice-returns-in_err-test-clause-absent
choice-returns-in_err-test-clause-absent t c = through _ c.in_err-test.field-0.0 _ _ c.from_residual.ensures.1 (λ y e. e) c.in_err-test.ensures.absent (λ n. either_never _ n)

pub choice-returns-in-Some-clause-found : goal.choice-returns-in-Some-clause-found
choice-returns-in-Some-clause-found t c =
    tail_found tree_of _ _ _ _ (chosen_step _ _ _ _ _ c.in_ok-test.ensures.found c.in-Some.ensures) c.chosen.ensures.found

pub choice-returns-in-Some-clause-absent : goal.choice-returns-in-Some-clause-absent
choice-returns-in-Some-clause-absent t c =
    tail_absent _ _ _ (chosen_step _ _ _ _ _ c.in_ok-test.ensures.found c.in-Some.ensures) c.chosen.ensures.absent

pub choice-returns-in-None-clause-found : goal.choice-returns-in-None-clause-found
choice-returns-in-None-clause-found t c = let o = c.in-None.ensures in unchosen_found _ _ _ _ o.0 o.1 c.in_ok-test.ensures.found

pub chosen-returns-in_err-yes-clause-absent : goal.chosen-returns-in_err-yes-clause-absent
chosen-returns-in_err-yes-clause-absent t c =
    through _ c.in_err-yes.field-0.0 _ _ c.from_residual.ensures.1 (λ y e. e) c.in_err-yes.ensures.absent (λ n. apart_never _ (sign_apart 15 p.Colon (omega arith) _ _) n)

pub chosen-returns-in_err-colon-clause-absent : goal.chosen-returns-in_err-colon-clause-absent
chosen-returns-in_err-colon-clause-absent t c =
    through _ c.in_err-colon.field-0.0 _ _ c.from_residual-in_err-colon.ensures.1 (λ y e. e) c.in_err-colon.ensures.absent
    (λ n. apart_stuck _ _ _ (sign_apart 15 p.Colon (omega arith) _ _) c.in_ok-yes.ensures.found (then_never _ n))

pub chosen-returns-in_err-no-clause-absent : goal.chosen-returns-in_err-no-clause-absent
chosen-returns-in_err-no-clause-absent t c =
    through _ c.in_err-no.field-0.0 _ _ c.from_residual-in_err-no.ensures.1 (λ y e. e) c.in_err-no.ensures.absent
    (λ n. apart_stuck _ _ _ (sign_apart 15 p.Colon (omega arith) _ _) c.in_ok-yes.ensures.found (then_stuck _ _ _ c.in_ok-colon.ensures.found n))

pub chosen-returns-clause-found : goal.chosen-returns-clause-found
chosen-returns-clause-found t c =
    apart_found _ _ _ _ _ _ (sign_apart 15 p.Colon (omega arith) _ _) refl c.in_ok-yes.ensures.found (then_found _ _ _ _ _ _ c.in_ok-choice.ensures c.in_ok-colon.ensures.found c.in_ok-no.ensures.found)

-- ---- closed
pub closed-returns-in_err-e-clause-absent : goal.closed-returns-in_err-e-clause-absent
closed-returns-in_err-e-clause-absent t c =
    through _ c.in_err-e.field-0.0 _ _ c.from_residual.ensures.1 (λ y e. e) c.in_err-e.ensures.absent (λ n. apart_never _ (closes_apart _ _ c.requires) n)

pub closed-returns-in_err-expect-clause-absent : goal.closed-returns-in_err-expect-clause-absent
closed-returns-in_err-expect-clause-absent t c =
    through _ c.in_err-expect.field-0.0 _ _ c.from_residual-in_err-expect.ensures.1 (λ y e. e) c.in_err-expect.ensures.absent
    (λ n. apart_stuck _ _ _ (closes_apart _ _ c.requires) c.in_ok-e.ensures.found n)

pub closed-returns-clause-found : goal.closed-returns-clause-found
closed-returns-clause-found t c = apart_found _ _ _ _ _ _ (closes_apart _ _ c.requires) refl c.in_ok-e.ensures.found c.in_ok-expect.ensures.found

-- ---- expression
pub expression-returns-in_err-left-clause-absent : goal.expression-returns-in_err-left-clause-absent
expression-returns-in_err-left-clause-absent t c =
    let g : Groups c.args.level = (omega arith, λ e. omega arith, λ e. omega arith) in
    through _ c.in_err-left.field-0.0 _ _ c.from_residual.ensures.1 (λ y e. e) c.in_err-left.ensures.absent (λ n. chain_first_never _ _ g n)

pub expression-loop-joiner-init : goal.expression-loop-joiner-init
expression-loop-joiner-init t c =
    let g : Groups c.args.level = (omega arith, λ e. omega arith, λ e. omega arith) in
    record { shorter = omega (arith, c.in_ok-left.ensures.shorter); runs = chain_first _ _ _ _ g c.in_ok-left.ensures.found }

pub expression-returns-in_err-right-clause-absent : goal.expression-returns-in_err-right-clause-absent
expression-returns-in_err-right-clause-absent t c =
    let g : Groups c.args.level = (omega arith, λ e. omega arith, λ e. omega arith) in
    let o = c.in-Some.ensures in
    through _ c.in_err-right.field-0.0 _ _ c.from_residual-in_err-right.ensures.1 (λ y e. e) c.in_err-right.ensures.absent
    (λ n. chain_never _ _ _ _ _ o.0 _ _ g c.loop-joiner.invariant.runs o.1 o.2 o.3 n)

pub expression-loop-joiner-preserved : goal.expression-loop-joiner-preserved
expression-loop-joiner-preserved t c =
    let g : Groups c.args.level = (omega arith, λ e. omega arith, λ e. omega arith) in
    let o = c.in-Some.ensures in record {
      shorter = omega (arith, c.loop-joiner.invariant.shorter, c.in_ok-right.ensures.shorter, ap length o.1);
      runs = chain_more _ _ _ _ _ _ _ _ o.0 _ _ g c.in_ok-left-2.ensures c.loop-joiner.invariant.runs o.1 o.2 o.3 c.in_ok-right.ensures.found;
    }

pub expression-returns-clause-found : goal.expression-returns-clause-found
expression-returns-clause-found t c =
    let g : Groups c.args.level = (omega arith, λ e. omega arith, λ e. omega arith) in
    let o = c.in_default.ensures in
    chain_last _ _ _ _ _ g o.0 c.loop-joiner.invariant.runs o.1

-- ---- names
pub named-returns-in_err-args-clause-absent : goal.named-returns-in_err-args-clause-absent
named-returns-in_err-args-clause-absent t c = let x = c.if-eat.ensures in
    through _ c.in_err-args.field-0.0 _ _ c.from_residual-in_err-args.ensures.1 (λ y e. e) c.in_err-args.ensures.absent (λ n. step_never _ _ (call_step _ _ _ _ _ x.1) n)

pub named-returns-then-eat-clause-found : goal.named-returns-then-eat-clause-found
named-returns-then-eat-clause-found t c = let x = c.if-eat.ensures in
    step_found _ _ _ _ _ (rw c.in_ok-name.ensures at c.call.ensures) (call_step _ _ _ _ _ x.1) c.in_ok-args.ensures.found

pub named-returns-in_err-subscripts-clause-absent : goal.named-returns-in_err-subscripts-clause-absent
named-returns-in_err-subscripts-clause-absent t c = let x = c.if-eat.ensures in
    through _ c.in_err-subscripts.field-0.0 _ _ c.from_residual-in_err-subscripts.ensures.1 (λ y e. e) c.in_err-subscripts.ensures.absent (λ n. step_never _ _ (alone_step _ _ _ _ x.0 x.1) n)

pub named-returns-clause-found : goal.named-returns-clause-found
named-returns-clause-found t c = let x = c.if-eat.ensures in
    step_found _ _ _ _ _ (rw c.in_ok-name.ensures at c.element.ensures) (alone_step _ _ _ _ x.0 x.1) c.in_ok-subscripts.ensures.found

-- ---- postfix
pub postfix-returns-in_err-e-clause-absent : goal.postfix-returns-in_err-e-clause-absent
postfix-returns-in_err-e-clause-absent t c = through _ c.in_err-e.field-0.0 _ _ c.from_residual.ensures.1 (λ y e. e) c.in_err-e.ensures.absent (λ n. postfix_never _ n)

pub postfix-returns-in_default-clause-found : goal.postfix-returns-in_default-clause-found
postfix-returns-in_default-clause-found t c = let o = c.in_default.ensures in bump_none _ _ _ _ o.0 c.in_ok-e.ensures.found o.1

pub postfix-returns-in_err-target-clause-absent : goal.postfix-returns-in_err-target-clause-absent
postfix-returns-in_err-target-clause-absent t c = let o = c.in-Some.ensures in
    through _ c.in_err-target.field-0.0 _ _ c.from_residual-in_err-target.ensures.1 (λ y e. e) c.in_err-target.ensures.absent
    (λ n. bump_absent _ _ _ _ _ o.0 _ _ c.opens_paren-grouped.ensures c.in_ok-e.ensures.found o.1 o.2 n)

pub postfix-returns-clause-found : goal.postfix-returns-clause-found
postfix-returns-clause-found t c = let o = c.in-Some.ensures in
    bump_found _ _ _ _ _ o.0 _ _ _ _ c.opens_paren-grouped.ensures c.in_ok-e.ensures.found o.1 o.2 c.in_ok-target.ensures.found c.bump_behind.ensures

-- ---- primary
pub primary-returns-then-is_keyword-clause-absent : goal.primary-returns-then-is_keyword-clause-absent
primary-returns-then-is_keyword-clause-absent t c =
    keyword_never _ _ _ _ c.in-Some.ensures c.in-Word.is (ap is_keyword (sym c.items.ensures) ∙ sym c.is_keyword.ensures ∙ c.if-is_keyword.true)

pub primary-returns-then-ne-clause-absent : goal.primary-returns-then-ne-clause-absent
primary-returns-then-ne-clause-absent t c = let other : c.in-Punct.punct ≢ p.LeftParen = search rules in sign_never_here _ _ _ _ c.in-Some.ensures c.in-Punct.is other

pub primary-returns-in-Number-clause-found : goal.primary-returns-in-Number-clause-found
primary-returns-in-Number-clause-found t c = number_found _ _ _ _ _ _ c.in-Some.ensures c.in-Number.is c.number.ensures

pub primary-returns-else-is_keyword-clause-found : goal.primary-returns-else-is_keyword-clause-found
primary-returns-else-is_keyword-clause-found t c =
    tail_found tree_of _ _ _ _ (named_step _ _ _ _ c.in-Some.ensures c.in-Word.is (ap is_keyword (sym c.items.ensures) ∙ sym c.is_keyword.ensures ∙ c.if-is_keyword.false)) c.named.ensures.found

pub primary-returns-else-is_keyword-clause-absent : goal.primary-returns-else-is_keyword-clause-absent
primary-returns-else-is_keyword-clause-absent t c =
    tail_absent _ _ _ (named_step _ _ _ _ c.in-Some.ensures c.in-Word.is (ap is_keyword (sym c.items.ensures) ∙ sym c.is_keyword.ensures ∙ c.if-is_keyword.false)) c.named.ensures.absent

pub primary-returns-else-ne-clause-found : goal.primary-returns-else-ne-clause-found
primary-returns-else-ne-clause-found t c =
    let paren : c.in-Punct.punct ≡ p.LeftParen = search rules in
    tail_found tree_of _ _ _ _ (group_step _ _ _ _ c.in-Some.ensures c.in-Punct.is paren) c.closed.ensures.found

pub primary-returns-else-ne-clause-absent : goal.primary-returns-else-ne-clause-absent
primary-returns-else-ne-clause-absent t c =
    let paren : c.in-Punct.punct ≡ p.LeftParen = search rules in
    tail_absent _ _ _ (group_step _ _ _ _ c.in-Some.ensures c.in-Punct.is paren) c.closed.ensures.absent

-- ---- subscripts
pub subscripts-returns-in_err-e-clause-absent : goal.subscripts-returns-in_err-e-clause-absent
subscripts-returns-in_err-e-clause-absent t c = let o = c.loop-alloc-test.ensures in
    through _ c.in_err-e.field-0.0 _ _ c.from_residual.ensures.1 (λ y e. e) c.in_err-e.ensures.absent
    (λ n. step_never _ _ (signs_step _) (grows_never _ _ _ c.loop-alloc.invariant.grows (repeated_never subscripts_apart _ (no_stop _ _ _ o.1) (then_stuck _ _ _ (sign_found _ _ _ _ o.1) n))))

pub subscripts-loop-alloc-preserved : goal.subscripts-loop-alloc-preserved
subscripts-loop-alloc-preserved t c = let o = c.loop-alloc-test.ensures in record {
  shorter = omega (arith, c.loop-alloc.invariant.shorter, c.in_ok-e.ensures.shorter, ap length o.1);
  grows = grows_more _ _ _ _ _ _ (ap (map tree_of) c.in_ok-push.ensures.items ∙ pushed tree_of _ _) c.loop-alloc.invariant.grows
      (repeated_more subscripts_apart _ _ _ (no_stop _ _ _ o.1) (then_found _ _ _ _ _ _ refl (sign_found _ _ _ _ o.1) c.in_ok-e.ensures.found));
}

pub subscripts-returns-clause-found : goal.subscripts-returns-clause-found
subscripts-returns-clause-found t c = let o = c.loop-alloc-test.ensures in
    step_found _ _ _ _ _ refl (signs_step _) (grows_last _ _ _ _ _ _ (sym (append-nil _)) c.loop-alloc.invariant.grows (subscripts_end _ _ o.0 o.1))

-- ---- targets
pub target-returns-in_err-e-clause-absent : goal.target-returns-in_err-e-clause-absent
target-returns-in_err-e-clause-absent t c = through _ c.in_err-e.field-0.0 _ _ c.from_residual.ensures.1 (λ y e. e) c.in_err-e.ensures.absent (λ n. target_never _ n)

pub target-returns-clause-found : goal.target-returns-clause-found
target-returns-clause-found t c =
    IfOk-weaker _ _ _ (λ u b. target_found _ _ _ _ _ c.opens_paren-grouped.ensures c.in_ok-e.ensures.found b) c.bare_target.ensures.found

pub target-returns-clause-absent : goal.target-returns-clause-absent
target-returns-clause-absent t c =
    IfAbsent-weaker _ _ _ (λ b. target_absent _ _ _ _ c.opens_paren-grouped.ensures c.in_ok-e.ensures.found b) c.bare_target.ensures.absent

-- ---- unary
pub unary-returns-in_err-arg-clause-absent : goal.unary-returns-in_err-arg-clause-absent
unary-returns-in_err-arg-clause-absent t c = let o = c.in-Some.ensures in
    through _ c.in_err-arg.field-0.0 _ _ c.from_residual.ensures.1 (λ y e. e) c.in_err-arg.ensures.absent (λ n. step_never _ _ (prefix_step o.0 _ _ _ _ o.1 o.2) n)

pub unary-returns-in-Some-clause-found : goal.unary-returns-in-Some-clause-found
unary-returns-in-Some-clause-found t c = let o = c.in-Some.ensures in
    step_found _ _ _ _ _ c.in_ok-unary.ensures (prefix_step o.0 _ _ _ _ o.1 o.2) c.in_ok-arg.ensures.found

pub unary-returns-in_err-target-clause-absent : goal.unary-returns-in_err-target-clause-absent
unary-returns-in_err-target-clause-absent t c = let q = c.in_default.ensures in let o = c.in-Some-bump.ensures in
    through _ c.in_err-target.field-0.0 _ _ c.from_residual-in_err-target.ensures.1 (λ y e. e) c.in_err-target.ensures.absent
    (λ n. step_never _ _ (bump_step o.0 _ _ _ _ (sym q.0 ∙ o.1) o.2) n)

pub unary-returns-in-Some-bump-clause-found : goal.unary-returns-in-Some-bump-clause-found
unary-returns-in-Some-bump-clause-found t c = let q = c.in_default.ensures in let o = c.in-Some-bump.ensures in
    step_found _ _ _ _ _ c.bump_before.ensures (bump_step o.0 _ _ _ _ (sym q.0 ∙ o.1) o.2) c.in_ok-target.ensures.found

pub unary-returns-in-Some-cast-clause-found : goal.unary-returns-in-Some-cast-clause-found
unary-returns-in-Some-cast-clause-found t c = let q = c.in_default.ensures in let b = c.in_default-bump.ensures in let o = c.in-Some-cast.ensures in
    tail_found tree_of _ _ _ _ (cast_step _ _ _ (sym (b.0 ∙ q.0) ∙ o.0) o.1) c.cast-in-Some-cast.ensures.found

pub unary-returns-in-Some-cast-clause-absent : goal.unary-returns-in-Some-cast-clause-absent
unary-returns-in-Some-cast-clause-absent t c = let q = c.in_default.ensures in let b = c.in_default-bump.ensures in let o = c.in-Some-cast.ensures in
    tail_absent _ _ _ (cast_step _ _ _ (sym (b.0 ∙ q.0) ∙ o.0) o.1) c.cast-in-Some-cast.ensures.absent

pub unary-returns-in-None-clause-found : goal.unary-returns-in-None-clause-found
unary-returns-in-None-clause-found t c = let q = c.in_default.ensures in let b = c.in_default-bump.ensures in let o = c.in-None.ensures in
    tail_found tree_of _ _ _ _ (bare_step _ _ (o.0 ∙ b.0 ∙ q.0) q.1 (λ x at rest up e h. b.1 x at rest up (q.0 ∙ e) h) (ap opens_cast (sym (b.0 ∙ q.0)) ∙ o.1)) c.postfix.ensures.found

pub unary-returns-in-None-clause-absent : goal.unary-returns-in-None-clause-absent
unary-returns-in-None-clause-absent t c = let q = c.in_default.ensures in let b = c.in_default-bump.ensures in let o = c.in-None.ensures in
    tail_absent _ _ _ (bare_step _ _ (o.0 ∙ b.0 ∙ q.0) q.1 (λ x at rest up e h. b.1 x at rest up (q.0 ∙ e) h) (ap opens_cast (sym (b.0 ∙ q.0)) ∙ o.1)) c.postfix.ensures.absent
