use Rattle.std.proofs.Common.{sym, subst, reverse, ◌∙◌}
use Rattle.c_macro.specs.Views.{visible, Expands}
use Rattle.c_macro.proofs.Expanding.{through, failed}
use Rattle.c_macro.proofs.Suspending.{Underway, begins, still_before, puts_token, enters, outer_within, goes_back, all_ended, expanded, passes_at_token, passes_at_word, less_by_token, less_by_word, less_by_end}
use Rattle.c_macro.proofs.expansion.expand.Goals as goal

pub loop-token-init : goal.loop-token-init
loop-token-init c =
    subst (λ s. Underway c.args.macros.now c.args.hidden.now c.args.word c.args.tokens.now c.args.output.now c.args.hidden.now c.args.tokens.now (reverse s) c.args.output.now) (sym c.new-suspended.ensures.items)
    (begins c.args.macros.now c.args.hidden.now c.args.word c.args.tokens.now c.args.output.now c.requires.within)

pub push_part-requires : goal.push_part-requires
push_part-requires c = still_before _ _ _ _ _ _ _ _ _ c.requires.before c.loop-token.invariant

pub returns-in_err-push_part-in-None-clause-expanded : goal.returns-in_err-push_part-in-None-clause-expanded
returns-in_err-push_part-in-None-clause-expanded c =
    let table = visible c.args.hidden.now c.args.macros.now in
    through (λ r. Expands table c.args.word c.args.tokens.now r c.args.output.now c.push_part.new.self) c.from_residual.result c.in_err-push_part-in-None.field-0.0 c.from_residual.ensures.1 (λ y e. e)
    (failed table c.args.word c.args.tokens.now c.args.output.now c.push_part.new.self c.in_err-push_part-in-None.field-0.0 _ c.in_err-push_part-in-None.ensures.refused
    (λ r f. (f.0, passes_at_token _ _ _ _ _ _ _ _ _ _ _ c.loop-token.invariant c.in-Some.ensures.cases.0 c.in-None.ensures f.1)))

pub loop-token-smaller-in-None : goal.loop-token-smaller-in-None
loop-token-smaller-in-None c = less_by_token _ _ _ _ _ c.in_ok-push_part-in-None.ensures.pushed c.in_ok-push_part-in-None.ensures.within

pub loop-token-preserved-in-None : goal.loop-token-preserved-in-None
loop-token-preserved-in-None c =
    puts_token _ _ _ _ _ _ _ _ _ _ _ _ c.requires.before c.loop-token.invariant c.in-Some.ensures.cases.0 c.in-None.ensures c.in_ok-push_part-in-None.ensures.pushed c.in_ok-push_part-in-None.ensures.within

pub returns-in_err-count_word-in-Some-visible-clause-expanded : goal.returns-in_err-count_word-in-Some-visible-clause-expanded
returns-in_err-count_word-in-Some-visible-clause-expanded c =
    let table = visible c.args.hidden.now c.args.macros.now in
    let from = c.from_residual-in_err-count_word-in-Some-visible.ensures in
    through (λ r. Expands table c.args.word c.args.tokens.now r c.args.output.now c.count_word.new.self) c.from_residual-in_err-count_word-in-Some-visible.result
    c.in_err-count_word-in-Some-visible.field-0.0 from.1 (λ y e. e)
    (failed table c.args.word c.args.tokens.now c.args.output.now c.count_word.new.self c.in_err-count_word-in-Some-visible.field-0.0 _ c.in_err-count_word-in-Some-visible.ensures.refused
    (λ r f. (f.0, passes_at_word _ _ _ _ _ _ _ _ _ _ _ _ c.loop-token.invariant c.in-Some.ensures.cases.0 c.in-Some-visible.ensures.stands_for f.1)))

pub loop-token-smaller-in-Some-visible : goal.loop-token-smaller-in-Some-visible
loop-token-smaller-in-Some-visible c =
    less_by_word _ _ _ _ _ c.in_ok-count_word-in-Some-visible.ensures.counted c.in_ok-count_word-in-Some-visible.ensures.within c.in_ok-push-in-Some-visible.ensures.items

pub loop-token-preserved-in-Some-visible : goal.loop-token-preserved-in-Some-visible
loop-token-preserved-in-Some-visible c =
    enters _ _ _ _ _ _ _ _ _ (record { index = c.in-Some-visible.index; left = c.in-Some.rest }) _ _ _ _ c.loop-token.invariant c.in-Some.ensures.cases.0 c.in-Some-visible.ensures
    c.in_ok-count_word-in-Some-visible.ensures.counted c.in_ok-count_word-in-Some-visible.ensures.within c.in_ok-push-in-Some-visible.ensures.items

pub bounds-hidden-outer : goal.bounds-hidden-outer
bounds-hidden-outer c = outer_within _ _ _ _ _ _ _ _ _ _ _ c.loop-token.invariant c.in-Some-pop.ensures.items

pub loop-token-smaller : goal.loop-token-smaller
loop-token-smaller c = less_by_end _ c.in-Some-pop.outer _ _ c.in-Some-pop.ensures.items

pub loop-token-preserved : goal.loop-token-preserved
loop-token-preserved c = goes_back _ _ _ _ _ _ _ _ _ _ _ c.loop-token.invariant c.in_default.ensures.cases c.in-Some-pop.ensures.items

pub returns-in_default-pop-clause-hidden : goal.returns-in_default-pop-clause-hidden
returns-in_default-pop-clause-hidden c =
    let ended = all_ended _ _ _ _ _ _ _ c.loop-token.suspended.items _ c.loop-token.invariant c.in_default.ensures.cases (sym c.loop-token.suspended.ok.0 ∙ c.in_default-pop.ensures.cases.0) in ended.shown

pub returns-in_default-pop-clause-expanded : goal.returns-in_default-pop-clause-expanded
returns-in_default-pop-clause-expanded c =
    expanded _ _ _ _ _ _ _ (all_ended _ _ _ _ _ _ _ c.loop-token.suspended.items _ c.loop-token.invariant c.in_default.ensures.cases (sym c.loop-token.suspended.ok.0 ∙ c.in_default-pop.ensures.cases.0))
