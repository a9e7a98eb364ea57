use Rattle.std.proofs.Common.{◌≡◌, ◌≤◌, ◌∙◌, sym, [], subst, length}
use Rattle.c_token.specs.Replacement.{Becomes, token_limit}
use Rattle.c_token.proofs.Expansion.{stands_for_one}
use Rattle.c_token.proofs.Divided.{replaces_once}
use Rattle.c_macro.proofs.Taking.{Progress, none_left, finished}
use Rattle.c_macro.proofs.replace.Goals as goal

pub returns-clause-becomes : goal.returns-clause-becomes
returns-clause-becomes c =
    let none : c.loop-left.left.now ≡ [] = none_left c.loop-left.left.now (sym c.is_empty.ensures ∙ c.loop-left-test.false) in
    subst (λ items. Becomes c.args.tokens.now items) (sym c.into_tokens.ensures)
    (finished c.args.tokens.now c.loop-left.reader (subst (λ left. Progress c.args.tokens.now left c.loop-left.reader) none c.loop-left.invariant.progress))

pub returns-clause-within : goal.returns-clause-within
returns-clause-within c = subst (λ items. length items ≤ token_limit) (sym c.into_tokens.ensures) c.loop-left.invariant.within.0

pub returns-clause-once : goal.returns-clause-once
returns-clause-once c = replaces_once c.args.tokens.now

pub returns-clause-rows : goal.returns-clause-rows
returns-clause-rows c = stands_for_one

pub returns-in_err-left-clause-once : goal.returns-in_err-left-clause-once
returns-in_err-left-clause-once c = replaces_once c.args.tokens.now

pub returns-in_err-left-clause-rows : goal.returns-in_err-left-clause-rows
returns-in_err-left-clause-rows c = stands_for_one
