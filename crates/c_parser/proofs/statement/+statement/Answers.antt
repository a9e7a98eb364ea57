use Rattle.std.proofs.Common.{◌∙◌, [], ◌∷◌, sym, ap, subst, refl, arith, length, map, append-nil}
use Rattle.c_tree.specs.Grammar.{ends_open}
use Rattle.c_tree.specs.View.{stmt_of}
use Rattle.c_parser.specs.Cursor.Readings.{Never, Anywhere}
use Rattle.c_parser.specs.Statements.{BodyUpTo}
use Rattle.c_parser.proofs.CursorLemmas.Exits.{through}
use Rattle.c_parser.proofs.CursorLemmas.Readings.{step_found, step_never, tail_found, tail_absent, then_found, then_stuck, then_never, apart_found, apart_stuck, apart_never, apart_step, Grows, grows_none, grows_more, grows_last, grows_never, repeated_more, repeated_never, pushed}
use Rattle.c_parser.proofs.StatementForms.{body_apart}
use Rattle.c_parser.proofs.StatementSteps.{found_any, never_any, keyword_step, block_step, act_step, block_parts_step, local_objects_step, local_statement_step, body_end, body_goes_on, else_step, one_found, branches_never, no_else_fits, do_apart, at_keyword_found, at_keyword_absent}
use Rattle.c_parser.proofs.statement.+statement.Goals as goal

pub statement-returns-in-Some-clause-found : goal.statement-returns-in-Some-clause-found
statement-returns-in-Some-clause-found t c = let o = c.in-Some.ensures in tail_found stmt_of _ _ _ _ (keyword_step o.0 _ _ _ _ o.1 o.2) c.keyword_statement.ensures.found

pub statement-returns-in-Some-clause-absent : goal.statement-returns-in-Some-clause-absent
statement-returns-in-Some-clause-absent t c = let o = c.in-Some.ensures in tail_absent _ _ _ (keyword_step o.0 _ _ _ _ o.1 o.2) c.keyword_statement.ensures.absent

pub statement-returns-in_err-body-clause-absent : goal.statement-returns-in_err-body-clause-absent
statement-returns-in_err-body-clause-absent t c = let q = c.in_default.ensures in let x = c.if-eat.ensures in through _ c.in_err-body.field-0.0 _ _ c.from_residual.ensures.1 (λ y e. e) c.in_err-body.ensures.absent (λ n. step_never _ _ (block_step _ _ _ (sym q.0 ∙ x.1)) n)

pub statement-returns-then-eat-clause-found : goal.statement-returns-then-eat-clause-found
statement-returns-then-eat-clause-found t c = let q = c.in_default.ensures in let x = c.if-eat.ensures in step_found _ _ _ _ _ c.block.ensures (block_step _ _ _ (sym q.0 ∙ x.1)) c.in_ok-body.ensures.found

pub statement-returns-then-eat-clause-fits : goal.statement-returns-then-eat-clause-fits
statement-returns-then-eat-clause-fits t c = λ e. ap ends_open c.block.ensures

pub statement-returns-in_err-all-clause-absent : goal.statement-returns-in_err-all-clause-absent
statement-returns-in_err-all-clause-absent t c = let q = c.in_default.ensures in let x = c.if-eat.ensures in through _ c.in_err-all.field-0.0 _ _ c.from_residual-in_err-all.ensures.1 (λ y e. e) c.in_err-all.ensures.absent (λ n. step_never _ _ (act_step _ _ (x.0 ∙ q.0) q.1 (λ at rest e. x.1 at rest (q.0 ∙ e))) n)

pub statement-returns-clause-found : goal.statement-returns-clause-found
statement-returns-clause-found t c = let q = c.in_default.ensures in let x = c.if-eat.ensures in step_found _ _ _ _ _ c.act.ensures (act_step _ _ (x.0 ∙ q.0) q.1 (λ at rest e. x.1 at rest (q.0 ∙ e))) c.in_ok-all.ensures.found

pub statement-returns-clause-fits : goal.statement-returns-clause-fits
statement-returns-clause-fits t c = λ e. ap ends_open c.act.ensures

pub if_-returns-in_err-test-clause-absent : goal.if_-returns-in_err-test-clause-absent
if_-returns-in_err-test-clause-absent t c = through _ c.in_err-test.field-0.0 _ _ c.from_residual.ensures.1 (λ y e. e) c.in_err-test.ensures.absent (λ n. then_never _ n)

pub if_-returns-clause-found : goal.if_-returns-clause-found
if_-returns-clause-found t c = tail_found stmt_of _ _ _ _ (apart_step _ _ _ (λ x y here end s. tt) c.in_ok-test.ensures.found) c.branches.ensures.found

pub if_-returns-clause-absent : goal.if_-returns-clause-absent
if_-returns-clause-absent t c = tail_absent _ _ _ (apart_step _ _ _ (λ x y here end s. tt) c.in_ok-test.ensures.found) c.branches.ensures.absent

pub branches-returns-in_err-yes-clause-absent : goal.branches-returns-in_err-yes-clause-absent
branches-returns-in_err-yes-clause-absent t c = through _ c.in_err-yes.field-0.0 _ _ c.from_residual.ensures.1 (λ y e. e) c.in_err-yes.ensures.absent (λ n. branches_never _ _ _ n)

pub branches-returns-in_err-second-clause-absent : goal.branches-returns-in_err-second-clause-absent
branches-returns-in_err-second-clause-absent t c = through _ c.in_err-second.field-0.0 _ _ c.from_residual-in_err-second.ensures.1 (λ y e. e) c.in_err-second.ensures.absent (λ n. step_never _ _ (else_step _ _ _ _ _ _ _ c.in_ok-yes.ensures.found c.in_ok-yes.ensures.fits c.in-Some.ensures) n)

pub switch_-returns-in_err-test-clause-absent : goal.switch_-returns-in_err-test-clause-absent
switch_-returns-in_err-test-clause-absent t c = through _ c.in_err-test.field-0.0 _ _ c.from_residual.ensures.1 (λ y e. e) c.in_err-test.ensures.absent (λ n. then_never _ n)

pub switch_-returns-in_err-body-clause-absent : goal.switch_-returns-in_err-body-clause-absent
switch_-returns-in_err-body-clause-absent t c = through _ c.in_err-body.field-0.0 _ _ c.from_residual-in_err-body.ensures.1 (λ y e. e) c.in_err-body.ensures.absent (λ n. then_stuck _ _ _ c.in_ok-test.ensures.found (never_any _ n))

pub switch_-returns-clause-found : goal.switch_-returns-clause-found
switch_-returns-clause-found t c = then_found _ _ _ _ _ _ c.switch_.ensures c.in_ok-test.ensures.found (found_any _ _ _ c.in_ok-body.ensures.found)

pub switch_-returns-clause-fits : goal.switch_-returns-clause-fits
switch_-returns-clause-fits t c = λ e. ap ends_open c.switch_.ensures

pub case_-returns-in_err-value-clause-absent : goal.case_-returns-in_err-value-clause-absent
case_-returns-in_err-value-clause-absent t c = through _ c.in_err-value.field-0.0 _ _ c.from_residual.ensures.1 (λ y e. e) c.in_err-value.ensures.absent (λ n. then_never _ n)

pub case_-returns-in_err-body-clause-absent : goal.case_-returns-in_err-body-clause-absent
case_-returns-in_err-body-clause-absent t c = through _ c.in_err-body.field-0.0 _ _ c.from_residual-in_err-body.ensures.1 (λ y e. e) c.in_err-body.ensures.absent (λ n. then_stuck _ _ _ c.in_ok-value.ensures.found n)

pub case_-returns-clause-found : goal.case_-returns-clause-found
case_-returns-clause-found t c = then_found _ _ _ _ _ _ c.in_ok-case_.ensures c.in_ok-value.ensures.found c.in_ok-body.ensures.found

pub case_-returns-clause-fits : goal.case_-returns-clause-fits
case_-returns-clause-fits t c = λ e. ap ends_open c.in_ok-case_.ensures ∙ c.in_ok-body.ensures.fits e

pub default_-returns-in_err-expect-clause-absent : goal.default_-returns-in_err-expect-clause-absent
default_-returns-in_err-expect-clause-absent t c = through _ c.in_err-expect.field-0.0 _ _ c.from_residual.ensures.1 (λ y e. e) c.in_err-expect.ensures.absent (λ n. then_never _ n)

pub default_-returns-in_err-body-clause-absent : goal.default_-returns-in_err-body-clause-absent
default_-returns-in_err-body-clause-absent t c = through _ c.in_err-body.field-0.0 _ _ c.from_residual-in_err-body.ensures.1 (λ y e. e) c.in_err-body.ensures.absent (λ n. then_stuck _ _ _ c.in_ok-expect.ensures.found n)

pub default_-returns-clause-found : goal.default_-returns-clause-found
default_-returns-clause-found t c = then_found _ _ _ _ _ _ c.in_ok-case_.ensures c.in_ok-expect.ensures.found c.in_ok-body.ensures.found

pub default_-returns-clause-fits : goal.default_-returns-clause-fits
default_-returns-clause-fits t c = λ e. ap ends_open c.in_ok-case_.ensures ∙ c.in_ok-body.ensures.fits e

pub while_-returns-in_err-test-clause-absent : goal.while_-returns-in_err-test-clause-absent
while_-returns-in_err-test-clause-absent t c = through _ c.in_err-test.field-0.0 _ _ c.from_residual.ensures.1 (λ y e. e) c.in_err-test.ensures.absent (λ n. then_never _ n)

pub while_-returns-in_err-body-clause-absent : goal.while_-returns-in_err-body-clause-absent
while_-returns-in_err-body-clause-absent t c = through _ c.in_err-body.field-0.0 _ _ c.from_residual-in_err-body.ensures.1 (λ y e. e) c.in_err-body.ensures.absent (λ n. then_stuck _ _ _ c.in_ok-test.ensures.found n)

pub while_-returns-clause-found : goal.while_-returns-clause-found
while_-returns-clause-found t c = then_found _ _ _ _ _ _ c.in_ok-while_.ensures c.in_ok-test.ensures.found c.in_ok-body.ensures.found

pub while_-returns-clause-fits : goal.while_-returns-clause-fits
while_-returns-clause-fits t c = λ e. ap ends_open c.in_ok-while_.ensures ∙ c.in_ok-body.ensures.fits e

pub do_-returns-in_err-body-clause-absent : goal.do_-returns-in_err-body-clause-absent
do_-returns-in_err-body-clause-absent t c = through _ c.in_err-body.field-0.0 _ _ c.from_residual.ensures.1 (λ y e. e) c.in_err-body.ensures.absent (λ n. apart_never _ do_apart n)

pub do_-returns-in_err-test-clause-absent : goal.do_-returns-in_err-test-clause-absent
do_-returns-in_err-test-clause-absent t c = through _ c.in_err-test.field-0.0 _ _ c.from_residual-in_err-test.ensures.1 (λ y e. e) c.in_err-test.ensures.absent (λ n. apart_stuck _ _ _ do_apart c.in_ok-body.ensures.found (never_any _ n))

pub do_-returns-clause-found : goal.do_-returns-clause-found
do_-returns-clause-found t c = apart_found _ _ _ _ _ _ do_apart c.in_ok-do_.ensures c.in_ok-body.ensures.found (found_any _ _ _ c.in_ok-test.ensures.found)

pub do_-returns-clause-fits : goal.do_-returns-clause-fits
do_-returns-clause-fits t c = λ e. ap ends_open c.in_ok-do_.ensures

pub for_-returns-in_err-head-clause-absent : goal.for_-returns-in_err-head-clause-absent
for_-returns-in_err-head-clause-absent t c = through _ c.in_err-head.field-0.0 _ _ c.from_residual.ensures.1 (λ y e. e) c.in_err-head.ensures.absent (λ n. then_never _ n)

pub for_-returns-in_err-body-clause-absent : goal.for_-returns-in_err-body-clause-absent
for_-returns-in_err-body-clause-absent t c = through _ c.in_err-body.field-0.0 _ _ c.from_residual-in_err-body.ensures.1 (λ y e. e) c.in_err-body.ensures.absent (λ n. then_stuck _ _ _ c.in_ok-head.ensures.found n)

pub for_-returns-clause-found : goal.for_-returns-clause-found
for_-returns-clause-found t c = then_found _ _ _ _ _ _ c.in_ok-for_.ensures c.in_ok-head.ensures.found c.in_ok-body.ensures.found

pub for_-returns-clause-fits : goal.for_-returns-clause-fits
for_-returns-clause-fits t c = λ e. ap ends_open c.in_ok-for_.ensures ∙ c.in_ok-body.ensures.fits e

pub block-returns-in_err-expect-clause-absent : goal.block-returns-in_err-expect-clause-absent
block-returns-in_err-expect-clause-absent t c = through _ c.in_err-expect.field-0.0 _ _ c.from_residual.ensures.1 (λ y e. e) c.in_err-expect.ensures.absent (λ n. step_never _ _ (block_parts_step _) (then_never _ n))

pub block-returns-clause-found : goal.block-returns-clause-found
block-returns-clause-found t c = tail_found (λ all. map stmt_of all.items) _ _ _ _ (block_parts_step _) (tail_found (λ all. map stmt_of all.items) _ _ _ _ (apart_step _ _ _ (λ x y here end s. tt) c.in_ok-expect.ensures.found) c.body.ensures.found)

pub block-returns-clause-absent : goal.block-returns-clause-absent
block-returns-clause-absent t c = tail_absent _ _ _ (block_parts_step _) (tail_absent _ _ _ (apart_step _ _ _ (λ x y here end s. tt) c.in_ok-expect.ensures.found) c.body.ensures.absent)

pub body-returns-in_err-one-clause-absent : goal.body-returns-in_err-one-clause-absent
body-returns-in_err-one-clause-absent t c = let o = c.loop-alloc-test.ensures in through _ c.in_err-one.field-0.0 _ _ c.from_residual.ensures.1 (λ y e. e) c.in_err-one.ensures.absent (λ n. grows_never _ _ _ c.loop-alloc.invariant.grows (subst (λ y. Never BodyUpTo Anywhere y) o.0 (repeated_never body_apart _ (body_goes_on _ _ o.0 o.1) n)))

pub body-loop-alloc-preserved : goal.body-loop-alloc-preserved
body-loop-alloc-preserved t c = let o = c.loop-alloc-test.ensures in record {
  shorter = omega (arith, c.loop-alloc.invariant.shorter, c.in_ok-one.ensures.shorter, ap length o.0);
  grows = grows_more _ _ _ _ _ _ (ap (map stmt_of) c.in_ok-push.ensures.items ∙ pushed stmt_of _ _) c.loop-alloc.invariant.grows
      (subst (λ y. Grows BodyUpTo y (stmt_of c.in_ok-one.one ∷ []) c.local.new.cursor) o.0 (repeated_more body_apart _ _ _ (body_goes_on _ _ o.0 o.1) c.in_ok-one.ensures.found));
}

pub body-returns-clause-found : goal.body-returns-clause-found
body-returns-clause-found t c = let o = c.loop-alloc-test.ensures in grows_last _ _ _ _ _ _ (sym (append-nil _)) c.loop-alloc.invariant.grows (body_end _ _ o.0 o.1)

pub local-returns-then-not-starts_kind-clause-found : goal.local-returns-then-not-starts_kind-clause-found
local-returns-then-not-starts_kind-clause-found t c = tail_found stmt_of _ _ _ _ (local_statement_step _ (sym c.if-not-starts_kind.ensures)) c.statement.ensures.found

pub local-returns-then-not-starts_kind-clause-absent : goal.local-returns-then-not-starts_kind-clause-absent
local-returns-then-not-starts_kind-clause-absent t c = tail_absent _ _ _ (local_statement_step _ (sym c.if-not-starts_kind.ensures)) c.statement.ensures.absent

pub local-returns-in_err-all-clause-absent : goal.local-returns-in_err-all-clause-absent
local-returns-in_err-all-clause-absent t c = through _ c.in_err-all.field-0.0 _ _ c.from_residual.ensures.1 (λ y e. e) c.in_err-all.ensures.absent (λ n. step_never _ _ (local_objects_step _ (sym c.if-not-starts_kind.ensures)) n)

pub local-returns-clause-found : goal.local-returns-clause-found
local-returns-clause-found t c = step_found _ _ _ _ _ c.declare.ensures (local_objects_step _ (sym c.if-not-starts_kind.ensures)) c.in_ok-all.ensures.found

pub branches-returns-in_default-clause-found : goal.branches-returns-in_default-clause-found
branches-returns-in_default-clause-found t c = let o = c.in_default.ensures in one_found _ _ _ _ _ _ _ c.in_ok-one.ensures o.0 o.1 c.in_ok-yes.ensures.found

pub branches-returns-in_default-clause-fits : goal.branches-returns-in_default-clause-fits
branches-returns-in_default-clause-fits t c = let o = c.in_default.ensures in no_else_fits (stmt_of c.in_ok-one.one) _ _ o.0 o.1

pub branches-returns-clause-found : goal.branches-returns-clause-found
branches-returns-clause-found t c =
    step_found _ _ _ _ _ (rw c.in_ok-no.ensures at c.in_ok-both.ensures) (else_step _ _ _ _ _ _ _ c.in_ok-yes.ensures.found c.in_ok-yes.ensures.fits c.in-Some.ensures) c.in_ok-second.ensures.found

pub branches-returns-clause-fits : goal.branches-returns-clause-fits
branches-returns-clause-fits t c = λ e. ap ends_open (rw c.in_ok-no.ensures at c.in_ok-both.ensures) ∙ c.in_ok-second.ensures.fits e

pub if_-returns-clause-fits : goal.if_-returns-clause-fits
if_-returns-clause-fits t c = c.branches.ensures.fits

pub statement-returns-in-Some-clause-fits : goal.statement-returns-in-Some-clause-fits
statement-returns-in-Some-clause-fits t c = c.keyword_statement.ensures.fits

pub keyword_statement-returns-in-If-clause-found : goal.keyword_statement-returns-in-If-clause-found
keyword_statement-returns-in-If-clause-found t c = at_keyword_found _ _ _ _ _ _ c.in-If.is c.if_.ensures.found

pub keyword_statement-returns-in-If-clause-absent : goal.keyword_statement-returns-in-If-clause-absent
keyword_statement-returns-in-If-clause-absent t c = at_keyword_absent _ _ _ _ _ c.in-If.is c.if_.ensures.absent

pub keyword_statement-returns-in-If-clause-fits : goal.keyword_statement-returns-in-If-clause-fits
keyword_statement-returns-in-If-clause-fits t c = c.if_.ensures.fits

pub keyword_statement-returns-in-Switch-clause-found : goal.keyword_statement-returns-in-Switch-clause-found
keyword_statement-returns-in-Switch-clause-found t c = at_keyword_found _ _ _ _ _ _ c.in-Switch.is c.switch_.ensures.found

pub keyword_statement-returns-in-Switch-clause-absent : goal.keyword_statement-returns-in-Switch-clause-absent
keyword_statement-returns-in-Switch-clause-absent t c = at_keyword_absent _ _ _ _ _ c.in-Switch.is c.switch_.ensures.absent

pub keyword_statement-returns-in-Switch-clause-fits : goal.keyword_statement-returns-in-Switch-clause-fits
keyword_statement-returns-in-Switch-clause-fits t c = c.switch_.ensures.fits

pub keyword_statement-returns-in-Case-clause-found : goal.keyword_statement-returns-in-Case-clause-found
keyword_statement-returns-in-Case-clause-found t c = at_keyword_found _ _ _ _ _ _ c.in-Case.is c.case_.ensures.found

pub keyword_statement-returns-in-Case-clause-absent : goal.keyword_statement-returns-in-Case-clause-absent
keyword_statement-returns-in-Case-clause-absent t c = at_keyword_absent _ _ _ _ _ c.in-Case.is c.case_.ensures.absent

pub keyword_statement-returns-in-Case-clause-fits : goal.keyword_statement-returns-in-Case-clause-fits
keyword_statement-returns-in-Case-clause-fits t c = c.case_.ensures.fits

pub keyword_statement-returns-in-Default-clause-found : goal.keyword_statement-returns-in-Default-clause-found
keyword_statement-returns-in-Default-clause-found t c = at_keyword_found _ _ _ _ _ _ c.in-Default.is c.default_.ensures.found

pub keyword_statement-returns-in-Default-clause-absent : goal.keyword_statement-returns-in-Default-clause-absent
keyword_statement-returns-in-Default-clause-absent t c = at_keyword_absent _ _ _ _ _ c.in-Default.is c.default_.ensures.absent

pub keyword_statement-returns-in-Default-clause-fits : goal.keyword_statement-returns-in-Default-clause-fits
keyword_statement-returns-in-Default-clause-fits t c = c.default_.ensures.fits

pub keyword_statement-returns-in-While-clause-found : goal.keyword_statement-returns-in-While-clause-found
keyword_statement-returns-in-While-clause-found t c = at_keyword_found _ _ _ _ _ _ c.in-While.is c.while_.ensures.found

pub keyword_statement-returns-in-While-clause-absent : goal.keyword_statement-returns-in-While-clause-absent
keyword_statement-returns-in-While-clause-absent t c = at_keyword_absent _ _ _ _ _ c.in-While.is c.while_.ensures.absent

pub keyword_statement-returns-in-While-clause-fits : goal.keyword_statement-returns-in-While-clause-fits
keyword_statement-returns-in-While-clause-fits t c = c.while_.ensures.fits

pub keyword_statement-returns-in-Do-clause-found : goal.keyword_statement-returns-in-Do-clause-found
keyword_statement-returns-in-Do-clause-found t c = at_keyword_found _ _ _ _ _ _ c.in-Do.is c.do_.ensures.found

pub keyword_statement-returns-in-Do-clause-absent : goal.keyword_statement-returns-in-Do-clause-absent
keyword_statement-returns-in-Do-clause-absent t c = at_keyword_absent _ _ _ _ _ c.in-Do.is c.do_.ensures.absent

pub keyword_statement-returns-in-Do-clause-fits : goal.keyword_statement-returns-in-Do-clause-fits
keyword_statement-returns-in-Do-clause-fits t c = c.do_.ensures.fits

pub keyword_statement-returns-in-For-clause-found : goal.keyword_statement-returns-in-For-clause-found
keyword_statement-returns-in-For-clause-found t c = at_keyword_found _ _ _ _ _ _ c.in-For.is c.for_.ensures.found

pub keyword_statement-returns-in-For-clause-absent : goal.keyword_statement-returns-in-For-clause-absent
keyword_statement-returns-in-For-clause-absent t c = at_keyword_absent _ _ _ _ _ c.in-For.is c.for_.ensures.absent

pub keyword_statement-returns-in-For-clause-fits : goal.keyword_statement-returns-in-For-clause-fits
keyword_statement-returns-in-For-clause-fits t c = c.for_.ensures.fits

pub keyword_statement-returns-in-Break-clause-found : goal.keyword_statement-returns-in-Break-clause-found
keyword_statement-returns-in-Break-clause-found t c = at_keyword_found _ _ _ _ _ _ c.in-Break.is c.break_.ensures.found

pub keyword_statement-returns-in-Break-clause-absent : goal.keyword_statement-returns-in-Break-clause-absent
keyword_statement-returns-in-Break-clause-absent t c = at_keyword_absent _ _ _ _ _ c.in-Break.is c.break_.ensures.absent

pub keyword_statement-returns-in-Break-clause-fits : goal.keyword_statement-returns-in-Break-clause-fits
keyword_statement-returns-in-Break-clause-fits t c = c.break_.ensures.fits

pub keyword_statement-returns-in-Continue-clause-found : goal.keyword_statement-returns-in-Continue-clause-found
keyword_statement-returns-in-Continue-clause-found t c = at_keyword_found _ _ _ _ _ _ c.in-Continue.is c.continue_.ensures.found

pub keyword_statement-returns-in-Continue-clause-absent : goal.keyword_statement-returns-in-Continue-clause-absent
keyword_statement-returns-in-Continue-clause-absent t c = at_keyword_absent _ _ _ _ _ c.in-Continue.is c.continue_.ensures.absent

pub keyword_statement-returns-in-Continue-clause-fits : goal.keyword_statement-returns-in-Continue-clause-fits
keyword_statement-returns-in-Continue-clause-fits t c = c.continue_.ensures.fits

pub keyword_statement-returns-in-Return-clause-found : goal.keyword_statement-returns-in-Return-clause-found
keyword_statement-returns-in-Return-clause-found t c = at_keyword_found _ _ _ _ _ _ c.in-Return.is c.return_.ensures.found

pub keyword_statement-returns-in-Return-clause-absent : goal.keyword_statement-returns-in-Return-clause-absent
keyword_statement-returns-in-Return-clause-absent t c = at_keyword_absent _ _ _ _ _ c.in-Return.is c.return_.ensures.absent

pub keyword_statement-returns-in-Return-clause-fits : goal.keyword_statement-returns-in-Return-clause-fits
keyword_statement-returns-in-Return-clause-fits t c = c.return_.ensures.fits

pub body-loop-alloc-init : goal.body-loop-alloc-init
body-loop-alloc-init t c = record { shorter = omega arith; grows = grows_none _ _ _ (ap (map stmt_of) c.new-all.ensures.items) refl }
