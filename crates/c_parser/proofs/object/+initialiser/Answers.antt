use Rattle.std.proofs.Common.{◌∙◌, ap, refl, arith, map}
use Rattle.c_tree.specs.View.{init_of}
use Rattle.c_parser.proofs.CursorLemmas.Exits.{through}
use Rattle.c_parser.proofs.CursorLemmas.Readings.{step_found, step_never, grows_more, grows_last, grows_never, pushed}
use Rattle.c_parser.proofs.Initialisers.{brace_step, single_step, items_step, items_more, items_last, items_stuck, items_never}
use Rattle.c_parser.proofs.object.+initialiser.Goals as goal

pub init-returns-in_err-items-clause-absent : goal.init-returns-in_err-items-clause-absent
init-returns-in_err-items-clause-absent t c =
    through _ c.in_err-items.field-0.0 _ _ c.from_residual.ensures.1 (λ y e. e) c.in_err-items.ensures.absent (λ n. step_never _ _ (brace_step _ _ _ c.in-Some.ensures) n)

pub init-returns-in-Some-clause-found : goal.init-returns-in-Some-clause-found
init-returns-in-Some-clause-found t c = step_found _ _ _ _ _ c.list.ensures (brace_step _ _ _ c.in-Some.ensures) c.in_ok-items.ensures.found

pub init-returns-in_err-e-clause-absent : goal.init-returns-in_err-e-clause-absent
init-returns-in_err-e-clause-absent t c = let o = c.in_default.ensures in
    through _ c.in_err-e.field-0.0 _ _ c.from_residual-in_err-e.ensures.1 (λ y e. e) c.in_err-e.ensures.absent (λ n. step_never _ _ (single_step _ _ o.0 o.1) n)

pub init-returns-clause-found : goal.init-returns-clause-found
init-returns-clause-found t c = let o = c.in_default.ensures in step_found _ _ _ _ _ c.single.ensures (single_step _ _ o.0 o.1) c.in_ok-e.ensures.found

pub inits-returns-in_err-item-clause-absent : goal.inits-returns-in_err-item-clause-absent
inits-returns-in_err-item-clause-absent t c =
    through _ c.in_err-item.field-0.0 _ _ c.from_residual.ensures.1 (λ y e. e) c.in_err-item.ensures.absent
    (λ n. step_never _ _ (items_step _) (grows_never _ _ _ c.loop-items.invariant.grows (items_never _ n)))

pub inits-returns-in_err-is_followed-clause-absent : goal.inits-returns-in_err-is_followed-clause-absent
inits-returns-in_err-is_followed-clause-absent t c =
    through _ c.in_err-is_followed.field-0.0 _ _ c.from_residual-in_err-is_followed.ensures.1 (λ y e. e) c.in_err-is_followed.ensures.absent
    (λ n. step_never _ _ (items_step _) (grows_never _ _ _ c.loop-items.invariant.grows (items_stuck _ _ _ c.in_ok-item.ensures.found n)))

pub inits-returns-then-not-branch-clause-found : goal.inits-returns-then-not-branch-clause-found
inits-returns-then-not-branch-clause-found t c =
    step_found _ _ _ _ _ refl (items_step _)
    (grows_last _ _ _ _ _ _ (ap (map init_of) c.in_ok-push.ensures.items ∙ pushed init_of _ _) c.loop-items.invariant.grows
    (items_last _ _ _ _ c.in_ok-item.ensures.found (rw c.if-not-branch.true at c.in_ok-is_followed.ensures.found)))

pub inits-loop-items-preserved : goal.inits-loop-items-preserved
inits-loop-items-preserved t c = record {
  shorter = omega (arith, c.loop-items.invariant.shorter, c.in_ok-item.ensures.shorter, c.in_ok-is_followed.ensures.shorter);
  grows = grows_more _ _ _ _ _ _ (ap (map init_of) c.in_ok-push.ensures.items ∙ pushed init_of _ _) c.loop-items.invariant.grows
      (items_more _ _ _ _ c.in_ok-item.ensures.found (rw c.if-not-branch.false at c.in_ok-is_followed.ensures.found));
}
