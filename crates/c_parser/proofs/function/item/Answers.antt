use Rattle.std.proofs.Common.{sym, refl, arith}
use Rattle.c_parser.proofs.CursorLemmas.Exits.{through}
use Rattle.c_parser.proofs.CursorLemmas.Readings.{step_found, step_never, apart_found, apart_stuck, apart_never}
use Rattle.c_parser.proofs.FunctionForms.{bare_step, passed_step, passed_shorter, items_same, items_then, item_apart, function_step, objects_step, void_objects_never}
use Rattle.c_parser.proofs.function.item.Goals as goal

pub loop-init : goal.loop-init
loop-init c = record { shorter = omega arith; step = items_same _ }

pub loop-preserved : goal.loop-preserved
loop-preserved c = let o = c.loop-test.ensures in record { shorter = omega (arith, c.loop.invariant.shorter, passed_shorter _ _ o); step = items_then _ _ _ c.loop.invariant.step (passed_step _ _ o) }

pub loop-smaller : goal.loop-smaller
loop-smaller c = passed_shorter _ _ c.loop-test.ensures

pub returns-in_err-kind-clause-absent : goal.returns-in_err-kind-clause-absent
returns-in_err-kind-clause-absent c = let o = c.loop-test.ensures in let s = c.loop.invariant.step in let b = bare_step _ _ o.0 o.1 o.2 in
    through _ c.in_err-kind.field-0.0 _ _ c.from_residual.ensures.1 (λ y e. e) c.in_err-kind.ensures.absent
    (λ n. step_never _ _ s (step_never _ _ b (apart_never _ item_apart n)))

pub returns-in_err-made-clause-absent : goal.returns-in_err-made-clause-absent
returns-in_err-made-clause-absent c = let o = c.loop-test.ensures in let s = c.loop.invariant.step in let b = bare_step _ _ o.0 o.1 o.2 in
    through _ c.in_err-made.field-0.0 _ _ c.from_residual-in_err-made.ensures.1 (λ y e. e) c.in_err-made.ensures.absent
    (λ n. step_never _ _ s (step_never _ _ b (apart_stuck _ _ _ item_apart c.in_ok-kind.ensures.found (step_never _ _ (function_step _ _ (sym c.if-opens_call.ensures)) n))))

pub returns-then-opens_call-clause-found : goal.returns-then-opens_call-clause-found
returns-then-opens_call-clause-found c = let o = c.loop-test.ensures in let s = c.loop.invariant.step in let b = bare_step _ _ o.0 o.1 o.2 in
    step_found _ _ _ _ _ refl s (step_found _ _ _ _ _ refl b (apart_found _ _ _ _ _ _ item_apart refl c.in_ok-kind.ensures.found (step_found _ _ _ _ _ refl (function_step _ _ (sym c.if-opens_call.ensures)) c.in_ok-made.ensures.found)))

pub returns-in_err-value-clause-absent : goal.returns-in_err-value-clause-absent
returns-in_err-value-clause-absent c = let o = c.loop-test.ensures in let s = c.loop.invariant.step in let b = bare_step _ _ o.0 o.1 o.2 in
    through _ c.in_err-value.field-0.0 _ _ c.from_residual-in_err-value.ensures.1 (λ y e. e) c.in_err-value.ensures.absent
    (λ n. step_never _ _ s (step_never _ _ b (apart_stuck _ _ _ item_apart c.in_ok-kind.ensures.found (void_objects_never _ _ (sym c.if-opens_call.ensures) n))))

pub returns-in_err-all-clause-absent : goal.returns-in_err-all-clause-absent
returns-in_err-all-clause-absent c = let o = c.loop-test.ensures in let s = c.loop.invariant.step in let b = bare_step _ _ o.0 o.1 o.2 in let v = c.in_ok-value.ensures.found in
    through _ c.in_err-all.field-0.0 _ _ c.from_residual-in_err-all.ensures.1 (λ y e. e) c.in_err-all.ensures.absent
    (λ n. step_never _ _ s (step_never _ _ b (apart_stuck _ _ _ item_apart c.in_ok-kind.ensures.found (step_never _ _ (objects_step _ _ _ (sym c.if-opens_call.ensures) v.0 v.1) n))))

pub returns-clause-found : goal.returns-clause-found
returns-clause-found c = let o = c.loop-test.ensures in let s = c.loop.invariant.step in let b = bare_step _ _ o.0 o.1 o.2 in let v = c.in_ok-value.ensures.found in
    step_found _ _ _ _ _ refl s (step_found _ _ _ _ _ refl b (apart_found _ _ _ _ _ _ item_apart refl c.in_ok-kind.ensures.found (step_found _ _ _ _ _ refl (objects_step _ _ _ (sym c.if-opens_call.ensures) v.0 v.1) c.in_ok-all.ensures.found)))
