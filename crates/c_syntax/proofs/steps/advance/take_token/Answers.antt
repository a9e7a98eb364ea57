use Rattle.std.proofs.Common.{sym, ◌∙◌, subst}
use Rattle.c_syntax.specs.Steps.{Steps, StepsOrStays, step_of}
use Rattle.c_syntax.proofs.StepsLemmas.Goings.{taken, skipped}
use Rattle.c_syntax.proofs.steps.advance.take_token.Goals as goal

pub returns-in-Some-2 : goal.returns-in-Some-2
returns-in-Some-2 c =
    let steps = subst (λ x. Steps x c.pop.new.self c.step.new.stack (step_of c.in-Some.goal c.args.spot c.args.sort)) c.in-Some-2.is c.in_ok-take.ensures.step in
    let x = taken c.loop-goal.stack c.pop.new.self c.step.new.stack c.in-Some.goal c.args.spot c.args.sort c.in-Some-2.take c.in-Some.ensures steps in
    (x.0, sym c.loop-goal.invariant.same ∙ x.1, x.2, x.3)

pub loop-goal-preserved : goal.loop-goal-preserved
loop-goal-preserved c =
    let optional = sym c.is_optional.ensures ∙ c.if-not-is_optional.false in
    let stays = subst (λ x. StepsOrStays x c.pop.new.self c.step.new.stack (step_of c.in-Some.goal c.args.spot c.args.sort)) c.in_default-2.is (c.in_ok-take.ensures.stays optional) in
    skipped c.loop-goal.stack c.pop.new.self c.step.new.stack c.args.stack.now c.in-Some.goal c.args.spot c.args.sort c.in-Some.ensures optional stays c.loop-goal.invariant.same c.loop-goal.invariant.before
