use Rattle.std.proofs.Common.{◌∙◌, ap, map}
use Rattle.ir_core.specs.Trees.{no_arm, more_arms, sequence_of}
use Rattle.ir_lower.specs.Lines.{with_arms, first_parts, later_arms}
use Rattle.ir_lower.proofs.Rows.{arms_none, arm_pushed}
use Rattle.ir_lower.proofs.arms.Arms.finish.Goals as goal

pub returns-clause-dead : goal.returns-clause-dead
returns-clause-dead c =
    let closed = c.args.self.closed.items in
    let new = c.push.new.self.items in
    let all = arms_none (map sequence_of new) ∙ arm_pushed closed new c.into_inner.result no_arm c.in_ok-push.ensures.items ∙ ap (λ s. with_arms (map sequence_of closed) (more_arms s no_arm)) (ap sequence_of c.into_inner.ensures ∙ c.in_ok-arm.ensures) in
    c.split_first.ensures.dead ∙ ap first_parts all

pub returns-clause-arms : goal.returns-clause-arms
returns-clause-arms c =
    let closed = c.args.self.closed.items in
    let new = c.push.new.self.items in
    let all = arms_none (map sequence_of new) ∙ arm_pushed closed new c.into_inner.result no_arm c.in_ok-push.ensures.items ∙ ap (λ s. with_arms (map sequence_of closed) (more_arms s no_arm)) (ap sequence_of c.into_inner.ensures ∙ c.in_ok-arm.ensures) in
    c.split_first.ensures.arms ∙ ap later_arms all
