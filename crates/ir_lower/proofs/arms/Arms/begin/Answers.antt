use Rattle.std.proofs.Common.{◌≡◌, ◌∙◌, ap, sym, map, arith, true}
use Rattle.std.specs.Prelude.{if◌then◌else◌}
use Rattle.ir_core.specs.Trees.{more_arms, sequence_of}
use Rattle.passes.specs.Lowering.Blocks.{begun}
use Rattle.passes.specs.Lowering.{last}
use Rattle.ir_lower.specs.Lines.{ended, with_arms, ended_arms}
use Rattle.ir_lower.proofs.Rows.{arm_pushed}
use Rattle.ir_lower.proofs.arms.Arms.begin.Goals as goal

pub returns : goal.returns
returns c = λ rest more.
    let arms = c.args.self in
    let done = c.into_inner.result in
    let now = c.in_ok-new.field-0 in
    let begins : c.args.begins ≡ true = grind (arith, c.if-not-begins.false) in
    let start = rest (begun c.args.point.now) in
    arm_pushed arms.closed.items c.push.new.self.items done (more_arms (ended now.value rest) more) c.in_ok-push.ensures.items
    ∙ ap (λ s. with_arms (map sequence_of arms.closed.items) (more_arms s (more_arms (ended now.value rest) more))) (ap sequence_of c.into_inner.ensures ∙ c.in_ok-arm.ensures)
    ∙ ap (λ s. with_arms (map sequence_of arms.closed.items) (more_arms (ended arms.line.value last) (more_arms s more))) (c.in_ok-new.ensures rest)
    ∙ sym (ap (λ b. if b then ended_arms arms last (more_arms start more) else ended_arms arms rest more) begins)
