use Rattle.std.proofs.Common.{◌∙◌}
use Rattle.block_draft.proofs.draft.Draft.close.Goals as goal

pub returns-in_err-list-clause-fresh : goal.returns-in_err-list-clause-fresh
returns-in_err-list-clause-fresh c =
    let outs = c.replace-outs.ensures.after ∙ c.new.ensures in
    let ops = c.take-ops.ensures.fresh in
    λ i. record { ops = ops i; outs = outs i }

pub returns-clause-fresh : goal.returns-clause-fresh
returns-clause-fresh c =
    let outs = c.replace-outs.ensures.after ∙ c.new.ensures in
    let ops = c.take-ops.ensures.fresh in
    λ i. record { ops = ops i; outs = outs i }

pub returns-clause-outs : goal.returns-clause-outs
returns-clause-outs c = c.in_ok-list.ensures ∙ c.replace-outs.ensures.value
