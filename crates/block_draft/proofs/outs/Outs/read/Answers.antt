use Rattle.std.proofs.Common.{◌∙◌, ap, sym}
use Rattle.std.specs.Option.{option_copied}
use Rattle.passes.specs.Lowering.Outs.{held}
use Rattle.block_draft.proofs.Settling.{held_settled, value_or}
use Rattle.block_draft.proofs.outs.Outs.read.Goals as goal

pub returns-in-Some : goal.returns-in-Some
returns-in-Some c =
    let v = c.args.variable in
    sym (ap (λ o. held o v) (sym c.self.view_is) ∙ held_settled c.self.inside.sets.items v
    ∙ ap (value_or v) (sym (c.self.invariant v) ∙ sym c.get.ensures.value ∙ ap option_copied c.in-Some.is))

pub returns-in-None : goal.returns-in-None
returns-in-None c =
    let v = c.args.variable in
    c.entry_value.ensures ∙ sym (ap (λ o. held o v) (sym c.self.view_is) ∙ held_settled c.self.inside.sets.items v
    ∙ ap (value_or v) (sym (c.self.invariant v) ∙ sym c.get.ensures.value ∙ ap option_copied c.in-None.is))
