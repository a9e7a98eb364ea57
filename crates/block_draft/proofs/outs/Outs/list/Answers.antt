use Rattle.std.proofs.Common.{◌≡◌, ◌∙◌, IfOk, subst, ap, sym, None}
use Rattle.block_draft.specs.Settings.{settled, latest_from}
use Rattle.block_draft.proofs.outs.Outs.list.Goals as goal

pub listed-requires : goal.listed-requires
listed-requires c = λ v. c.self.invariant v ∙ ap (λ l. latest_from 0 None l v) (sym c.as_slice.ensures.value)

pub returns : goal.returns
returns c = subst (λ e. IfOk c.listed.result (λ outs. outs.items ≡ e)) (ap settled c.as_slice.ensures.value ∙ c.self.view_is) c.listed.ensures
