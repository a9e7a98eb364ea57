use Rattle.std.proofs.Common.{◌∙◌, ap, sym, None}
use Rattle.std.specs.Map.{lookup}
use Rattle.indexmap.specs.IndexMap.{insert_entry}
use Rattle.passes.specs.Lowering.Outs.{operand_eq, held, with_out}
use Rattle.block_draft.specs.Settings.{var_eq, settled, latest_from}
use Rattle.block_draft.proofs.Settling.{set_kept, set_more, is_latest_more, later, set_count}
use Rattle.block_draft.proofs.outs.Outs.set.Goals as goal

pub returns-then-eq : goal.returns-then-eq
returns-then-eq c = set_kept c.args.self c.args.variable c.args.value (ap (λ o. operand_eq o c.args.value) (sym c.read.ensures) ∙ sym c.eq.ensures ∙ c.if-eq.true)

pub invariant_of-result : goal.invariant_of-result
invariant_of-result c = λ v.
    ap (lookup (var_eq v)) (c.in_ok-insert.ensures.entries ∙ ap (λ n. insert_entry var_eq c.self.inside.latest.entries c.args.variable (later n c.args.value)) (c.len-place.ensures ∙ set_count c.self.inside.sets))
    ∙ is_latest_more c.self.inside.sets.items c.self.inside.latest.entries c.args.variable c.args.value c.self.invariant v
    ∙ ap (λ l. latest_from 0 None l v) (sym c.in_ok-push.ensures.items)

pub returns : goal.returns
returns c =
    let v = c.args.variable in
    let x = c.args.value in
    ap settled c.in_ok-push.ensures.items
    ∙ set_more c.self.inside.sets.items v x (ap (λ o. operand_eq (held o v) x) c.self.view_is ∙ ap (λ o. operand_eq o x) (sym c.read.ensures) ∙ sym c.eq.ensures ∙ c.if-eq.false)
    ∙ ap (λ o. with_out o v x) c.self.view_is
