use Rattle.std.proofs.Common.{◌≡◌, ◌∙◌, ap, ap₂, sym, subst, IfOk, None}
use Rattle.passes.specs.Lowering.Operations.{added, flagged}
use Rattle.passes.specs.Lowering.Guards.{guarded}
use Rattle.passes.specs.Lowering.Expressions.{with_value, under_guard, is_total}
use Rattle.block_draft.specs.declared.operations.Form.{Form}
use Rattle.block_draft.specs.Views.{ops_of, guards_of, evaluated_of, defined_as, plain_form}
use Rattle.block_draft.proofs.Expressing.{computed_total, computed_partial}
use Rattle.block_draft.proofs.expression.emit_computed.Goals as goal

pub returns-in_ok-value : goal.returns-in_ok-value
returns-in_ok-value c =
    let k = c.args.kind in
    let ops = ops_of c.args.ops.now in
    let guards = guards_of c.args.guards.now.items in
    ap (with_value guards k) (c.in_ok-value.ensures ∙ ap₂ (λ (f : Form) l. added ops (defined_as f l)) (c.plain.ensures ∙ ap (plain_form c.args.op) c.width-bits.ensures) c.as_slice.ensures)
    ∙ computed_total c.args.op k c.args.at ops guards c.args.args.items (ap (is_total c.args.op) (sym c.is_signed-signed.ensures) ∙ sym c.is_total.ensures ∙ c.if-is_total.true)

pub returns-else-is_total : goal.returns-else-is_total
returns-else-is_total c =
    let k = c.args.kind in
    let ops = ops_of c.args.ops.now in
    let guards = guards_of c.args.guards.now.items in
    subst (λ e. IfOk c.emit_flagged.result (λ x. evaluated_of c.emit_flagged.new.ops c.emit_flagged.new.guards.items x ≡ e))
    (ap₂ (λ s n. under_guard k (flagged c.args.op s n c.args.args.items None c.args.at) (guarded ops guards)) c.is_signed-signed.ensures c.width-bits.ensures
    ∙ computed_partial c.args.op k c.args.at ops guards c.args.args.items (ap (is_total c.args.op) (sym c.is_signed-signed.ensures) ∙ sym c.is_total.ensures ∙ c.if-is_total.false))
    c.emit_flagged.ensures
