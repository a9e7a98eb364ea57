use Rattle.std.proofs.Common.{◌≡◌, ◌∙◌, ap, sym, subst, IfOk, List, [], ◌∷◌}
use Rattle.c_tree.specs.declared.operator.Unary.TheVariants as u
use Rattle.ir_core.specs.declared.body.OpKind.TheVariants as o
use Rattle.ir_core.specs.declared.body.Operand.{Operand}
use Rattle.passes.specs.Lowering.Operations.{added}
use Rattle.passes.specs.Lowering.Expressions.{with_truth, with_value, computed, unary, unary_of, negated}
use Rattle.block_draft.specs.Views.{ops_of, guards_of, evaluated_of, defined_as, plain_form}
use Rattle.block_draft.proofs.expression.emit_unary.Goals as goal

pub returns-in_ok-operation-in-LogNot : goal.returns-in_ok-operation-in-LogNot
returns-in_ok-operation-in-LogNot c =
    let guards = guards_of c.args.guards.now.items in
    let e = evaluated_of c.args.ops.now c.args.guards.now.items c.args.arg in
    ap (with_truth guards) (c.in_ok-operation-in-LogNot.ensures ∙ ap (λ f. added (ops_of c.condition.new.self) (defined_as f (c.in_ok-bit-in-LogNot.bit ∷ []))) c.plain.ensures)
    ∙ ap (negated guards) c.in_ok-bit-in-LogNot.ensures
    ∙ sym (ap (λ op. unary op c.args.kind c.args.at e) c.in-LogNot.is)

pub returns-in_ok-args-in-Minus : goal.returns-in_ok-args-in-Minus
returns-in_ok-args-in-Minus c =
    let guards = guards_of c.args.guards.now.items in
    let e = evaluated_of c.args.ops.now c.args.guards.now.items c.args.arg in
    subst (λ e. IfOk c.emit_computed.result (λ x. evaluated_of c.emit_computed.new.ops c.emit_computed.new.guards.items x ≡ e))
    (ap (λ (l : List Operand). computed o.Neg c.args.kind c.args.at (ops_of c.balanced.new.self) guards l) c.in_ok-args-in-Minus.ensures.ok
    ∙ ap (unary_of u.Minus c.args.kind c.args.at guards) c.in_ok-arg-in-Minus.ensures
    ∙ sym (ap (λ op. unary op c.args.kind c.args.at e) c.in-Minus.is)) c.emit_computed.ensures

pub returns-in_ok-operation-in-Not : goal.returns-in_ok-operation-in-Not
returns-in_ok-operation-in-Not c =
    let guards = guards_of c.args.guards.now.items in
    let e = evaluated_of c.args.ops.now c.args.guards.now.items c.args.arg in
    ap (with_value guards c.args.kind)
    (c.in_ok-operation-in-Not.ensures ∙ ap (λ f. added (ops_of c.balanced-in-Not.new.self) (defined_as f (c.in_ok-arg-in-Not.arg ∷ []))) (c.plain-form.ensures ∙ ap (plain_form o.Not) c.width.ensures))
    ∙ ap (unary_of u.Not c.args.kind c.args.at guards) c.in_ok-arg-in-Not.ensures
    ∙ sym (ap (λ op. unary op c.args.kind c.args.at e) c.in-Not.is)

pub returns-in_ok-balanced-in-Plus : goal.returns-in_ok-balanced-in-Plus
returns-in_ok-balanced-in-Plus c =
    let guards = guards_of c.args.guards.now.items in
    let e = evaluated_of c.args.ops.now c.args.guards.now.items c.args.arg in
    ap (with_value guards c.args.kind) c.in_ok-balanced-in-Plus.ensures
    ∙ sym (ap (λ op. unary op c.args.kind c.args.at e) c.in-Plus.is)
