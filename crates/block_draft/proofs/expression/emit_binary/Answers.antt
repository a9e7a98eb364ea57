use Rattle.std.proofs.Common.{◌≡◌, ◌∙◌, ap, ap₂, sym, subst, IfOk}
use Rattle.ir_core.specs.declared.body.Operand.{Operand}
use Rattle.std.proofs.Common.{List}
use Rattle.passes.specs.Lowering.Expressions.{with_truth, computed}
use Rattle.block_draft.specs.Views.{ops_of, guards_of, evaluated_of}
use Rattle.block_draft.proofs.Expressing.{operated_by, operated_is}
use Rattle.block_draft.proofs.expression.emit_binary.Goals as goal

pub returns-in_ok-compare-in-Some : goal.returns-in_ok-compare-in-Some
returns-in_ok-compare-in-Some c =
    let o = c.args.operator in
    let ops = ops_of c.args.ops.now in
    let guards = guards_of c.args.guards.now.items in
    ap (with_truth guards) c.in_ok-compare-in-Some.ensures
    ∙ ap (λ f. operated_by f o.op c.args.kind o.at ops guards c.args.left c.args.right) (sym c.in-Some.is ∙ c.comparison_of.ensures)
    ∙ operated_is o.op c.args.kind o.at ops guards c.args.left c.args.right

pub returns-in_ok-args-in-None : goal.returns-in_ok-args-in-None
returns-in_ok-args-in-None c =
    let o = c.args.operator in
    let ops = ops_of c.args.ops.now in
    let guards = guards_of c.args.guards.now.items in
    subst (λ e. IfOk c.emit_computed.result (λ x. evaluated_of c.emit_computed.new.ops c.emit_computed.new.guards.items x ≡ e))
    (ap₂ (λ f (l : List Operand). computed f c.args.kind o.at ops guards l) c.operation_of.ensures c.in_ok-args-in-None.ensures.ok
    ∙ ap (λ f. operated_by f o.op c.args.kind o.at ops guards c.args.left c.args.right) (sym c.in-None.is ∙ c.comparison_of.ensures)
    ∙ operated_is o.op c.args.kind o.at ops guards c.args.left c.args.right) c.emit_computed.ensures
