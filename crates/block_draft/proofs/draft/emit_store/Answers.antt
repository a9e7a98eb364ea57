use Rattle.std.proofs.Common.{◌≡◌, ◌∙◌, ap, ap₂, subst, IfOk, List, Some, None}
use Rattle.pieces.specs.View.{pure_of, pures_of}
use Rattle.ir_core.specs.declared.body.OpKind.TheVariants as o
use Rattle.ir_core.specs.declared.body.Operand.{Operand}
use Rattle.passes.specs.Lowering.Operations.{added}
use Rattle.passes.specs.Lowering.Expressions.{Evaluated, emitted_all}
use Rattle.passes.specs.Lowering.Blocks.{given_as, stored}
use Rattle.block_draft.specs.Views.{ops_of, guards_of, made, plain_form, flagged_as}
use Rattle.block_draft.specs.Drafts.{stored_behind}
use Rattle.block_draft.proofs.draft.emit_store.Goals as goal

pub returns : goal.returns
returns c =
    let k = c.args.kind in
    let xs = c.in_ok-args.args.items in
    subst (λ r. IfOk c.flagged.result (λ x. made c.flagged.new.self x ≡ r))
    (ap₂ (λ f (l : List Operand). added (ops_of c.converted.new.self) (flagged_as f l (Some c.args.array) c.args.at None)) (c.plain-form.ensures ∙ ap (plain_form o.Store) c.width.ensures) c.in_ok-push.ensures.ok
    ∙ ap (stored c.args.array k c.args.at xs) c.in_ok-converted.ensures
    ∙ ap (λ (e : Evaluated). stored c.args.array k c.args.at xs (given_as k e)) c.in_ok-given.ensures
    ∙ ap (stored_behind c.args.outs.now c.args.array k (pure_of c.args.value.now) c.args.at)
    (c.in_ok-args.ensures ∙ ap (λ l. emitted_all c.args.outs.now (pures_of c.args.subscripts.now.items) (ops_of c.args.ops.now) (guards_of l)) c.new-guards.ensures.items))
    c.flagged.ensures
