use Rattle.std.proofs.Common.{◌∙◌, ap, sym}
use Rattle.ir_core.specs.declared.body.OpKind.TheVariants as o
use Rattle.passes.specs.Lowering.Blocks.{case_or}
use Rattle.block_draft.specs.Views.{ops_of, made, plain_form}
use Rattle.block_draft.specs.Drafts.{with_earlier}
use Rattle.block_draft.proofs.Drafting.{case_step, case_made}
use Rattle.block_draft.proofs.draft.add_case.Goals as goal

pub returns-in_ok-push-in-Some : goal.returns-in_ok-push-in-Some
returns-in_ok-push-in-Some c = λ rest.
    case_step c.args.cases.now.items c.push.new.self.items (made c.operation.new.self c.in_ok-operation-in-Some.field-0) _ rest c.in_ok-push-in-Some.ensures.items
    (c.in_ok-operation-in-Some.ensures
    ∙ case_made (ops_of c.args.ops.now) c.args.kind c.args.value c.plain-form.result c.constant.result c.in-Some.word (c.plain-form.ensures ∙ ap (plain_form o.Eq) c.width.ensures) c.constant.ensures)
    ∙ sym (ap (λ l. with_earlier c.args.cases.now.items (case_or c.args.kind c.args.value (ops_of c.args.ops.now) l rest)) c.in-Some.is)

pub returns-in-None : goal.returns-in-None
returns-in-None c = λ rest. sym (ap (λ l. with_earlier c.args.cases.now.items (case_or c.args.kind c.args.value (ops_of c.args.ops.now) l rest)) c.in-None.is)
