use Rattle.std.proofs.Common.{◌≡◌, ◌∙◌, ap, subst, IfOk, [], refl}
use Rattle.c_value.specs.Values.{promoted}
use Rattle.pieces.specs.View.{pure_of}
use Rattle.passes.specs.Lowering.Expressions.{emitted}
use Rattle.passes.specs.Lowering.Blocks.{promoted_given}
use Rattle.block_draft.specs.Views.{ops_of}
use Rattle.block_draft.specs.Drafts.{cases_of, cases_behind}
use Rattle.block_draft.proofs.draft.Draft.cases.Goals as goal

pub returns-clause-cases : goal.returns-clause-cases
returns-clause-cases c =
    let d = c.args.self.now in
    let labels = c.args.labels.now in
    subst (λ r. IfOk c.emit_cases.result (λ cases. cases_of c.emit_cases.new.ops cases.items ≡ r))
    (ap (cases_behind c.promoted-kind.result labels) c.in_ok-value.ensures
    ∙ ap (λ k. cases_behind k labels (promoted_given k (emitted d.outs (pure_of c.args.test.now) (ops_of d.ops) []))) (c.promoted-kind.ensures ∙ ap promoted c.kind_of.ensures))
    c.emit_cases.ensures

pub returns-clause-outs : goal.returns-clause-outs
returns-clause-outs c = refl
