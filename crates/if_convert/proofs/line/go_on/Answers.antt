use Rattle.std.proofs.Common.{◌≡◌, ◌∙◌, ap, sym, Option}
use Rattle.std.specs.Prelude.{IfOk}
use Rattle.std.proofs.lemmas.Result.{IfOk-weaker}
use Rattle.ir_core.specs.Trees.{block_of, shape_of, sequence, SequenceTree}
use Rattle.passes.specs.Conversion.Merging as m
use Rattle.passes.specs.Conversion.Merging.{opened, joined, merged}
use Rattle.passes.specs.Conversion.{part_before, behind, going_on, converted_behind}
use Rattle.if_convert.specs.Blocks.{scope_of, open_of, branches_of, last_of, before_last, behind_shape}
use Rattle.if_convert.proofs.Rows.{both_ok}
use Rattle.if_convert.proofs.line.go_on.Goals as goal

pub returns-in-Branches : goal.returns-in-Branches
returns-in-Branches c = λ more.
    let scope = scope_of c.args.scope in
    let line = c.args.line in
    let b = last_of line in
    let shape = shape_of c.args.shape in
    let after = block_of c.args.after in
    let f = branches_of c.in-Branches.branches in
    let found = ap (λ e. m.branches_of e shape) (sym c.exit.ensures) ∙ c.in-Branches.ensures in
    both_ok c.merged.result (λ gone. last_of gone ≡ joined scope.widths (merged scope.widths b f) after) (λ s gone. before_last gone s ≡ before_last line s)
    (λ gone. before_last gone (converted_behind scope (last_of gone) more) ≡ before_last line (behind_shape scope b shape after more)) c.merged.ensures.last c.merged.ensures.before
    (λ gone last before.
    before (converted_behind scope (last_of gone) more) ∙ ap (λ x. before_last line (converted_behind scope x more)) last
    ∙ sym (ap (λ (x : Option m.Branches). before_last line (behind b shape x (converted_behind scope (going_on scope.widths b x after) more))) found))

pub returns-in_ok-last-in-Shape : goal.returns-in_ok-last-in-Shape
returns-in_ok-last-in-Shape c = λ more.
    let scope = scope_of c.args.scope in
    let line = c.args.line in
    let b = last_of line in
    let shape = shape_of c.args.shape in
    let after = block_of c.args.after in
    let found = ap (λ e. m.branches_of e shape) (sym c.exit.ensures) ∙ c.in-Shape.ensures.0 in
    both_ok c.extend_by.result (λ gone. last_of gone ≡ opened after) (λ s gone. before_last gone s ≡ before_last line (sequence b (part_before shape s)))
    (λ gone. before_last gone (converted_behind scope (last_of gone) more) ≡ before_last line (behind_shape scope b shape after more))
    (last_is c.in_ok-last-in-Shape.ensures c.extend_by.ensures.last) (before_is c.in-Shape.ensures.1 c.extend_by.ensures.before)
    (λ gone last before.
    before (converted_behind scope (last_of gone) more) ∙ ap (λ x. before_last line (sequence b (part_before shape (converted_behind scope x more)))) last
    ∙ sym (ap (λ (x : Option m.Branches). before_last line (behind b shape x (converted_behind scope (going_on scope.widths b x after) more))) found)) where
      last_is : open_of c.in_ok-last-in-Shape.last ≡ opened (block_of c.args.after) → IfOk c.extend_by.result (λ gone. last_of gone ≡ open_of c.in_ok-last-in-Shape.last) → IfOk c.extend_by.result (λ gone. last_of gone ≡ opened (block_of c.args.after))
      last_is e h = IfOk-weaker c.extend_by.result _ _ (λ gone q. q ∙ e) h

      before_is : shape_of c.in-Shape.shape ≡ shape_of c.args.shape
          → ((s : SequenceTree) → IfOk c.extend_by.result (λ gone. before_last gone s ≡ before_last c.args.line (sequence (last_of c.args.line) (part_before (shape_of c.in-Shape.shape) s))))
          → (s : SequenceTree) → IfOk c.extend_by.result (λ gone. before_last gone s ≡ before_last c.args.line (sequence (last_of c.args.line) (part_before (shape_of c.args.shape) s)))
      before_is e h s = IfOk-weaker c.extend_by.result _ _ (λ gone q. q ∙ ap (λ x. before_last c.args.line (sequence (last_of c.args.line) (part_before x s))) e) (h s)
