use Rattle.std.proofs.Common.{◌∙◌, sym, ap}
use Rattle.c_tree.specs.View.{tree_of}
use Rattle.c_value.specs.Values.{common}
use Rattle.c_value.specs.Operators.{computed_of}
use Rattle.c_value.specs.Constant.{constant_kind, constant_number}
use Rattle.c_value.specs.Chains.{left_of}
use Rattle.c_value.proofs.Chaining.{one_less, no_operator, next_kind, next_number}
use Rattle.c_value.proofs.Choosing.{chosen_same, choice_number}
use Rattle.c_value.proofs.constant.+evaluate.Goals as goal

pub evaluate-outwards-preserved-in-Binary : goal.evaluate-outwards-preserved-in-Binary
evaluate-outwards-preserved-in-Binary t c =
    let whole = tree_of c.args.e.now in
    let depth = c.outwards.depth in
    let node = c.part_at-in-outwards.result.now in
    let here = c.part_at-in-outwards.ensures.tree in
    let step = c.in-Binary in
    let right_kind = c.evaluate.ensures.kind ∙ ap (λ e. constant_kind (tree_of e)) c.deref.ensures in
    let right_number = c.evaluate.ensures.number ∙ ap (λ e. constant_number (tree_of e)) c.deref.ensures in
    record {
      kind = c.of_binary-whole.ensures.kind
          ∙ next_kind whole depth node step.op step.left step.right step.at c.outwards-test.true here step.is _ _ c.outwards.invariant.kind right_kind;
      number = c.of_binary-whole.ensures.number
          ∙ next_number whole depth node step.op step.left step.right step.at c.outwards-test.true here step.is _ _ (computed_of c.outwards.whole.number) _ c.outwards.invariant.kind right_kind c.outwards.invariant.number right_number;
    }

pub evaluate-outwards-preserved : goal.evaluate-outwards-preserved
evaluate-outwards-preserved t c =
    let whole = tree_of c.args.e.now in
    let here = c.part_at-in-outwards.ensures.tree in
    let same = one_less whole c.outwards.depth c.outwards-test.true
    ∙ ap left_of (sym here) ∙ no_operator c.part_at-in-outwards.result.now c.in_default.not-Binary ∙ here in
    record {
      kind = c.outwards.invariant.kind ∙ ap constant_kind same;
      number = c.outwards.invariant.number ∙ ap constant_number same;
    }

pub evaluate_part-returns-in-Choice-clause-number : goal.evaluate_part-returns-in-Choice-clause-number
evaluate_part-returns-in-Choice-clause-number t c =
    let test = c.evaluate-in-Choice in
    let yes = c.evaluate-in-Choice-2 in
    let no = c.evaluate-in-Choice-3 in
    let left = ap (λ e. constant_kind (tree_of e)) c.deref-in-Choice-2.ensures in
    let right = ap (λ e. constant_kind (tree_of e)) c.deref-in-Choice-3.ensures in
    c.of_choice.ensures.number
    ∙ chosen_same _ _ _ _ _ _ _ _ (ap (λ k. common k no.result.kind) (yes.ensures.kind ∙ left) ∙ ap (common (constant_kind (tree_of c.in-Choice.yes.value))) (no.ensures.kind ∙ right))
    (test.ensures.number ∙ ap (λ e. constant_number (tree_of e)) c.deref-in-Choice.ensures)
    (yes.ensures.number ∙ ap (λ e. constant_number (tree_of e)) c.deref-in-Choice-2.ensures)
    (no.ensures.number ∙ ap (λ e. constant_number (tree_of e)) c.deref-in-Choice-3.ensures)
    ∙ sym (choice_number c.in-Choice.test c.in-Choice.yes c.in-Choice.no c.in-Choice.at c.in-Choice.colon)
    ∙ ap (λ e. constant_number (tree_of e)) (sym c.in-Choice.is)
