use Rattle.std.proofs.Common.{ap, sym, subst, ◌∙◌, ◌≡◌, arith, length}
use Rattle.std.specs.Vec.Iter.{into_iter_items, into_iter_steps}
use Rattle.std.specs.Prelude.{IfOk}
use Rattle.hls_base.specs.Refusals.{IfRefused}
use Rattle.pieces.specs.Trees as tree
use Rattle.pieces.specs.Trees.{PureTree}
use Rattle.pieces.specs.View.{pure_of, pures_of}
use Rattle.piece_making.specs.Making.{Part}
use Rattle.piece_making.specs.Stocks.{stock, IsMade, IsTooHeavy}
use Rattle.piece_making.proofs.SavingLaws.{unary_made, unary_heavy, cast_made, cast_heavy, binary_made, binary_heavy, binary_heavy_second, binary_heavy_last, choice_made, choice_heavy, choice_heavy_second, choice_heavy_third, choice_heavy_last, element_made, element_heavy, element_heavy_set, further_made, further_heavy, first_heavy, ended}
use Rattle.piece_making.proofs.PureForms.{element_tree, unary_tree, binary_tree, choice_tree, cast_tree}
use Rattle.piece_making.proofs.Exits.{through, IfOk-weaker, IfRefused-weaker}
use Rattle.piece_making.proofs.saving.+saving.Goals as goal

pub saved-returns-in_err-given-in-Element-clause-refused : goal.saved-returns-in_err-given-in-Element-clause-refused
saved-returns-in_err-given-in-Element-clause-refused t c =
    let e : pure_of c.args.pure ≡ tree.element c.in-Element.array (pures_of c.in-Element.subscripts.items) c.in-Element.kind c.in-Element.at = ap pure_of c.in-Element.is ∙ element_tree c.in-Element.array c.in-Element.subscripts c.in-Element.kind c.in-Element.at in
    through _ c.in_err-given-in-Element.field-0.0 _ _ c.from_residual.ensures.1 (λ y e. e) c.in_err-given-in-Element.ensures.refused (λ r h. element_heavy c.args.saver.file_variables c.args.saver.calls (pure_of c.args.pure) _ _ _ _ _ _ e h)

pub saved-returns-in_ok-given-in-Element-clause-made : goal.saved-returns-in_ok-given-in-Element-clause-made
saved-returns-in_ok-given-in-Element-clause-made t c =
    let e : pure_of c.args.pure ≡ tree.element c.in-Element.array (pures_of c.in-Element.subscripts.items) c.in-Element.kind c.in-Element.at = ap pure_of c.in-Element.is ∙ element_tree c.in-Element.array c.in-Element.subscripts c.in-Element.kind c.in-Element.at in
    IfOk-weaker c.set_own.result _ _ (λ z h. element_made c.args.saver.file_variables c.args.saver.calls (pure_of c.args.pure) (pure_of z) _ _ _ _ _ (pure_of c.element-read.result) _ _ _ e c.element-read.ensures c.in_ok-given-in-Element.ensures.made h) c.set_own.ensures.made

pub saved-returns-in_ok-given-in-Element-clause-refused : goal.saved-returns-in_ok-given-in-Element-clause-refused
saved-returns-in_ok-given-in-Element-clause-refused t c =
    let e : pure_of c.args.pure ≡ tree.element c.in-Element.array (pures_of c.in-Element.subscripts.items) c.in-Element.kind c.in-Element.at = ap pure_of c.in-Element.is ∙ element_tree c.in-Element.array c.in-Element.subscripts c.in-Element.kind c.in-Element.at in
    IfRefused-weaker c.set_own.result _ _ (λ r h. element_heavy_set c.args.saver.file_variables c.args.saver.calls (pure_of c.args.pure) _ _ _ _ _ (pure_of c.element-read.result) _ _ _ e c.element-read.ensures c.in_ok-given-in-Element.ensures.made h) c.set_own.ensures.refused

pub saved-returns-in_err-arg-in-Unary-clause-refused : goal.saved-returns-in_err-arg-in-Unary-clause-refused
saved-returns-in_err-arg-in-Unary-clause-refused t c =
    let e : pure_of c.args.pure ≡ tree.unary c.in-Unary.op (pure_of c.in-Unary.arg.value) c.in-Unary.kind c.in-Unary.at = ap pure_of c.in-Unary.is ∙ unary_tree c.in-Unary.op c.in-Unary.arg c.in-Unary.kind c.in-Unary.at in
    through _ c.in_err-arg-in-Unary.field-0.0 _ _ c.from_residual-in_err-arg-in-Unary.ensures.1 (λ y e. e) c.in_err-arg-in-Unary.ensures.refused (λ r h. unary_heavy c.args.saver.file_variables c.args.saver.calls (pure_of c.args.pure) _ _ _ _ _ _ e h)

pub saved-returns-in_ok-unary-in-Unary-clause-made : goal.saved-returns-in_ok-unary-in-Unary-clause-made
saved-returns-in_ok-unary-in-Unary-clause-made t c =
    let e : pure_of c.args.pure ≡ tree.unary c.in-Unary.op (pure_of c.in-Unary.arg.value) c.in-Unary.kind c.in-Unary.at = ap pure_of c.in-Unary.is ∙ unary_tree c.in-Unary.op c.in-Unary.arg c.in-Unary.kind c.in-Unary.at in
    unary_made c.args.saver.file_variables c.args.saver.calls (pure_of c.args.pure) _ _ _ _ _ _ _ _ e c.in_ok-unary-in-Unary.ensures c.in_ok-arg-in-Unary.ensures.made

pub saved-returns-in_err-arg-in-Cast-clause-refused : goal.saved-returns-in_err-arg-in-Cast-clause-refused
saved-returns-in_err-arg-in-Cast-clause-refused t c =
    let e : pure_of c.args.pure ≡ tree.cast c.in-Cast.to (pure_of c.in-Cast.arg.value) = ap pure_of c.in-Cast.is ∙ cast_tree c.in-Cast.to c.in-Cast.arg in
    through _ c.in_err-arg-in-Cast.field-0.0 _ _ c.from_residual-in_err-arg-in-Cast.ensures.1 (λ y e. e) c.in_err-arg-in-Cast.ensures.refused (λ r h. cast_heavy c.args.saver.file_variables c.args.saver.calls (pure_of c.args.pure) _ _ _ _ e h)

pub saved-returns-in_ok-cast-in-Cast-clause-made : goal.saved-returns-in_ok-cast-in-Cast-clause-made
saved-returns-in_ok-cast-in-Cast-clause-made t c =
    let e : pure_of c.args.pure ≡ tree.cast c.in-Cast.to (pure_of c.in-Cast.arg.value) = ap pure_of c.in-Cast.is ∙ cast_tree c.in-Cast.to c.in-Cast.arg in
    cast_made c.args.saver.file_variables c.args.saver.calls (pure_of c.args.pure) _ _ _ _ _ _ e c.in_ok-cast-in-Cast.ensures c.in_ok-arg-in-Cast.ensures.made

pub saved-returns-in_err-left-in-Binary-clause-refused : goal.saved-returns-in_err-left-in-Binary-clause-refused
saved-returns-in_err-left-in-Binary-clause-refused t c =
    let e : pure_of c.args.pure ≡ tree.binary c.in-Binary.op (pure_of c.in-Binary.left.value) (pure_of c.in-Binary.right.value) c.in-Binary.kind c.in-Binary.at = ap pure_of c.in-Binary.is ∙ binary_tree c.in-Binary.op c.in-Binary.left c.in-Binary.right c.in-Binary.kind c.in-Binary.at in
    through _ c.in_err-left-in-Binary.field-0.0 _ _ c.from_residual-in_err-left-in-Binary.ensures.1 (λ y e. e) c.in_err-left-in-Binary.ensures.refused (λ r h. binary_heavy c.args.saver.file_variables c.args.saver.calls (pure_of c.args.pure) _ _ _ _ _ c.may_skip_element-whole.result e c.may_skip_element-whole.ensures _ _ h)

pub saved-returns-in_err-right-in-Binary-clause-refused : goal.saved-returns-in_err-right-in-Binary-clause-refused
saved-returns-in_err-right-in-Binary-clause-refused t c =
    let e : pure_of c.args.pure ≡ tree.binary c.in-Binary.op (pure_of c.in-Binary.left.value) (pure_of c.in-Binary.right.value) c.in-Binary.kind c.in-Binary.at = ap pure_of c.in-Binary.is ∙ binary_tree c.in-Binary.op c.in-Binary.left c.in-Binary.right c.in-Binary.kind c.in-Binary.at in
    through _ c.in_err-right-in-Binary.field-0.0 _ _ c.from_residual-in_err-right-in-Binary.ensures.1 (λ y e. e) c.in_err-right-in-Binary.ensures.refused (λ r h. binary_heavy_second c.args.saver.file_variables c.args.saver.calls (pure_of c.args.pure) _ _ _ _ _ c.may_skip_element-whole.result e c.may_skip_element-whole.ensures _ _ _ _ c.in_ok-left-in-Binary.ensures.made h)

pub saved-returns-in_ok-value-in-Binary-clause-made : goal.saved-returns-in_ok-value-in-Binary-clause-made
saved-returns-in_ok-value-in-Binary-clause-made t c =
    let e : pure_of c.args.pure ≡ tree.binary c.in-Binary.op (pure_of c.in-Binary.left.value) (pure_of c.in-Binary.right.value) c.in-Binary.kind c.in-Binary.at = ap pure_of c.in-Binary.is ∙ binary_tree c.in-Binary.op c.in-Binary.left c.in-Binary.right c.in-Binary.kind c.in-Binary.at in
    IfOk-weaker c.set_if.result _ _ (λ z h. binary_made c.args.saver.file_variables c.args.saver.calls (pure_of c.args.pure) _ _ _ _ _ c.may_skip_element-whole.result e c.may_skip_element-whole.ensures _ _ _ (pure_of z) _ _ _ _ c.in_ok-left-in-Binary.ensures.made c.in_ok-right-in-Binary.ensures.made c.in_ok-value-in-Binary.ensures h) c.set_if.ensures.made

pub saved-returns-in_ok-value-in-Binary-clause-refused : goal.saved-returns-in_ok-value-in-Binary-clause-refused
saved-returns-in_ok-value-in-Binary-clause-refused t c =
    let e : pure_of c.args.pure ≡ tree.binary c.in-Binary.op (pure_of c.in-Binary.left.value) (pure_of c.in-Binary.right.value) c.in-Binary.kind c.in-Binary.at = ap pure_of c.in-Binary.is ∙ binary_tree c.in-Binary.op c.in-Binary.left c.in-Binary.right c.in-Binary.kind c.in-Binary.at in
    IfRefused-weaker c.set_if.result _ _ (λ r h. binary_heavy_last c.args.saver.file_variables c.args.saver.calls (pure_of c.args.pure) _ _ _ _ _ c.may_skip_element-whole.result e c.may_skip_element-whole.ensures _ _ _ _ _ _ _ c.in_ok-left-in-Binary.ensures.made c.in_ok-right-in-Binary.ensures.made c.in_ok-value-in-Binary.ensures h) c.set_if.ensures.refused

pub saved-returns-in_err-test-in-Choice-clause-refused : goal.saved-returns-in_err-test-in-Choice-clause-refused
saved-returns-in_err-test-in-Choice-clause-refused t c =
    let e : pure_of c.args.pure ≡ tree.choice (pure_of c.in-Choice.test.value) (pure_of c.in-Choice.yes.value) (pure_of c.in-Choice.no.value) c.in-Choice.kind = ap pure_of c.in-Choice.is ∙ choice_tree c.in-Choice.test c.in-Choice.yes c.in-Choice.no c.in-Choice.kind in
    through _ c.in_err-test-in-Choice.field-0.0 _ _ c.from_residual-in_err-test-in-Choice.ensures.1 (λ y e. e) c.in_err-test-in-Choice.ensures.refused (λ r h. choice_heavy c.args.saver.file_variables c.args.saver.calls (pure_of c.args.pure) _ _ _ _ c.may_skip_element-whole.result e c.may_skip_element-whole.ensures _ _ h)

pub saved-returns-in_err-yes-in-Choice-clause-refused : goal.saved-returns-in_err-yes-in-Choice-clause-refused
saved-returns-in_err-yes-in-Choice-clause-refused t c =
    let e : pure_of c.args.pure ≡ tree.choice (pure_of c.in-Choice.test.value) (pure_of c.in-Choice.yes.value) (pure_of c.in-Choice.no.value) c.in-Choice.kind = ap pure_of c.in-Choice.is ∙ choice_tree c.in-Choice.test c.in-Choice.yes c.in-Choice.no c.in-Choice.kind in
    through _ c.in_err-yes-in-Choice.field-0.0 _ _ c.from_residual-in_err-yes-in-Choice.ensures.1 (λ y e. e) c.in_err-yes-in-Choice.ensures.refused (λ r h. choice_heavy_second c.args.saver.file_variables c.args.saver.calls (pure_of c.args.pure) _ _ _ _ c.may_skip_element-whole.result e c.may_skip_element-whole.ensures _ _ _ _ c.in_ok-test-in-Choice.ensures.made h)

pub saved-returns-in_err-no-in-Choice-clause-refused : goal.saved-returns-in_err-no-in-Choice-clause-refused
saved-returns-in_err-no-in-Choice-clause-refused t c =
    let e : pure_of c.args.pure ≡ tree.choice (pure_of c.in-Choice.test.value) (pure_of c.in-Choice.yes.value) (pure_of c.in-Choice.no.value) c.in-Choice.kind = ap pure_of c.in-Choice.is ∙ choice_tree c.in-Choice.test c.in-Choice.yes c.in-Choice.no c.in-Choice.kind in
    through _ c.in_err-no-in-Choice.field-0.0 _ _ c.from_residual-in_err-no-in-Choice.ensures.1 (λ y e. e) c.in_err-no-in-Choice.ensures.refused (λ r h. choice_heavy_third c.args.saver.file_variables c.args.saver.calls (pure_of c.args.pure) _ _ _ _ c.may_skip_element-whole.result e c.may_skip_element-whole.ensures _ _ _ _ _ _ c.in_ok-test-in-Choice.ensures.made c.in_ok-yes-in-Choice.ensures.made h)

pub saved-returns-in_ok-value-in-Choice-clause-made : goal.saved-returns-in_ok-value-in-Choice-clause-made
saved-returns-in_ok-value-in-Choice-clause-made t c =
    let e : pure_of c.args.pure ≡ tree.choice (pure_of c.in-Choice.test.value) (pure_of c.in-Choice.yes.value) (pure_of c.in-Choice.no.value) c.in-Choice.kind = ap pure_of c.in-Choice.is ∙ choice_tree c.in-Choice.test c.in-Choice.yes c.in-Choice.no c.in-Choice.kind in
    IfOk-weaker c.set_if-in-Choice.result _ _ (λ z h. choice_made c.args.saver.file_variables c.args.saver.calls (pure_of c.args.pure) _ _ _ _ c.may_skip_element-whole.result e c.may_skip_element-whole.ensures _ _ _ _ (pure_of z) _ _ _ _ _ c.in_ok-test-in-Choice.ensures.made c.in_ok-yes-in-Choice.ensures.made c.in_ok-no-in-Choice.ensures.made c.in_ok-value-in-Choice.ensures h) c.set_if-in-Choice.ensures.made

pub saved-returns-in_ok-value-in-Choice-clause-refused : goal.saved-returns-in_ok-value-in-Choice-clause-refused
saved-returns-in_ok-value-in-Choice-clause-refused t c =
    let e : pure_of c.args.pure ≡ tree.choice (pure_of c.in-Choice.test.value) (pure_of c.in-Choice.yes.value) (pure_of c.in-Choice.no.value) c.in-Choice.kind = ap pure_of c.in-Choice.is ∙ choice_tree c.in-Choice.test c.in-Choice.yes c.in-Choice.no c.in-Choice.kind in
    IfRefused-weaker c.set_if-in-Choice.result _ _ (λ r h. choice_heavy_last c.args.saver.file_variables c.args.saver.calls (pure_of c.args.pure) _ _ _ _ c.may_skip_element-whole.result e c.may_skip_element-whole.ensures _ _ _ _ _ _ _ _ _ c.in_ok-test-in-Choice.ensures.made c.in_ok-yes-in-Choice.ensures.made c.in_ok-no-in-Choice.ensures.made c.in_ok-value-in-Choice.ensures h) c.set_if-in-Choice.ensures.refused

pub all_saved-loop-pure-preserved : goal.all_saved-loop-pure-preserved
all_saved-loop-pure-preserved t c =
    let step = subst (λ r. into_iter_steps c.loop-pure.pure-iterator r c.next.new.self) c.in-Some.is c.next.ensures.steps in
    record {
      made = λ new v h. c.loop-pure.invariant.made new v (further_made c.args.saver.file_variables c.args.saver.calls c.in-Some.pure _ _ _ _ _ _ _ new v step.0 c.in_ok-push.ensures.items c.in_ok-saved.ensures.made h);
      refused = λ r h. c.loop-pure.invariant.refused r (further_heavy c.args.saver.file_variables c.args.saver.calls c.in-Some.pure _ _ _ _ _ _ _ r step.0 c.in_ok-push.ensures.items c.in_ok-saved.ensures.made h);
      left = let e = c.loop-pure.invariant.left in let f = ap length step.0 in omega (arith, step.1);
    }

pub all_saved-returns-in_err-saved-clause-refused : goal.all_saved-returns-in_err-saved-clause-refused
all_saved-returns-in_err-saved-clause-refused t c =
    let step = subst (λ r. into_iter_steps c.loop-pure.pure-iterator r c.next.new.self) c.in-Some.is c.next.ensures.steps in
    through _ c.in_err-saved.field-0.0 _ _ c.from_residual.ensures.1 (λ y e. e) c.in_err-saved.ensures.refused (λ r h. c.loop-pure.invariant.refused r (first_heavy c.args.saver.file_variables c.args.saver.calls c.in-Some.pure _ _ _ _ r step.0 h))

pub all_saved-returns-clause-made : goal.all_saved-returns-clause-made
all_saved-returns-clause-made t c =
    let step = subst (λ r. into_iter_steps c.loop-pure.pure-iterator r c.next.new.self) c.in-None.is c.next.ensures.steps in
    c.loop-pure.invariant.made _ _ (ended c.args.saver.file_variables c.args.saver.calls (into_iter_items c.loop-pure.pure-iterator) c.loop-pure.all.items (stock c.loop-pure.work) (omega (arith, step.0, c.loop-pure.invariant.left)))
