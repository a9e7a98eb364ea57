use Rattle.std.proofs.Common.{◌≡◌, ◌∙◌, ◌+◌, ◌≤◌, ◌++◌, ◌∷◌, [], subst, sym, ap, ap₂, arith, IfOk, None, Some, true, drop, drop-cons}
use Rattle.std.proofs.lemmas.Result.{IfOk-weaker}
use Rattle.pieces.specs.View.{pure_of, pures_of}
use Rattle.pieces.specs.Kind.{kind}
use Rattle.pieces.specs.declared.pure_expr.Pure.{size-Pure}
use Rattle.pieces.specs.declared.pure_expr.Pure.TheViews.{sized-Binary}
use Rattle.ir_core.specs.declared.body.OpKind.TheVariants as o
use Rattle.passes.specs.Lowering.Operations.{gives, added, tested}
use Rattle.passes.specs.Lowering.Expressions.{Evaluated, emitted, emitted_all, with_value, loaded, unary, cast_to, subscript}
use Rattle.block_draft.specs.declared.expression.Kinds.{Kinds}
use Rattle.block_draft.specs.Views.{ops_of, guards_of, made, evaluated_of, defined_as, plain_form}
use Rattle.block_draft.specs.Operators.{behind_left, unwound, with_front, joined_by, joined_to, joined_with, operand_kinds, side_of, sided, chosen_other, chosen}
use Rattle.block_draft.proofs.Sizes.{AllWithin, within_more, within_front, within_last}
use Rattle.block_draft.proofs.PureForms.{number_tree, variable_tree, element_tree, unary_tree, binary_tree, choice_tree, cast_tree}
use Rattle.block_draft.proofs.Expressing.{behind_is, behind_left_is, unwound_more, subscript_step, junction_step, joined_step, sided_step, other_step, choice_is}
use Rattle.block_draft.proofs.expression.+expression.Goals as goal

pub emit-inner-preserved : goal.emit-inner-preserved
emit-inner-preserved t c =
    let n = size-Pure c.args.pure.now in
    let b = c.in-Binary in
    let outs = c.args.outs.now in
    let ops = ops_of c.args.ops.now in
    let guards = guards_of c.args.guards.now.items in
    let grown : c.push.new.self.items ≡ c.inner.behind.items ++ c.inner.part ∷ [] = c.in_ok-push.ensures.items in
    record {
      no_deeper = omega (arith, c.inner.invariant.no_deeper, ap size-Pure c.deref-part.ensures, ap size-Pure b.is, sized-Binary b.op b.left b.right b.kind b.at);
      within = subst (AllWithin n) (sym grown) (within_more n c.inner.behind.items c.inner.part c.inner.invariant.within c.inner.invariant.no_deeper);
      whole =
          ap (λ l. unwound outs l (emitted outs (pure_of c.deref-part.result.now) ops guards)) grown
          ∙ unwound_more outs c.inner.behind.items c.inner.part (emitted outs (pure_of c.deref-part.result.now) ops guards)
          ∙ ap (λ p. unwound outs c.inner.behind.items (behind_left outs (pure_of c.inner.part.now) (emitted outs (pure_of p) ops guards))) c.deref-part.ensures
          ∙ ap (unwound outs c.inner.behind.items) (behind_left_is outs b.op (pure_of b.left.value) (pure_of b.right.value) b.kind b.at (pure_of c.inner.part.now) ops guards (ap pure_of b.is ∙ binary_tree b.op b.left b.right b.kind b.at))
          ∙ c.inner.invariant.whole;
    }

pub emit-emit_part-requires : goal.emit-emit_part-requires
emit-emit_part-requires t c = (omega (arith, c.decreases, c.inner.invariant.no_deeper), tt)

pub emit-outer-init : goal.emit-outer-init
emit-outer-init t c = record {
  within = c.inner.invariant.within;
  whole = ap (unwound c.args.outs.now c.inner.behind.items) c.in_ok-given.ensures ∙ c.inner.invariant.whole;
}

pub emit-emit_operator-requires : goal.emit-emit_operator-requires
emit-emit_operator-requires t c =
    let n = size-Pure c.args.pure.now in
    let no_larger : size-Pure c.in-Some.operator.now ≤ n = within_last n c.pop.new.self.items c.in-Some.operator (subst (AllWithin n) c.in-Some.ensures.items c.outer.invariant.within) in
    (omega (arith, c.decreases, no_larger), tt)

pub emit-outer-preserved : goal.emit-outer-preserved
emit-outer-preserved t c =
    let n = size-Pure c.args.pure.now in
    let outs = c.args.outs.now in
    let e = evaluated_of c.outer.ops c.outer.guards.items c.outer.given in
    record {
      within = within_front n c.pop.new.self.items (c.in-Some.operator ∷ []) (subst (AllWithin n) c.in-Some.ensures.items c.outer.invariant.within);
      whole =
          ap (unwound outs c.pop.new.self.items) c.in_ok-given-2.ensures ∙ sym (unwound_more outs c.pop.new.self.items c.in-Some.operator e)
          ∙ ap (λ l. unwound outs l e) (sym c.in-Some.ensures.items) ∙ c.outer.invariant.whole;
    }

pub emit_all-loop-pure-preserved : goal.emit_all-loop-pure-preserved
emit_all-loop-pure-preserved t c =
    let outs = c.args.outs.now in
    let i = c.loop-pure.pure-index in
    let pures = c.args.pures.now.items in
    let xs = c.loop-pure.args.items in
    let rest = emitted_all outs (pures_of (drop (i + 1) pures)) in
    let first = evaluated_of c.emit.new.ops c.emit.new.guards.items c.in_ok-given.given in
    let split : drop i pures ≡ c.pure-item.result ∷ drop (i + 1) pures = grind (arith, drop-cons, c.pure-item.is, c.loop-pure-test.true, c.deref-pure-items.ensures.value) in
    ap (λ l. with_front l (rest (ops_of c.value.new.self) (guards_of c.emit.new.guards.items))) c.in_ok-push.ensures.ok
    ∙ subscript_step xs rest first (made c.value.new.self c.in_ok-value.field-0) c.in_ok-value.ensures
    ∙ ap (λ (f : Evaluated). with_front xs (subscript rest f)) c.in_ok-given.ensures
    ∙ sym (ap (λ l. with_front xs (emitted_all outs (pures_of l) (ops_of c.loop-pure.ops) (guards_of c.loop-pure.guards.items))) split)
    ∙ c.loop-pure.invariant

pub emit_other-returns : goal.emit_other-returns
emit_other-returns t c =
    let one = side_of c.args.ops.now c.args.guards.now.items c.args.yes in
    let other = side_of c.emit_side.new.ops c.emit_side.new.guards.items c.in_ok-no.no in
    other_step c.args.kind (emitted c.args.outs.now (pure_of c.args.no.now)) c.args.test one other (made c.operation.new.self c.in_ok-value.value) c.in_ok-no.ensures
    (c.in_ok-value.ensures ∙ ap (λ f. added (ops_of c.emit_side.new.ops) (defined_as f (c.args.test ∷ c.args.yes ∷ c.in_ok-no.no ∷ []))) (c.plain.ensures ∙ ap (plain_form o.Select) c.width.ensures))

pub emit_junction-returns : goal.emit_junction-returns
emit_junction-returns t c =
    junction_step c.args.both (emitted c.args.outs.now (pure_of c.args.right.now)) (guards_of c.args.guards.now.items) (guards_of c.add_guard.new.guards.items) (guards_of c.drop_guard.new.guards.items)
    (made c.args.ops.now c.args.left) (evaluated_of c.emit.new.ops c.emit.new.guards.items c.in_ok-right.right) (made c.condition.new.self c.in_ok-right-2.right) (made c.operation.new.self c.in_ok-bit.bit)
    c.in_ok-add_guard.ensures c.in_ok-right.ensures c.drop_guard.ensures c.in_ok-right-2.ensures
    (c.in_ok-bit.ensures ∙ ap (λ f. added (ops_of c.condition.new.self) (defined_as f (c.args.left ∷ c.in_ok-right-2.right ∷ []))) c.junction_form.ensures)

pub emit_operands-returns : goal.emit_operands-returns
emit_operands-returns t c =
    let op = c.args.operator in
    let second = emitted c.args.outs.now (pure_of c.args.right.now) in
    let first = evaluated_of c.args.ops.now c.args.guards.now.items c.args.left in
    let kinds = c.operand_kinds-kinds.result in
    IfOk-weaker c.emit_binary.result _ _
    (λ x e.
    joined_step op.op kinds.left kinds.right op.at second first (made c.balanced.new.self c.in_ok-left.left) (evaluated_of c.emit.new.ops c.emit.new.guards.items c.in_ok-right.right)
    (made c.balanced-2.new.self c.in_ok-right-2.right) (evaluated_of c.emit_binary.new.ops c.emit_binary.new.guards.items x) c.in_ok-left.ensures c.in_ok-right.ensures c.in_ok-right-2.ensures e
    ∙ ap (λ (ks : Kinds). joined_to op ks second first) (c.operand_kinds-kinds.ensures ∙ ap₂ (λ l r. operand_kinds op.op l r op.kind) c.kind.ensures c.kind_of.ensures))
    c.emit_binary.ensures

pub emit_operator-returns-in-None : goal.emit_operator-returns-in-None
emit_operator-returns-in-None t c =
    let b = c.in-Binary in
    let outs = c.args.outs.now in
    let e = evaluated_of c.args.ops.now c.args.guards.now.items c.args.left in
    subst (λ r. IfOk c.emit_operands.result (λ x. evaluated_of c.emit_operands.new.ops c.emit_operands.new.guards.items x ≡ r))
    (ap (λ p. joined_with (record { op = b.op; kind = b.kind; at = b.at }) (kind (pure_of p)) (emitted outs (pure_of p)) e) c.deref-in-None.ensures
    ∙ behind_is outs b.op (pure_of b.left.value) (pure_of b.right.value) b.kind b.at (pure_of c.args.operator.now) e None (ap pure_of b.is ∙ binary_tree b.op b.left b.right b.kind b.at) (sym c.in-None.is ∙ c.junction_of.ensures))
    c.emit_operands.ensures

pub emit_operator-returns-in_ok-left-in-Some : goal.emit_operator-returns-in_ok-left-in-Some
emit_operator-returns-in_ok-left-in-Some t c =
    let b = c.in-Binary in
    let outs = c.args.outs.now in
    let guards = guards_of c.args.guards.now.items in
    let e = evaluated_of c.args.ops.now c.args.guards.now.items c.args.left in
    subst (λ r. IfOk c.emit_junction.result (λ x. evaluated_of c.emit_junction.new.ops c.emit_junction.new.guards.items x ≡ r))
    (ap (λ p. joined_by c.in-Some.both (emitted outs (pure_of p)) guards (made c.condition.new.self c.in_ok-left-in-Some.left)) c.deref.ensures
    ∙ ap (joined_by c.in-Some.both (emitted outs (pure_of b.right.value)) guards) c.in_ok-left-in-Some.ensures
    ∙ behind_is outs b.op (pure_of b.left.value) (pure_of b.right.value) b.kind b.at (pure_of c.args.operator.now) e (Some c.in-Some.both) (ap pure_of b.is ∙ binary_tree b.op b.left b.right b.kind b.at) (sym c.in-Some.is ∙ c.junction_of.ensures))
    c.emit_junction.ensures

pub emit_part-emit_operator-requires : goal.emit_part-emit_operator-requires
emit_part-emit_operator-requires t c = (omega (arith, c.decreases), tt)

pub emit_part-returns-in-Number : goal.emit_part-returns-in-Number
emit_part-returns-in-Number t c =
    let ops = ops_of c.args.ops.now in
    let guards = guards_of c.args.guards.now.items in
    ap (λ x. with_value guards c.in-Number.kind (gives ops x)) c.constant.ensures
    ∙ sym (ap (λ p. emitted c.args.outs.now p ops guards) (ap pure_of c.in-Number.is ∙ number_tree c.in-Number.value c.in-Number.kind))

pub emit_part-returns-in-Variable : goal.emit_part-returns-in-Variable
emit_part-returns-in-Variable t c =
    let ops = ops_of c.args.ops.now in
    let guards = guards_of c.args.guards.now.items in
    ap (λ x. with_value guards c.in-Variable.kind (gives ops x)) c.read.ensures
    ∙ sym (ap (λ p. emitted c.args.outs.now p ops guards) (ap pure_of c.in-Variable.is ∙ variable_tree c.in-Variable.variable c.in-Variable.kind))

pub emit_part-returns-in_ok-arg-in-Unary : goal.emit_part-returns-in_ok-arg-in-Unary
emit_part-returns-in_ok-arg-in-Unary t c =
    let a = c.in-Unary in
    let outs = c.args.outs.now in
    let ops = ops_of c.args.ops.now in
    let guards = guards_of c.args.guards.now.items in
    subst (λ r. IfOk c.emit_unary.result (λ x. evaluated_of c.emit_unary.new.ops c.emit_unary.new.guards.items x ≡ r))
    (ap (unary a.op a.kind a.at) (c.in_ok-arg-in-Unary.ensures ∙ ap (λ p. emitted outs (pure_of p) ops guards) c.deref.ensures)
    ∙ sym (ap (λ p. emitted outs p ops guards) (ap pure_of a.is ∙ unary_tree a.op a.arg a.kind a.at)))
    c.emit_unary.ensures

pub emit_part-returns-in_ok-args-in-Element : goal.emit_part-returns-in_ok-args-in-Element
emit_part-returns-in_ok-args-in-Element t c =
    let a = c.in-Element in
    let outs = c.args.outs.now in
    let ops = ops_of c.args.ops.now in
    let guards = guards_of c.args.guards.now.items in
    subst (λ r. IfOk c.emit_load.result (λ x. evaluated_of c.emit_load.new.ops c.emit_load.new.guards.items x ≡ r))
    (ap (loaded a.array a.kind a.at) c.in_ok-args-in-Element.ensures
    ∙ sym (ap (λ p. emitted outs p ops guards) (ap pure_of a.is ∙ element_tree a.array a.subscripts a.kind a.at)))
    c.emit_load.ensures

pub emit_part-returns-in_ok-converted-in-Cast : goal.emit_part-returns-in_ok-converted-in-Cast
emit_part-returns-in_ok-converted-in-Cast t c =
    let a = c.in-Cast in
    let outs = c.args.outs.now in
    let ops = ops_of c.args.ops.now in
    let guards = guards_of c.args.guards.now.items in
    ap (with_value (guards_of c.emit-in-Cast.new.guards.items) a.to) c.in_ok-converted-in-Cast.ensures
    ∙ ap (cast_to a.to) (c.in_ok-arg-in-Cast.ensures ∙ ap (λ p. emitted outs (pure_of p) ops guards) c.deref-in-Cast.ensures)
    ∙ sym (ap (λ p. emitted outs p ops guards) (ap pure_of a.is ∙ cast_tree a.to a.arg))

pub emit_part-returns-in_ok-left-in-Binary : goal.emit_part-returns-in_ok-left-in-Binary
emit_part-returns-in_ok-left-in-Binary t c =
    let b = c.in-Binary in
    let outs = c.args.outs.now in
    let ops = ops_of c.args.ops.now in
    let guards = guards_of c.args.guards.now.items in
    subst (λ r. IfOk c.emit_operator.result (λ x. evaluated_of c.emit_operator.new.ops c.emit_operator.new.guards.items x ≡ r))
    (ap (behind_left outs (pure_of c.args.part.now)) (c.in_ok-left-in-Binary.ensures ∙ ap (λ p. emitted outs (pure_of p) ops guards) c.deref-in-Binary.ensures)
    ∙ behind_left_is outs b.op (pure_of b.left.value) (pure_of b.right.value) b.kind b.at (pure_of c.args.part.now) ops guards (ap pure_of b.is ∙ binary_tree b.op b.left b.right b.kind b.at))
    c.emit_operator.ensures

pub emit_part-returns-in_ok-yes-in-Choice : goal.emit_part-returns-in_ok-yes-in-Choice
emit_part-returns-in_ok-yes-in-Choice t c =
    let a = c.in-Choice in
    let outs = c.args.outs.now in
    let ops = ops_of c.args.ops.now in
    let guards = guards_of c.args.guards.now.items in
    let first = emitted outs (pure_of a.yes.value) in
    let second = emitted outs (pure_of a.no.value) in
    let test = c.in_ok-test-in-Choice-2.test in
    let behind = guards_of c.emit-in-Choice.new.guards.items in
    subst (λ r. IfOk c.emit_other.result (λ x. evaluated_of c.emit_other.new.ops c.emit_other.new.guards.items x ≡ r))
    (ap (λ p. chosen_other a.kind (emitted outs (pure_of p)) test (side_of c.emit_side.new.ops c.emit_side.new.guards.items c.in_ok-yes-in-Choice.yes)) c.deref-in-Choice-3.ensures
    ∙ ap (chosen_other a.kind second test) (c.in_ok-yes-in-Choice.ensures ∙ ap (λ p. sided a.kind (emitted outs (pure_of p)) test true (ops_of c.condition.new.self) behind) c.deref-in-Choice-2.ensures)
    ∙ ap (chosen a.kind first second behind) c.in_ok-test-in-Choice-2.ensures
    ∙ ap (λ (e : Evaluated). chosen a.kind first second e.guards (tested e.ops e.given)) (c.in_ok-test-in-Choice.ensures ∙ ap (λ p. emitted outs (pure_of p) ops guards) c.deref-in-Choice.ensures)
    ∙ choice_is a.kind first second (emitted outs (pure_of a.test.value) ops guards)
    ∙ sym (ap (λ p. emitted outs p ops guards) (ap pure_of a.is ∙ choice_tree a.test a.yes a.no a.kind)))
    c.emit_other.ensures

pub emit_side-returns : goal.emit_side-returns
emit_side-returns t c =
    IfOk-weaker c.balanced.result _ _
    (λ x e.
    sided_step c.args.kind (emitted c.args.outs.now (pure_of c.args.pure.now)) c.args.test c.args.holds (ops_of c.args.ops.now) (guards_of c.args.guards.now.items)
    (guards_of c.add_guard.new.guards.items) (guards_of c.drop_guard.new.guards.items) (evaluated_of c.emit.new.ops c.emit.new.guards.items c.in_ok-given.given) (made c.balanced.new.self x)
    c.in_ok-add_guard.ensures c.in_ok-given.ensures c.drop_guard.ensures e)
    c.balanced.ensures
