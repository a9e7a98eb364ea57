use Rattle.std.proofs.Common.{◌≡◌, ◌+◌, ℕ, [], ◌∷◌, length, map, slice_get, get_or, Some, None, refl, sym, ap, ◌∙◌, subst, arith}
use Rattle.std.proofs.lemmas.Option.{slice_get_read, slice_get-map}
use Rattle.std.specs.Option.{option_map}
use Rattle.std.proofs.lemmas.List.{length-append}
use Rattle.clock_ir.specs.Flows.{TimedOp, timed_op}
use Rattle.clock_machine.specs.declared.lines.program.Action.{Action}
use Rattle.clock_machine.specs.Lines.Forms.{IsActionOf}
use Rattle.clock_machine.specs.Lines.Reads.{entry_in}
use Rattle.clock_machine.specs.Lines.Regions.{body_of}
use Rattle.clock_machine.proofs.LinesLemmas.Appending.{get_behind}
use Rattle.clock_machine.proofs.lines.reads.Region.actions.Goals as goal

same_element : {A : Type 0} (x y : A) → Some x ≡ Some y → x ≡ y
same_element x y e = cc

pub loop-number-preserved : goal.loop-number-preserved
loop-number-preserved c =
    let region = c.args.self.now in
    let widths = region.widths.now in
    let b = body_of region in
    let ops = region.body.now.ops.items in
    let i = c.loop-number.number in
    let old = c.loop-number.actions.items in
    let inv = c.loop-number.invariant in
    let op = c.op-item.result in
    let a0 = c.in_ok-action.field-0 in
    let read_ = slice_get_read c.deref-op-items.result.now (length c.deref-op-items.result.now) i op refl c.loop-number-test.true c.op-item.is in
    let at : slice_get ops i ≡ Some op = subst (λ xs. slice_get xs i ≡ Some op) c.deref-op-items.ensures.value read_ in
    let P : ℕ → Action → Type 0 = λ k a. (o : TimedOp) → slice_get (map timed_op ops) k ≡ Some o → IsActionOf widths b k o a in (
      ap length c.in_ok-push.ensures.items ∙ length-append old (a0 ∷ []) ∙ ap (λ n. n + 1) inv.0,
      λ orderly known k o a in_ops in_new.
          let entry = c.entry_at.ensures ∙ ap (λ xs. get_or xs i None) c.deref-in-loop-number.ensures.value ∙ c.in_ok-entries.ensures.entries i (omega (arith, c.loop-number-test.true, c.len.ensures, ap length c.deref-op-items.ensures.value)) ∙ ap (λ xs. entry_in xs i) c.deref.ensures.value in
          let made = c.in_ok-action.ensures i orderly (orderly.early i op at) known entry in
          let last : P (length old) a0 = subst (λ n. P n a0) (sym inv.0)
          (λ o2 is. subst (λ x. IsActionOf widths b i x a0) (same_element (timed_op op) o2 (sym (slice_get-map timed_op ops i ∙ ap (option_map timed_op) at) ∙ is)) made) in
          get_behind P old a0 (λ n y is o2 in_ops2. inv.1 orderly known n o2 y in_ops2 is) last k a (subst (λ xs. slice_get xs k ≡ Some a) c.in_ok-push.ensures.items in_new) o in_ops,
    )
