use Rattle.std.proofs.Common.{◌≡◌, ◌+◌, ℕ, [], ◌∷◌, length, slice_get, Some, refl, sym, ap, ◌∙◌, subst, arith}
use Rattle.std.proofs.lemmas.List.{length-append, length-map}
use Rattle.std.proofs.lemmas.Option.{slice_get_read}
use Rattle.ir_core.specs.declared.cfg.Node.{Node}
use Rattle.ir_core.specs.declared.timed.Timed.{Timed}
use Rattle.clock_ir.specs.ClockRuns.{timed_node}
use Rattle.clock_machine.specs.declared.lines.program.Stage.{Stage}
use Rattle.clock_machine.specs.Lines.Forms.{IsStageOf}
use Rattle.clock_machine.proofs.LinesLemmas.Appending.{get_behind, from_map}
use Rattle.clock_machine.proofs.lines.making.program_of.Goals as goal

same_element : {A : Type 0} (x y : A) → Some x ≡ Some y → x ≡ y
same_element x y e = cc

pub loop-node-preserved : goal.loop-node-preserved
loop-node-preserved c =
    let nodes = c.args.cfg.now.nodes.items in
    let widths = c.args.cfg.now.frame.variables.items in
    let i = c.loop-node.node-index in
    let old = c.loop-node.stages.items in
    let inv = c.loop-node.invariant in
    let it = c.node-item.result in
    let s0 = c.in_ok-stage_of.field-0 in
    let read_ = slice_get_read c.deref-node-items.result.now (length c.deref-node-items.result.now) i it refl c.loop-node-test.true c.node-item.is in
    let at : slice_get nodes i ≡ Some it = subst (λ xs. slice_get xs i ≡ Some it) c.deref-node-items.ensures.value read_ in
    let P : ℕ → Stage → Type 0 = λ k s. (n : Node Timed) → slice_get nodes k ≡ Some n → IsStageOf widths (timed_node n) s in (
      ap length c.in_ok-push.ensures.items ∙ length-append old (s0 ∷ []) ∙ ap (λ n. n + 1) inv.0,
      λ orderly k n s in_nodes in_new.
          let made = subst (λ ws. IsStageOf ws (timed_node it) s0) c.deref.ensures.value (c.in_ok-stage_of.ensures (orderly i it at)) in
          let last : P (length old) s0 = subst (λ m. P m s0) (sym inv.0) (λ n2 is. subst (λ x. IsStageOf widths (timed_node x) s0) (same_element it n2 (sym at ∙ is)) made) in
          get_behind P old s0 (λ m y is n2 in_nodes2. inv.1 orderly m n2 y in_nodes2 is) last k s (subst (λ xs. slice_get xs k ≡ Some s) c.in_ok-push.ensures.items in_new) n in_nodes,
    )

pub returns-clause-program : goal.returns-clause-program
returns-clause-program c = λ orderly.
    let nodes = c.args.cfg.now.nodes.items in
    let widths = c.args.cfg.now.frame.variables.items in
    let inv = c.loop-node.invariant in record {
      count = (let z : length c.loop-node.stages.items ≡ length nodes = omega (arith, inv.0, c.loop-node-test.false, c.loop-node.auto.node-index-end, ap length c.deref-node-items.ensures.value) in z) ∙ sym (length-map nodes timed_node);
      stages = λ k n s in_nodes in_stages.
          (let it = from_map timed_node nodes k n in_nodes in
          subst (λ x. IsStageOf widths x s) it.1.1 (inv.1 orderly k it.0 s it.1.0 in_stages));
    }
