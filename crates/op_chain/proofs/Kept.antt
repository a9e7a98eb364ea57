-- The run of a program is kept by fusing.
use Rattle.std.proofs.Common.{◌≡◌, ◌∙◌, ℕ, zero, suc, ◌+◌, ◌*◌, Bool, List, [], ◌∷◌, ◌++◌, map, length, Option, Some, None, inl, inr, refl, sym, ap, ap₂, subst, append_assoc}
use Rattle.std.specs.Prelude.{slice_get}
use Rattle.std.specs.Option.{option_map, option_to_list}
use Rattle.std.proofs.lemmas.List.{append-nil}
use Rattle.std.proofs.lemmas.Option.{slice_get-map}
use Rattle.hls_base.specs.declared.point.Point.{Point}
use Rattle.hls_base.specs.Steps.{went, waiting, Ran, ran, goes}
use Rattle.ir_core.specs.declared.body.Operand.{Operand}
use Rattle.ir_core.specs.Bodies.{Shapes, Words}
use Rattle.ir_core.specs.Trees.{BodyTree}
use Rattle.ir_core.specs.TreeRuns.{overlapped_run}
use Rattle.ir_core.specs.FlatRuns.{Going, to, ends, going_on, shapes_of, flat_run}
use Rattle.ir_layout.specs.Nodes.{EndTree, NodeTree, plain, looped, node_of}
use Rattle.op_chain.specs.Forward.{AllBefore, NodeForward, NodesForward}
use Rattle.op_chain.specs.Reads.{ops_operands, out_operands, end_operands, body_operands, reads}
use Rattle.op_chain.specs.Subscripts.{reaching}
use Rattle.op_chain.specs.Pairs.{scope_of}
use Rattle.op_chain.specs.Fusing.{chosen, body_with, fused_node, fused_nodes}
use Rattle.op_chain.specs.Laws.{Begins, IsUndefined, FusingKeepsRuns}
use Rattle.op_chain.proofs.Refining.{Refines, same, then_refines}
use Rattle.op_chain.proofs.Keeping.{AllKept, all_left, all_right}
use Rattle.op_chain.proofs.Counting.{reads_append}
use Rattle.op_chain.proofs.Suiting.{suits, others_kept}
use Rattle.op_chain.proofs.Running.{block_refines, loop_refines}
use Rattle.op_chain.proofs.Running.{new as new_made}
use Rattle.op_chain.proofs.Plain.{plain_run, plain_then, plain_from, from_same}

-- ---- one node

all_before : (n : ℕ) (xs ys : List Operand) → AllBefore n xs → AllBefore n ys → AllBefore n (xs ++ ys)
all_before n [] ys h k = k
all_before n (x ∷ xs) ys h k = (h.0, all_before n xs ys h.1 k)

abbrev block_others : BodyTree → EndTree → List Operand
block_others b e = (out_operands b.outs ++ option_to_list b.test) ++ end_operands e

abbrev loop_others : BodyTree → List Operand
loop_others b = out_operands b.outs ++ option_to_list b.test

block_counts : (b : BodyTree) (e : EndTree) (u : ℕ) → reads u (body_operands b ++ end_operands e) ≡ reads u (ops_operands b.ops) + reads u (block_others b e)
block_counts b e u = ap (reads u) (append_assoc (ops_operands b.ops) (loop_others b) (end_operands e)) ∙ reads_append u (ops_operands b.ops) (block_others b e)

node_refines : (shapes : Shapes) (period : ℕ) (marks : List Bool) (node : NodeTree) → NodeForward node → (t : Words) (n : ℕ) → Refines (plain_run shapes node t n) (plain_run shapes (fused_node period marks node) t n)
node_refines shapes period marks (plain p b e) forward t n =
    let scope = scope_of period marks (plain p b e) in
    let others = block_others b e in
    let cs = chosen scope b.ops [] b.ops in
    let counts = block_counts b e in
    let kept : AllKept b.ops cs (length b.ops) others =
    others_kept scope b.ops others forward.0.ops counts (all_before (length b.ops) (loop_others b) (end_operands e) (all_before (length b.ops) (out_operands b.outs) (option_to_list b.test) forward.0.outs forward.0.test) forward.1) in
    block_refines shapes b.ops cs (suits scope b.ops others forward.0.ops counts) p b e refl (all_left b.ops cs (length b.ops) (out_operands b.outs) (option_to_list b.test) (all_left b.ops cs (length b.ops) (loop_others b) (end_operands e) kept))
    (all_right b.ops cs (length b.ops) (loop_others b) (end_operands e) kept) t n
node_refines shapes period marks (looped p b next) forward t n =
    let scope = scope_of period marks (looped p b next) in
    let others = loop_others b in
    let cs = chosen scope b.ops [] b.ops in
    let counts : (u : ℕ) → reads u (body_operands b) ≡ reads u (ops_operands b.ops) + reads u others = λ u. reads_append u (ops_operands b.ops) others in
    let kept : AllKept b.ops cs (length b.ops) others =
    others_kept scope b.ops others forward.0.ops counts (all_before (length b.ops) (out_operands b.outs) (option_to_list b.test) forward.0.outs forward.0.test) in
    then_refines (overlapped_run shapes p b t n) (overlapped_run shapes p (body_with b (new_made shapes b.ops cs (suits scope b.ops others forward.0.ops counts))) t n) (λ w t1 n1. goes (to next) t1 n1) (λ w t1 n1. goes (to next) t1 n1)
    (loop_refines shapes b.ops cs (suits scope b.ops others forward.0.ops counts) p b refl (all_left b.ops cs (length b.ops) (out_operands b.outs) (option_to_list b.test) kept)
    (all_right b.ops cs (length b.ops) (out_operands b.outs) (option_to_list b.test) kept) t n)
    (λ w t1 n1. same (goes (to next) t1 n1))

-- ---- all nodes

forward_node : (nodes : List NodeTree) (i : ℕ) (node : NodeTree) → NodesForward nodes → slice_get nodes i ≡ Some node → NodeForward node
forward_node [] i node h e = absurd cc
forward_node (x ∷ xs) zero node h e = let f : x ≡ node = cc in subst NodeForward f h.0
forward_node (x ∷ xs) (suc i) node h e = forward_node xs i node h.1 e

module _ (shapes : Shapes) (period : ℕ) (marks : List Bool) (nodes : List NodeTree) (forward : NodesForward nodes) where
  abbrev fused_ : List NodeTree
  fused_ = map (fused_node period marks) nodes

  going_refines : (f g : ℕ → Words → ℕ → Ran Words (Option ℕ)) → ((i : ℕ) (t : Words) (n : ℕ) → Refines (f i t n) (g i t n)) → (w : Going) (t : Words) (n : ℕ) → Refines (going_on f w t n) (going_on g w t n)
  going_refines f g h (to i) t n = h i t n
  going_refines f g h (ends w) t n = inl refl

  then_on : (f g : ℕ → Words → ℕ → Ran Words (Option ℕ)) → ((i : ℕ) (t : Words) (n : ℕ) → Refines (f i t n) (g i t n)) → (it : Option NodeTree) → ((node : NodeTree) → it ≡ Some node → NodeForward node) → (t : Words) (n : ℕ)
      → Refines (plain_then shapes f it t n) (plain_then shapes g (option_map (fused_node period marks) it) t n)
  then_on f g h None k t n = inl refl
  then_on f g h (Some node) k t n =
      then_refines (plain_run shapes node t n) (plain_run shapes (fused_node period marks node) t n) (λ w t1 n1. going_on f w t1 n1) (λ w t1 n1. going_on g w t1 n1) (node_refines shapes period marks node (k node refl) t n) (going_refines f g h)

  from_refines : (k i : ℕ) (t : Words) (n : ℕ) → Refines (plain_from k shapes nodes i t n) (plain_from k shapes fused_ i t n)
  from_refines zero i t n = inl refl
  from_refines (suc k) i t n =
      subst (λ it. Refines (plain_from (suc k) shapes nodes i t n) (plain_then shapes (λ j t1 n1. plain_from k shapes fused_ j t1 n1) it t n)) (sym (slice_get-map (fused_node period marks) nodes i))
      (then_on (λ j t1 n1. plain_from k shapes nodes j t1 n1) (λ j t1 n1. plain_from k shapes fused_ j t1 n1) (λ j t1 n1. from_refines k j t1 n1) (slice_get nodes i) (λ node e. forward_node nodes i node forward e) t n)

program_refines : (shapes : Shapes) (period variables : ℕ) (nodes : List NodeTree) → NodesForward nodes → (k i : ℕ) (t : Words) (n : ℕ) → Refines (plain_from k shapes nodes i t n) (plain_from k shapes (fused_nodes period variables nodes) i t n)
program_refines shapes zero variables nodes forward k i t n = inl refl
program_refines shapes (suc period) variables nodes forward k i t n = from_refines shapes (suc period) (reaching variables nodes) nodes forward k i t n

-- ---- the law

came : {S A : Type 0} → (r s : Ran S A) → Refines r s → Begins r.trace s.trace
came r s (inl e) = ([], ap (λ (x : Ran _ _). x.trace) (sym e) ∙ sym (append-nil r.trace))
came r s (inr u) = u.1

ended : {S A : Type 0} → (r s : Ran S A) (left_ : ℕ) (trace : List Point) (v : A) (t : S) → Refines r s → r ≡ ran trace (went v t left_) → s ≡ ran trace (went v t left_)
ended r s left_ trace v t (inl e) h = sym e ∙ h
ended r s left_ trace v t (inr u) h = absurd (subst (λ (x : Ran _ _). IsUndefined x.outcome) h u.0)

waited : {S A : Type 0} → (r s : Ran S A) → Refines r s → r.outcome ≡ waiting → s.outcome ≡ waiting
waited r s (inl e) h = ap (λ (x : Ran _ _). x.outcome) (sym e) ∙ h
waited r s (inr u) h = absurd (subst IsUndefined h u.0)

faulted : {S A : Type 0} → (r s : Ran S A) → Refines r s → IsUndefined s.outcome → IsUndefined r.outcome
faulted r s (inl e) h = subst (λ (x : Ran _ _). IsUndefined x.outcome) (sym e) h
faulted r s (inr u) h = u.0

pub runs_kept : FusingKeepsRuns
runs_kept period old new forward is_fused t =
    record {
      comes = λ n. came (flat_run old t n) (flat_run new t n) (refines n);
      ends = λ n left_ trace v s e. ended (flat_run old t n) (flat_run new t n) left_ trace v s (refines n) e;
      waits = λ n e. waited (flat_run old t n) (flat_run new t n) (refines n) e;
      faults = λ n u. faulted (flat_run old t n) (flat_run new t n) (refines n) u;
    }
  where
    refines : (n : ℕ) → Refines (flat_run old t n) (flat_run new t n)
    refines n =
        let shapes = shapes_of old.frame in
        let nodes = map node_of old.nodes.items in
        let count = length old.frame.variables.items in
        let k = 2 * n + 2 in
        let is_new : flat_run new t n ≡ plain_from k shapes (fused_nodes period count nodes) old.first.0 t n =
        from_same k (shapes_of new.frame) new.nodes.items new.first.0 t n
        ∙ (ap₂ (λ f i. plain_from k (shapes_of f) (map node_of new.nodes.items) i t n) is_fused.frame (ap (λ (x : _). x.0) is_fused.first) ∙ ap (λ ns. plain_from k shapes ns old.first.0 t n) is_fused.nodes) in
        subst (λ z. Refines (flat_run old t n) z) (sym is_new)
        (subst (λ z. Refines z (plain_from k shapes (fused_nodes period count nodes) old.first.0 t n)) (sym (from_same k shapes old.nodes.items old.first.0 t n)) (program_refines shapes period count nodes forward k old.first.0 t n))
