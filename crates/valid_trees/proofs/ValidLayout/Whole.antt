-- The flat program of a valid tree is consistent.
use Rattle.std.proofs.Common.{◌≡◌, ◌∙◌, ◌<◌, ◌^◌, ℕ, suc, true, refl, ap, sym, subst, arith, List, [], ◌∷◌, length, map, Option, Some, None}
use Rattle.std.specs.Prelude.{slice_get}
use Rattle.std.specs.List.{list_all}
use Rattle.std.proofs.lemmas.Bool.{and_from}
use Rattle.std.proofs.lemmas.List.{length-map}
use Rattle.hls_base.specs.declared.number.VarId.{VarId}
use Rattle.ir_core.specs.declared.cfg.Frame.{Frame}
use Rattle.ir_core.specs.declared.cfg.Node.{Node}
use Rattle.ir_core.specs.declared.stamp.Untimed.{Untimed}
use Rattle.ir_core.specs.Trees.{SequenceTree, sequence}
use Rattle.ir_layout.specs.Nodes.{node_of}
use Rattle.ir_layout.specs.Sizes.{sequence_size}
use Rattle.ir_layout.specs.Layout.{Around, finish}
use Rattle.ir_layout.proofs.Lengths.{length-laid}
use Rattle.program_validity.specs.Programs.{body_in, is_valid_node}
use Rattle.valid_trees.specs.Shapes.{frame_shape}
use Rattle.valid_trees.specs.ValidLayout.{GivesResult, LaidOutProgramsAreConsistent}
use Rattle.valid_trees.proofs.ValidLayout.Operands.{below_test}
use Rattle.valid_trees.proofs.ValidLayout.Bodies.{NodesAreValid, node_holds}
use Rattle.valid_trees.proofs.ValidLayout.Laid.{HoldsResult, laid_valid}

nodes_hold : (f : Frame) (count : ℕ) (nodes : List (Node Untimed)) → ((i : ℕ) (n : Node Untimed) → slice_get nodes i ≡ Some n → length (body_in n).ops.items < 2 ^ 32) → NodesAreValid (frame_shape f) count f.ret (map node_of nodes) → list_all (is_valid_node f count) nodes ≡ true
nodes_hold f count [] few h = refl
nodes_hold f count (n ∷ nodes) few h = and_from _ _ (node_holds f count n (few 0 n refl) h.0) (nodes_hold f count nodes (λ i m at. few (suc i) m at) h.1)

holds_result : (f : Frame) (returned : Option VarId) → GivesResult f returned → HoldsResult f.variables.items f.ret returned
holds_result f None h = h
holds_result f (Some v) h = h

some_node : (s : SequenceTree) → 0 < sequence_size s
some_node (sequence first rest) = omega arith

pub laid_out_consistent : LaidOutProgramsAreConsistent
laid_out_consistent cfg blocks returned same first numbers frame result valid =
    let around : Around = record { leave = None; again = None; lands = []; returned = returned } in
    let count = length cfg.nodes.items in
    let size : count ≡ sequence_size blocks = sym (length-map cfg.nodes.items node_of) ∙ ap length same ∙ length-laid around finish 0 blocks in
    let some : 0 < count = (let least = some_node blocks in omega (arith, size, least)) in
    let nodes = laid_valid (frame_shape cfg.frame) count cfg.frame.ret returned (holds_result cfg.frame returned result) some around finish 0 blocks (record { places = record { leave = tt; again = tt; lands = tt }; result = refl }) tt (omega (arith, size)) valid in
    and_from _ _ (and_from _ _ (below_test _ _ numbers.nodes) frame)
    (and_from _ _ (below_test _ _ (omega (arith, first, some))) (nodes_hold cfg.frame count cfg.nodes.items numbers.operations (subst (λ ns. NodesAreValid (frame_shape cfg.frame) count cfg.frame.ret ns) (sym same) nodes)))
