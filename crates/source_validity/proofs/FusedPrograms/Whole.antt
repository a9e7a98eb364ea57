-- Programs stay small when pairs are fused, and can be given times.
use Rattle.std.proofs.Common.{◌≡◌, ◌∙◌, ◌<◌, ◌^◌, ℕ, zero, suc, sym, ap, List, [], ◌∷◌, length, map, Some, arith}
use Rattle.std.specs.Prelude.{slice_get}
use Rattle.std.proofs.lemmas.List.{length-map}
use Rattle.ir_core.specs.declared.cfg.Cfg.{Cfg}
use Rattle.ir_core.specs.declared.cfg.Node.{Node}
use Rattle.ir_core.specs.declared.cfg.Node.TheVariants as node
use Rattle.ir_core.specs.declared.stamp.Untimed.{Untimed}
use Rattle.ir_core.specs.Bodies.{op_of}
use Rattle.ir_layout.specs.Nodes.{NodeTree, node_of}
use Rattle.program_validity.specs.Programs.{body_in}
use Rattle.op_chain.specs.Subscripts as chain
use Rattle.op_chain.specs.Fusing.{fused_nodes}
use Rattle.op_chain.specs.Laws.{IsFusedFrom}
use Rattle.op_chain.proofs.ValidFusing.Skeletons.{adds_none}
use Rattle.op_chain.proofs.ValidFusing.Whole.{keeps_validity}
use Rattle.program_sizes.specs.CompiledSizes.{IsSmallProgram}
use Rattle.timed_pieces.proofs.FusedPrograms.Nodes.{skeleton_of, NodeFrom, nodes_alike, fused_alike}
use Rattle.source_validity.specs.FusedPrograms.{FusedProgramsAreSmall, FusedProgramsAreForward}
use Rattle.source_validity.proofs.FusedPrograms.Near.{constants_near}
use Rattle.source_validity.proofs.SourceMachines.ForwardPrograms.Whole.{valid_forward}

at_mapped : {A B : Type 0} (g : A → B) (xs : List A) (i : ℕ) (x : A) → slice_get xs i ≡ Some x → slice_get (map g xs) i ≡ Some (g x)
at_mapped g [] i x e = absurd cc
at_mapped g (y ∷ xs) zero x e = (let same : y ≡ x = cc in ap (λ z. Some (g z)) same)
at_mapped g (y ∷ xs) (suc i) x e = at_mapped g xs i x e

count_ops : (n : Node Untimed) → length (chain.body_in (node_of n)).ops ≡ length (body_in n).ops.items
count_ops (node.Plain block) = length-map block.body.ops.items op_of
count_ops (node.Looped region) = length-map region.body.ops.items op_of

module _ (period : ℕ) (old new : Cfg Untimed) (fused : IsFusedFrom period old new) where
  alike : map skeleton_of old.nodes.items ≡ map skeleton_of new.nodes.items
  alike = fused_alike period old new fused

  as_many : length new.nodes.items ≡ length old.nodes.items
  as_many = sym (length-map new.nodes.items skeleton_of) ∙ (ap length (sym alike) ∙ length-map old.nodes.items skeleton_of)

  few_in : (small : IsSmallProgram old) (i : ℕ) (n : Node Untimed) → slice_get new.nodes.items i ≡ Some n → length (body_in n).ops.items < 2 ^ 25
  few_in small i n at =
      let was : NodeFrom old.nodes.items i n = nodes_alike old.nodes.items new.nodes.items alike i n at in
      let there = at_mapped node_of old.nodes.items i was.other was.there in
      let here : slice_get (fused_nodes period (length old.frame.variables.items) (map node_of old.nodes.items)) i ≡ Some (node_of n) = ap (λ (l : List NodeTree). slice_get l i) (sym fused.nodes) ∙ at_mapped node_of new.nodes.items i n at in
      let fewer = adds_none period (length old.frame.variables.items) (map node_of old.nodes.items) i (node_of was.other) (node_of n) there here in
      let before = small.operations i was.other was.there in
      let first = count_ops was.other in
      let second = count_ops n in
      omega (arith, fewer, before, first, second)

pub stay_small : FusedProgramsAreSmall
stay_small period old new fused small = record {
  nodes = (let many = as_many period old new fused in let few = small.nodes in omega (arith, many, few));
  operations = few_in period old new fused small;
}

pub stay_forward : FusedProgramsAreForward
stay_forward period old new valid fused near small = valid_forward new (keeps_validity period old new valid fused) (constants_near period old new fused near) (stay_small period old new fused small)
