-- The flat program of light pieces is small, and so has numbers enough.
use Rattle.std.proofs.Common.{◌≡◌, ◌∙◌, ◌<◌, ◌^◌, sym, subst, ap, arith, [], length, None}
use Rattle.std.proofs.lemmas.List.{length-map}
use Rattle.hls_base.specs.declared.point.Point.{Point}
use Rattle.pieces.specs.Trees.{PieceTrees}
use Rattle.ir_core.specs.Trees.{SequenceTree}
use Rattle.passes.specs.Lowering.Blocks.{Scope, begun}
use Rattle.passes.specs.Lowering.{last, lowered}
use Rattle.passes.specs.Numbering as numbering
use Rattle.passes.specs.Numbering.{numbered_sequence}
use Rattle.passes.specs.Conversion as conversion
use Rattle.passes.specs.Conversion.{converted_sequence}
use Rattle.ir_layout.specs.Nodes.{node_of}
use Rattle.ir_layout.specs.Sizes.{sequence_size}
use Rattle.ir_layout.specs.Layout.{Around, finish}
use Rattle.ir_layout.proofs.Lengths.{length-laid}
use Rattle.passes.specs.Totals.{operations, sequence_total}
use Rattle.program_sizes.proofs.CountedOperations.Trees.{lowered_counted}
use Rattle.program_sizes.proofs.CountedOperations.Weights.{counted_few}
use Rattle.program_sizes.proofs.ConvertedOperations.Numbered.{numbered_fewer}
use Rattle.program_sizes.proofs.ConvertedOperations.Converted.{converted_bounded}
use Rattle.program_sizes.proofs.LoweredNodes.Trees.{lowered_nodes}
use Rattle.program_sizes.specs.CompiledSizes.{AreLight, CompiledProgramsAreSmall, SmallProgramsHaveNumbers}
use Rattle.program_sizes.proofs.KeptNodes.Sizes.{sequence_same}
use Rattle.program_sizes.proofs.CompiledSizes.Converted.{converted_nodes}
use Rattle.program_sizes.proofs.CompiledSizes.Laid.{AreShort, laid_short, node_short}

module _ (scope : Scope) (n : numbering.Scope) (c : conversion.Scope) (pieces : PieceTrees) (point : Point) (light : AreLight pieces) where
  abbrev first : SequenceTree
  first = lowered scope pieces last (begun point)

  abbrev numbered : SequenceTree
  numbered = numbered_sequence n first

  abbrev compiled : SequenceTree
  compiled = converted_sequence c numbered

  nodes_fit : sequence_size compiled < 2 ^ 16
  nodes_fit =
      let one = lowered_nodes scope pieces point in
      let two = sequence_same n first in
      let three = converted_nodes c numbered in
      let weight = light.weight in
      let lands = light.lands in
      omega (arith, one, two, three, weight, lands)

  operations_fit : sequence_total operations compiled < 2 ^ 25
  operations_fit =
      let counted = lowered_counted scope pieces point in
      let fewer = numbered_fewer n first in
      let bounded = converted_bounded c numbered in
      let few = counted_few scope pieces light.weight in
      let one = counted.operations in
      let two = counted.additions in
      let three = fewer.operations in
      let four = fewer.additions in
      let five = bounded.operations in
      omega (arith, few, one, two, three, four, five)

pub compiled_small : CompiledProgramsAreSmall
compiled_small scope n c pieces point returned cfg light same =
    let around : Around = record { leave = None; again = None; lands = []; returned = returned } in
    let blocks = converted_sequence c (numbered_sequence n (lowered scope pieces last (begun point))) in
    let size : length cfg.nodes.items ≡ sequence_size blocks = sym (length-map cfg.nodes.items node_of) ∙ ap length same ∙ length-laid around finish 0 blocks in
    let few = nodes_fit scope n c pieces point light in
    let total = operations_fit scope n c pieces point light in
    let most = sequence_total operations blocks in
    let short = subst (AreShort most) (sym same) (laid_short most around finish 0 blocks (omega arith)) in
    record {
      nodes = omega (arith, size, few);
      operations = λ i x at. let h = node_short most cfg.nodes.items short i x at in omega (arith, total, h);
    }

pub small_has_numbers : SmallProgramsHaveNumbers
small_has_numbers cfg small = record {
  nodes = let h = small.nodes in omega (arith, h);
  operations = λ i n at. let h = small.operations i n at in omega (arith, h);
}
