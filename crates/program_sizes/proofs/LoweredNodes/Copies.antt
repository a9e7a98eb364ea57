-- Copies in the body of a loop add no node.
use Rattle.std.proofs.Common.{◌≡◌, Bool, true, false, arith, refl}
use Rattle.hls_base.specs.declared.number.VarId.{VarId}
use Rattle.ir_core.specs.Trees.{SequenceTree, sequence, PartTrees, no_part, more_parts}
use Rattle.passes.specs.Lowering.Blocks.{Scope}
use Rattle.passes.specs.Lowering.Copies.{copied_parts, fixed_behind, fixed_behind_shape}
use Rattle.passes.specs.Lowering.{with_copies}
use Rattle.ir_layout.specs.Sizes.{sequence_size, parts_size}

copied_nodes : (scope : Scope) (variables : VarId → Bool) (ps : PartTrees) → parts_size (copied_parts scope variables ps) ≡ parts_size ps
copied_nodes scope variables no_part = refl
copied_nodes scope variables (more_parts shape after rest) = let more = copied_nodes scope (fixed_behind rest (fixed_behind_shape shape variables) after) rest in omega (arith, more)

pub with_copies_nodes : (eligible : Bool) (scope : Scope) (s : SequenceTree) → sequence_size (with_copies eligible scope s) ≡ sequence_size s
with_copies_nodes true scope (sequence first rest) = let more = copied_nodes scope (fixed_behind rest (λ v. false) first) rest in omega (arith, more)
with_copies_nodes false scope s = refl
