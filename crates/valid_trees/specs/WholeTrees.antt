-- What numbered and converted trees name.
use Rattle.std.specs.Prelude.{◌≡◌, ℕ, Bool, List, length}
use Rattle.hls_base.specs.declared.point.Point.{Point}
use Rattle.pieces.specs.Trees.{PieceTrees}
use Rattle.ir_core.specs.Trees.{SequenceTree}
use Rattle.passes.specs.Numbering as n
use Rattle.passes.specs.Numbering.{numbered_sequence}
use Rattle.passes.specs.Conversion as c
use Rattle.passes.specs.Conversion.{converted_sequence}
use Rattle.passes.specs.Lowering.Blocks.{Scope, begun}
use Rattle.passes.specs.Lowering.{last, lowered}
use Rattle.flat_programs.specs.There.{SequenceThere}
use Rattle.pass_runs.specs.ConvertRuns.LoweredConversions.Suiting.{widths_of, PiecesSuit}

-- The variables that blocks set, and the memories that operations take, are there: what laying out takes for granted.
abbrev pub NumberedIsThere : Type 0
NumberedIsThere = (scope : n.Scope) (variables : ℕ) (dims : List (List ℕ)) (blocks : SequenceTree) → SequenceThere variables dims blocks → SequenceThere variables dims (numbered_sequence scope blocks)

abbrev pub ConvertedIsThere : Type 0
ConvertedIsThere = (scope : c.Scope) (variables : ℕ) (dims : List (List ℕ)) (blocks : SequenceTree) → SequenceThere variables dims blocks → SequenceThere variables dims (converted_sequence scope blocks)

-- So it is in a lowered tree, with a memory for each array, where the expressions name arrays that are there.
abbrev pub LoweredIsThere : Type 0
LoweredIsThere = (scope : Scope) (dims : List (List ℕ)) (pieces : PieceTrees) (point : Point) → length dims ≡ length scope.arrays → PiecesSuit scope pieces → SequenceThere (length scope.variables) dims (lowered scope pieces last (begun point))

-- And so in the converted tree of the numbered one.
abbrev pub ProgramIsThere : Type 0
ProgramIsThere = (scope : Scope) (dims : List (List ℕ)) (apart loops : Bool) (pieces : PieceTrees) (point : Point) → length dims ≡ length scope.arrays → PiecesSuit scope pieces
    → SequenceThere (length scope.variables) dims (converted_sequence (record { widths = widths_of scope; loops = loops }) (numbered_sequence (record { widths = widths_of scope; apart = apart }) (lowered scope pieces last (begun point))))
