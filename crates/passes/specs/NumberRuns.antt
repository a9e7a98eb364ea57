-- What numbering keeps.
pub mod Ordered
use Rattle.std.specs.Prelude.{◌≡◌, ℕ, Bool}
use Rattle.ir_core.specs.Bodies.{Shapes, Words}
use Rattle.ir_core.specs.Trees.{SequenceTree}
use Rattle.ir_core.specs.TreeRuns.{sequence_run}
use Rattle.passes.specs.Numbering.{numbered_sequence}
use Rattle.passes.specs.NumberRuns.Ordered.{IsOrdered}

-- A numbered tree has the run of the tree, from all contents, and for every number of points that may be passed: it ends with the same words and in the same way, is undefined by the same rule and at the same place, or waits.
abbrev pub NumberingKeepsRuns : Type 0
NumberingKeepsRuns = (shapes : Shapes) (apart : Bool) (blocks : SequenceTree) → IsOrdered blocks
    → (t : Words) (n : ℕ) → sequence_run shapes (numbered_sequence (record { widths = shapes.widths; apart = apart }) blocks) t n ≡ sequence_run shapes blocks t n
