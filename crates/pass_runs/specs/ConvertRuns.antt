-- What conversion keeps.
pub mod Kept
pub mod Typed
pub mod Points
pub mod Blocks
pub mod Examples
pub mod Forks
pub mod MergedBlocks
pub mod ConvertedTrees
pub mod LoweredConversions
use Rattle.std.specs.Prelude.{ℕ, Bool, true, List}
use Rattle.hls_base.specs.declared.point.Point.{Point}
use Rattle.ir_core.specs.Bodies.{Shapes, Words}
use Rattle.ir_core.specs.Trees.{SequenceTree}
use Rattle.ir_core.specs.TreeRuns.{sequence_run}
use Rattle.passes.specs.Conversion.{converted_sequence}
use Rattle.pass_runs.specs.ConvertRuns.Kept.{IsSameRun}
use Rattle.pass_runs.specs.ConvertRuns.Typed.{SequenceIsTyped, Fits}
use Rattle.pass_runs.specs.ConvertRuns.Points.{Keeps}
use Rattle.pass_runs.specs.ConvertRuns.Blocks.{MergesKeepBlocks}

-- A converted tree has the run of the tree, from all contents that have their widths: it passes the points of blocks that stay, ends with the same words and in the same way, which again have their widths, or is undefined by the same rule and at the same place.
abbrev pub KeepsRuns : Shapes → List ℕ → Type 0
KeepsRuns shapes words = (loops : Bool) (blocks : SequenceTree) (kept : Point → Bool) → SequenceIsTyped shapes.widths words blocks → Keeps kept (record { widths = shapes.widths; loops = loops }) true blocks
    → (t : Words) → Fits shapes.widths words t
    → IsSameRun kept (λ w u. Fits shapes.widths words u) (λ n. sequence_run shapes blocks t n) (λ n. sequence_run shapes (converted_sequence (record { widths = shapes.widths; loops = loops }) blocks) t n)

-- It is so where forks that are merged keep what blocks do.
abbrev pub TreesKeepRuns : Type 0
TreesKeepRuns = (shapes : Shapes) (words : List ℕ) → MergesKeepBlocks shapes words → KeepsRuns shapes words
