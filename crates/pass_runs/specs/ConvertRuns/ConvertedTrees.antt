-- What numbering and conversion keep of trees.
pub mod Points
use Rattle.std.specs.Prelude.{◌≡◌, ℕ, true, List}
use Rattle.ir_core.specs.Trees.{SequenceTree}
use Rattle.passes.specs.Numbering as n
use Rattle.passes.specs.Numbering.{numbered_sequence}
use Rattle.passes.specs.Conversion as c
use Rattle.passes.specs.Conversion.{converted_sequence}
use Rattle.pass_runs.specs.ConvertRuns.Typed.{SequenceIsTyped}
use Rattle.pass_runs.specs.ConvertRuns.Forks.{HoldsForks}
use Rattle.pass_runs.specs.ConvertRuns.Points.{Keeps}
use Rattle.ir_layout.specs.WellFormed.{IsWellFormed}
use Rattle.pass_runs.specs.ConvertRuns.ConvertedTrees.Points.{live_points, AreApart, stays_in}

-- Each block is left as what stands behind it asks.
abbrev pub NumberedIsWellFormed : Type 0
NumberedIsWellFormed = (scope : n.Scope) (blocks : SequenceTree) → IsWellFormed blocks → IsWellFormed (numbered_sequence scope blocks)

abbrev pub ConvertedIsWellFormed : Type 0
ConvertedIsWellFormed = (scope : c.Scope) (blocks : SequenceTree) → IsWellFormed blocks → IsWellFormed (converted_sequence scope blocks)

-- Operands are there and have their widths, and sides, bodies and arms do not end by a test.
abbrev pub NumberedIsTyped : Type 0
NumberedIsTyped = (scope : n.Scope) (words : List ℕ) (blocks : SequenceTree) → SequenceIsTyped scope.widths words blocks → SequenceIsTyped scope.widths words (numbered_sequence scope blocks)

-- Blocks with convertible forks between them stay so.
abbrev pub NumberedHoldsForks : Type 0
NumberedHoldsForks = (scope : n.Scope) (blocks : SequenceTree) → HoldsForks blocks → HoldsForks (numbered_sequence scope blocks)

-- Where no two points are the same, those of blocks that stay are kept and the others dropped.
abbrev pub ApartPointsAreKept : Type 0
ApartPointsAreKept = (scope : c.Scope) (blocks : SequenceTree) → AreApart (live_points blocks) → Keeps (stays_in scope blocks) scope true blocks

-- Numbering keeps the points.
abbrev pub NumberedKeepsPoints : Type 0
NumberedKeepsPoints = (scope : n.Scope) (blocks : SequenceTree) → live_points (numbered_sequence scope blocks) ≡ live_points blocks
