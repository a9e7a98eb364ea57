-- How many operations trees of blocks have that are numbered and converted.
use Rattle.std.specs.Prelude.{◌+◌, ◌≤◌, ◌≡◌}
use Rattle.ir_core.specs.Trees.{SequenceTree}
use Rattle.passes.specs.Numbering as numbering
use Rattle.passes.specs.Numbering.{numbered_sequence}
use Rattle.passes.specs.Conversion as conversion
use Rattle.passes.specs.Conversion.{converted_sequence}
use Rattle.passes.specs.Totals.{operations, settings, sequence_total}
use Rattle.passes.specs.OperationCount.Forks.{sequence_additions}

-- No more operations than before, as many settings, and no more operations that the conversion of forks may add.
pub record HasFewer (before after : SequenceTree) : Type 0 where
  pub operations : sequence_total operations after ≤ sequence_total operations before
  pub settings : sequence_total settings after ≡ sequence_total settings before
  pub additions : sequence_additions after ≤ sequence_additions before

-- Numbering leaves no more operations.
abbrev pub NumberedOperationsAreFewer : Type 0
NumberedOperationsAreFewer = (scope : numbering.Scope) (s : SequenceTree) → HasFewer s (numbered_sequence scope s)

-- At most so many operations more as are counted of the forks, and no more settings.
pub record IsBounded (before after : SequenceTree) : Type 0 where
  pub operations : sequence_total operations after ≤ sequence_total operations before + sequence_additions before
  pub settings : sequence_total settings after ≤ sequence_total settings before

-- Conversion adds no more operations than are counted of the forks that it may merge.
abbrev pub ConvertedOperationsAreBounded : Type 0
ConvertedOperationsAreBounded = (scope : conversion.Scope) (s : SequenceTree) → IsBounded s (converted_sequence scope s)
