-- The trees of a program name what is there.
use Rattle.passes.specs.Lowering.Blocks.{begun}
use Rattle.passes.specs.Lowering.{last, lowered}
use Rattle.passes.specs.Numbering.{numbered_sequence}
use Rattle.std.proofs.Common.{length}
use Rattle.pass_runs.specs.ConvertRuns.LoweredConversions.Suiting.{widths_of}
use Rattle.valid_trees.specs.WholeTrees.{ProgramIsThere}
use Rattle.valid_trees.proofs.WholeTrees.Numbered as numbered
use Rattle.valid_trees.proofs.WholeTrees.Converted as converted
use Rattle.valid_trees.proofs.WholeTrees.Lowered as low

pub there : ProgramIsThere
there scope dims apart loops parts point same suits =
    let blocks = lowered scope parts last (begun point) in
    let n = length scope.variables in
    converted.there (record { widths = widths_of scope; loops = loops }) n dims (numbered_sequence (record { widths = widths_of scope; apart = apart }) blocks)
    (numbered.there (record { widths = widths_of scope; apart = apart }) n dims blocks (low.there scope dims parts point same suits))
