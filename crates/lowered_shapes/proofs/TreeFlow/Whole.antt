-- The laws of the passes, one behind another.
use Rattle.std.proofs.Common.{◌≡◌, ℕ, subst}
use Rattle.hls_base.specs.Steps.{Ran}
use Rattle.ir_core.specs.Bodies.{Shapes, Words}
use Rattle.ir_core.specs.TreeRuns.{Way, sequence_run}
use Rattle.pass_runs.specs.ConvertRuns.Kept.{IsSameRun}
use Rattle.pass_runs.specs.ConvertRuns.Typed.{Fits}
use Rattle.pass_runs.proofs.ConvertRuns.Forks.{forks as merged_forks}
use Rattle.pass_runs.proofs.ConvertRuns.MergedBlocks.Whole.{trees}
use Rattle.passes.proofs.NumberRuns.Blocks.{block_same}
use Rattle.passes.proofs.NumberRuns.Trees.{sequence_same}
use Rattle.pass_runs.proofs.LowerRuns.LoweredTrees.Trees.{lowered_ordered}
use Rattle.pass_runs.proofs.LowerRuns.LoweredTrees.Fitting.{lowered_fits}
use Rattle.pass_runs.proofs.ConvertRuns.ConvertedTrees.Numbered.{well_formed as numbered_well}
use Rattle.pass_runs.proofs.ConvertRuns.ConvertedTrees.Converted.{well_formed as converted_well}
use Rattle.pass_runs.specs.ConvertRuns.ConvertedTrees.Points.{stays_in}
use Rattle.pass_runs.specs.ConvertRuns.LoweredConversions.Suiting.{widths_of, words_of}
use Rattle.pass_runs.specs.ConvertRuns.LoweredConversions.{body_blocks}
use Rattle.pass_runs.proofs.ConvertRuns.LoweredConversions.Whole.{numbered_typed}
use Rattle.pass_runs.proofs.ConvertRuns.LoweredConversions.Points.{keeps}
use Rattle.pass_runs.proofs.ConvertRuns.LoweredConversions.Forks.{numbered_forks}
use Rattle.lowered_shapes.specs.TreeFlow.{lowered_tree, numbered_tree, converted_tree, ConversionKeepsRuns, ConvertedTreesAreWellFormed, StraightBecomesOne}

pub runs : ConversionKeepsRuns
runs scope dims apart loops parts point suits different t fits =
    let shapes : Shapes = record { widths = widths_of scope; dims = dims } in
    let low = lowered_tree scope parts point in
    let blocks = numbered_tree scope apart low in
    let kept = stays_in (record { widths = widths_of scope; loops = loops }) blocks in
    let same : (n : ℕ) → sequence_run shapes blocks t n ≡ sequence_run shapes low t n = λ n. sequence_same shapes (block_same shapes) apart low (lowered_ordered scope parts point) t n in
    let all = trees shapes (words_of scope) loops blocks kept (numbered_typed scope apart parts point suits)
    (keeps scope (record { widths = widths_of scope; apart = apart }) (record { widths = widths_of scope; loops = loops }) parts point different) t fits in
    subst (λ (r : ℕ → Ran Words Way). IsSameRun kept (λ w u. Fits (widths_of scope) (words_of scope) u) r (λ n. sequence_run shapes (converted_tree scope loops blocks) t n)) (λ i n. same n i) all

pub well_formed : ConvertedTreesAreWellFormed
well_formed scope apart loops parts point fit =
    let low = lowered_tree scope parts point in
    converted_well (record { widths = widths_of scope; loops = loops }) (numbered_tree scope apart low) (numbered_well (record { widths = widths_of scope; apart = apart }) low (lowered_fits scope parts point fit))

pub one : StraightBecomesOne
one scope apart loops copies body step point e k h m =
    merged_forks (record { widths = widths_of scope; loops = loops }) (numbered_tree scope apart (body_blocks scope copies body step point))
    (numbered_forks scope (record { widths = widths_of scope; apart = apart }) copies body step point e k h m)
