-- How the programs are that sources are compiled to.
use Rattle.std.specs.Prelude.{◌≡◌, ◌≤◌, ◌+◌, ◌*◌, ℕ, true, List, length, Some}
use Rattle.std.specs.List.{All}
use Rattle.hls_base.specs.declared.point.Point.{Point}
use Rattle.c_tree.specs.Tree.{ProgramTree}
use Rattle.c_elaborate.specs.Programs.{program_elaborated}
use Rattle.c_expand.specs.Expansion.{expanded_weight}
use Rattle.c_meaning.specs.PieceRuns.Runs.{frame_of}
use Rattle.ir_core.specs.Trees.{SequenceTree}
use Rattle.ir_core.specs.declared.cfg.Cfg.{Cfg}
use Rattle.ir_core.specs.declared.stamp.Untimed.{Untimed}
use Rattle.passes.specs.Lowering.Shapes.{first_point}
use Rattle.passes.specs.Lowering.Blocks.{begun}
use Rattle.passes.specs.Lowering.{last, lowered}
use Rattle.pass_runs.specs.LowerRuns.Suits.{scope_of}
use Rattle.ir_layout.specs.Sizes.{sequence_size}
use Rattle.passes.specs.Totals.{operations, sequence_total}
use Rattle.ir_lower.specs.Frames.{frame_view}
use Rattle.compile_steps.specs.Resets.{expanded_frame}
use Rattle.timed_pieces.specs.FlatRuns.{Choice, IsUnfused}
use Rattle.program_validity.specs.Programs.{is_valid}
use Rattle.report_rows.specs.ForwardNodes.{HasForwardBody}
use Rattle.program_sizes.specs.CompiledSizes.{IsSmallProgram}
use Rattle.source_answers.specs.SourceRuns.{IsFaultless, expanded}

-- Of each source without faults that weighs at most 8,192 once its calls are expanded: there is a point at which its pieces begin, and each program that is laid out from them, beside what stands beside them, is valid and small, so that there always are numbers enough, and each of its operations comes behind those that it waits for, so that it can be given times.
abbrev pub AcceptedSourcesCompileToValid : Type 0
AcceptedSourcesCompileToValid = (source : List ℕ) (p : ProgramTree) (top : ℕ) (name : List ℕ) → IsFaultless source p top name → expanded_weight (program_elaborated p top) ≤ 8192
    → (start : Point) × (first_point (expanded p top).pieces ≡ Some start)
    × ((choice : Choice) (cfg : Cfg Untimed) → IsUnfused (frame_of (expanded p top)) choice (expanded p top).pieces start (expanded p top).result cfg
    → frame_view cfg.frame ≡ expanded_frame (expanded p top) → (is_valid cfg ≡ true) × IsSmallProgram cfg × All HasForwardBody cfg.nodes.items)

-- the tree of blocks that a source is lowered to, which begins at this point
abbrev pub lowered_source : ProgramTree → ℕ → Point → SequenceTree
lowered_source p top point = lowered (scope_of (frame_of (expanded p top))) (expanded p top).pieces last (begun point)

-- Of each source without faults: what it is lowered to has at most 24 operations, nodes and variables together for each unit of its weight once its calls are expanded, and 96 more.
abbrev pub SourcesAreLoweredToFew : Type 0
SourcesAreLoweredToFew = (source : List ℕ) (p : ProgramTree) (top : ℕ) (name : List ℕ) → IsFaultless source p top name → (point : Point)
    → sequence_total operations (lowered_source p top point) + sequence_size (lowered_source p top point) + length (expanded p top).variables ≤ 24 * (expanded_weight (program_elaborated p top) + 4)
