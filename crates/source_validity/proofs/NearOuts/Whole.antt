-- The outs and tests of the programs that sources are compiled to are near.
use Rattle.std.proofs.Common.{Bool, true}
use Rattle.hls_base.specs.declared.point.Point.{Point}
use Rattle.c_tree.specs.Terminals.{terminals}
use Rattle.pieces.specs.Program.{ExpandedTree}
use Rattle.pieces.specs.Trees.{PieceTrees}
use Rattle.c_meaning.specs.PieceRuns.Runs.{frame_of}
use Rattle.ir_core.specs.Trees.{BlockTree}
use Rattle.passes.specs.Lowering.Blocks as lower
use Rattle.passes.specs.Lowering.Blocks.{begun}
use Rattle.passes.specs.Lowering.{last, lowered}
use Rattle.passes.specs.Numbering.{numbered_sequence}
use Rattle.pass_runs.specs.ConvertRuns.LoweredConversions.Suiting.{widths_of, words_of, PiecesSuit}
use Rattle.pass_runs.specs.LowerRuns.Suits.{scope_of}
use Rattle.sound_trees.specs.Trees.{SequenceHas}
use Rattle.sound_trees.specs.Ready.{BlockIsReady}
use Rattle.sound_trees.specs.Loops.{NumberedLoopIsReady}
use Rattle.sound_trees.specs.Subscripts.{PiecesSubscriptsFit}
use Rattle.sound_trees.specs.Laws.{shapes_in, tree_in}
use Rattle.sound_trees.proofs.Lowered.{lowered_ready}
use Rattle.sound_trees.proofs.NumberedTrees as numbered
use Rattle.sound_trees.proofs.Converted as converted
use Rattle.sound_trees.proofs.Whole.{tree_ready}
use Rattle.expanded_programs.proofs.ElaboratedPrograms.Tokens.{numbers_fit}
use Rattle.source_answers.proofs.SourceRuns.ElaboratedSubscripts.Programs.{checked_fit}
use Rattle.source_answers.proofs.SourceRuns.SourceTypes.Whole.{sources_fine}
use Rattle.source_answers.specs.SourceRuns.{expanded}
use Rattle.source_validity.specs.NearOuts.{LaidOutOutsAreNear, SourcesHaveNearOuts}
use Rattle.source_validity.proofs.FusedPrograms.Near.{outs_stay_near}
use Rattle.source_validity.proofs.NearOuts.Laid.{program_has}
use Rattle.source_validity.proofs.NearOuts.Iterations.{BodyOutsAreNear, BodyTestIsNear, own_outs, iteration_outs, tests_fit}

-- the tests of the loops that are overlapped
tests_near : (scope : lower.Scope) (apart loops : Bool) (pieces : PieceTrees) (point : Point) → PiecesSuit scope pieces → PiecesSubscriptsFit scope.arrays pieces
    → SequenceHas (BlockIsReady (shapes_in scope) (words_of scope) true) (λ t b. Unit {0}) BodyTestIsNear (tree_in scope apart loops pieces point)
tests_near scope apart loops pieces point suits subscripts =
    let shapes = shapes_in scope in
    let words = words_of scope in
    let tree = lowered scope pieces last (begun point) in
    let low = lowered_ready (λ b. ⊥) scope pieces point suits subscripts in
    let num = numbered.sequence_ready shapes words (λ b. ⊥) (record { widths = widths_of scope; apart = apart }) tree low in
    converted.sequence_ready shapes words loops (NumberedLoopIsReady shapes words) (λ b. ⊥) BodyTestIsNear (λ b h. absurd h) (tests_fit shapes words loops) (numbered_sequence (record { widths = widths_of scope; apart = apart }) tree) num

pub laid_out_near : LaidOutOutsAreNear
laid_out_near scope apart loops pieces point returned cfg suits subscripts laid =
    let tree = tree_in scope apart loops pieces point in
    let B : BlockTree → Type 0 = BlockIsReady (shapes_in scope) (words_of scope) true in
    let outs = program_has B BodyOutsAreNear (λ b h. own_outs b.outs h.outs) cfg tree returned laid (tree_ready BodyOutsAreNear scope apart loops pieces point suits subscripts (λ known b h s. iteration_outs known b h.outs)) in
    let tests = program_has B BodyTestIsNear (λ b h. tt) cfg tree returned laid (tests_near scope apart loops pieces point suits subscripts) in
    (λ i d lt. record { outs = outs i d lt; test = tests i d lt })

pub sources_near : SourcesHaveNearOuts
sources_near source p top name s start choice cfg laid =
    let e : ExpandedTree = expanded p top in
    let numbers = numbers_fit source s.tokens s.replaced s.spelled s.becomes in
    let fine = sources_fine source s.tokens s.replaced s.end p top name s.spelled s.becomes s.derives s.named s.faultless in
    let subscripts = checked_fit (terminals s.replaced) s.end p top name numbers s.derives s.named s.faultless in
    outs_stay_near choice.period laid.unfused cfg laid.fused (laid_out_near (scope_of (frame_of e)) choice.apart choice.loops e.pieces start e.result laid.unfused fine.1.typed subscripts laid.laid.nodes)
