-- What is valid of compiled programs.
use Rattle.std.specs.Prelude.{◌≡◌, ℕ, true, List, Some}
use Rattle.hls_base.specs.declared.point.Point.{Point}
use Rattle.c_tree.specs.Tree.{ProgramTree}
use Rattle.pieces.specs.Program.{ExpandedTree}
use Rattle.c_meaning.specs.PieceRuns.Runs.{frame_of}
use Rattle.ir_core.specs.declared.cfg.Cfg.{Cfg}
use Rattle.ir_core.specs.declared.stamp.Untimed.{Untimed}
use Rattle.ir_lower.specs.Frames.{frame_view}
use Rattle.compile_steps.specs.Resets.{expanded_frame}
use Rattle.passes.specs.Lowering.Shapes.{first_point}
use Rattle.pass_runs.specs.LowerRuns.Suits.{scope_of}
use Rattle.pass_runs.specs.ConvertRuns.LoweredConversions.Suiting.{PiecesSuit}
use Rattle.timed_pieces.specs.FlatRuns.{Choice, IsUnfused}
use Rattle.timed_pieces.specs.StartedWords.Contents.{ResultIsThere}
use Rattle.timed_pieces.specs.FormulaCycles.Ends.{LoopsLeadToTheirEnds}
use Rattle.sound_trees.specs.Subscripts.{PiecesSubscriptsFit}
use Rattle.program_validity.specs.Frames.{is_frame}
use Rattle.program_validity.specs.Programs.{is_valid}
use Rattle.valid_trees.specs.ValidLowering.Proper.{PiecesAreProper}
use Rattle.valid_trees.specs.ValidLayout.{HasNumbers}
use Rattle.source_validity.specs.ValidFrames.{NamesAreFew}
use Rattle.source_answers.specs.SourceRuns.{IsFaultless, expanded}

-- The flat program that pieces are compiled to is valid: of pieces that are proper and have the types of what they name, beside a valid frame that is that of the expanded program, where there are numbers enough for its nodes and operations.
abbrev pub LaidOutExpansionsAreValid : Type 0
LaidOutExpansionsAreValid = (e : ExpandedTree) (choice : Choice) (point : Point) (cfg : Cfg Untimed) → IsUnfused (frame_of e) choice e.pieces point e.result cfg → frame_view cfg.frame ≡ expanded_frame e
    → PiecesSuit (scope_of (frame_of e)) e.pieces → PiecesSubscriptsFit e.arrays e.pieces → PiecesAreProper e.arrays e.pieces → ResultIsThere e.variables e.ret e.result → LoopsLeadToTheirEnds cfg
    → is_frame cfg.frame ≡ true → HasNumbers cfg → is_valid cfg ≡ true

-- Of each source without faults: there is a point at which its pieces begin, and each program that is laid out from them, beside what stands beside them, is valid, where there are numbers enough for its variables, memories, nodes and operations.
abbrev pub SourcesCompileToValid : Type 0
SourcesCompileToValid = (source : List ℕ) (p : ProgramTree) (top : ℕ) (name : List ℕ) → IsFaultless source p top name
    → (start : Point) × (first_point (expanded p top).pieces ≡ Some start)
    × ((choice : Choice) (cfg : Cfg Untimed) → IsUnfused (frame_of (expanded p top)) choice (expanded p top).pieces start (expanded p top).result cfg
    → frame_view cfg.frame ≡ expanded_frame (expanded p top) → NamesAreFew cfg.frame → HasNumbers cfg → is_valid cfg ≡ true)
