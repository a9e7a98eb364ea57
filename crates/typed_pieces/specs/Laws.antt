-- What lowering takes for granted of the expressions of expanded programs.
use Rattle.std.specs.Prelude.{ℕ, List}
use Rattle.hls_base.specs.declared.place.Place.{Place}
use Rattle.c_tree.specs.Terminals.{Terminal}
use Rattle.c_tree.specs.Grammar.{DerivesProgram}
use Rattle.pieces.specs.Trees.{PieceTrees}
use Rattle.c_tree.specs.Tree.{ProgramTree}
use Rattle.c_elaborate.specs.Programs.{program_elaborated}
use Rattle.pieces.specs.Resolved.Core.{CoreProgramTree}
use Rattle.c_meaning.specs.PieceRuns.Pieces.{Frame}
use Rattle.c_meaning.specs.PieceRuns.Runs.{frame_of}
use Rattle.c_expand.specs.Expansion.{expansion}
use Rattle.expanded_programs.specs.Calls.Programs.{IsProgramSound}
use Rattle.pass_runs.specs.LowerRuns.Suits.{scope_of}
use Rattle.pass_runs.specs.ConvertRuns.LoweredConversions.Suiting.{PiecesSuit}
use Rattle.typed_pieces.specs.Typed.{PiecesTyped}
use Rattle.typed_pieces.specs.Operators.{PiecesOperate}
use Rattle.typed_pieces.specs.Types.{ProgramHasTypes}
use Rattle.typed_pieces.specs.Worlds.{ArraysHaveLengths}
use Rattle.typed_pieces.specs.Sources.{SourceHasTypes, TokensHaveTypes}

-- The expressions in the pieces of a program have the types of the variables and arrays that they name, what is set and written is there, and labels are words of the types of their switches. Of the core program it is known that names stand for objects as elaboration makes them, that its types are types of C, and that its labels are such words.
abbrev pub ExpandedPiecesAreTyped : Type 0
ExpandedPiecesAreTyped = (p : CoreProgramTree) → IsProgramSound p → ProgramHasTypes p → PiecesTyped (frame_of (expansion p)) (expansion p).pieces

-- Each array of an expanded program has a length at least.
abbrev pub ExpandedArraysHaveLengths : Type 0
ExpandedArraysHaveLengths = (p : CoreProgramTree) → IsProgramSound p → ProgramHasTypes p → ArraysHaveLengths (expansion p).arrays

-- Such pieces suit the scope in which they are lowered.
abbrev pub TypedPiecesSuit : Type 0
TypedPiecesSuit = (f : Frame) (pieces : PieceTrees) → PiecesTyped f pieces → PiecesSuit (scope_of f) pieces

-- Operators in such pieces have the types that C gives them, which they may have.
abbrev pub TypedPiecesOperate : Type 0
TypedPiecesOperate = (f : Frame) (pieces : PieceTrees) → PiecesTyped f pieces → PiecesOperate pieces

-- Where all types of a program are types of C, so are those of its core program, and the labels of its switches are words of their types.
abbrev pub ElaboratedHasTypes : Type 0
ElaboratedHasTypes = (p : ProgramTree) (top : ℕ) → SourceHasTypes p → ProgramHasTypes (program_elaborated p top)

-- The types of a program that the grammar derives are types of C, where those of its constants and of its type names are.
abbrev pub GrammarHasTypes : Type 0
GrammarHasTypes = (tokens : List Terminal) (end : Place) (p : ProgramTree) → DerivesProgram tokens end p → TokensHaveTypes tokens → SourceHasTypes p
