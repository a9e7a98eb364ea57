-- What lowering takes for granted of expanded programs.
use Rattle.std.specs.Prelude.{◌≡◌, ℕ, List, false, [], slice_get}
use Rattle.hls_base.specs.declared.place.Place.{Place}
use Rattle.hls_base.specs.declared.point.Point.{Point}
use Rattle.pieces.specs.Program.{ExpandedTree}
use Rattle.passes.specs.Lowering.Blocks.{begun}
use Rattle.passes.specs.Lowering.{last, lowered, scope_of}
use Rattle.ir_layout.specs.WellFormed.{IsWellFormed}
use Rattle.c_tree.specs.Tree.{ProgramTree}
use Rattle.c_tree.specs.Terminals.{Terminal}
use Rattle.c_tree.specs.Grammar.{DerivesProgram}
use Rattle.c_meaning.specs.Checks.Programs.{program_faults}
use Rattle.c_elaborate.specs.Programs.{program_elaborated}
use Rattle.pieces.specs.Resolved.Core.{CoreProgramTree}
use Rattle.c_expand.specs.Expansion.{expansion}
use Rattle.pass_runs.specs.LowerRuns.LoweredTrees.Fitting.{PiecesFit}
use Rattle.pass_runs.specs.LowerRuns.Showing.{AreShort}
use Rattle.c_meaning.specs.PieceRuns.Values.{lengths_in}
use Rattle.expanded_pieces.specs.Jumps.{ProgramJumpsFit}
use Rattle.expanded_pieces.specs.Lengths.{ProgramLengthsFit}
use Rattle.expanded_pieces.specs.Beginning.{ProgramLoopsBegin}

-- Each break and continue among the pieces stands in a loop or switch that it leaves, and each return that leaves a call before the end of that call; none leads out of a loop's test or into another arm.
abbrev pub ExpandedPiecesFit : Type 0
ExpandedPiecesFit = (p : CoreProgramTree) → ProgramJumpsFit p → PiecesFit (record { leave = false; again = false; lands = [] }) (expansion p).pieces

-- No array has a length above 65,536, where no object of the program has one.
abbrev pub ExpandedArraysAreShort : Type 0
ExpandedArraysAreShort = (p : CoreProgramTree) → ProgramJumpsFit p → ProgramLengthsFit p → (a : ℕ) → AreShort (lengths_in (slice_get (expansion p).arrays a))

-- The tree that it is lowered to is well formed.
abbrev pub ExpandedIsWellFormed : Type 0
ExpandedIsWellFormed = (p : CoreProgramTree) → ProgramJumpsFit p → (point : Point) → IsWellFormed (lowered (scope_of (expansion p)) (expansion p).pieces last (begun point))

-- ---- programs of C

-- The core program of a program without faults has its breaks, continues and labels where they may stand.
abbrev pub ElaboratedJumpsFit : Type 0
ElaboratedJumpsFit = (p : ProgramTree) (top : ℕ) (name : List ℕ) → program_faults p name ≡ [] → ProgramLoopsBegin p → ProgramJumpsFit (program_elaborated p top)

-- No object of a core program has a length above 65,536.
abbrev pub ElaboratedLengthsFit : Type 0
ElaboratedLengthsFit = (p : ProgramTree) (top : ℕ) → ProgramLengthsFit (program_elaborated p top)

-- Loops of programs that the grammar derives begin with declarations or actions.
abbrev pub GrammarBeginsLoops : Type 0
GrammarBeginsLoops = (tokens : List Terminal) (end : Place) (p : ProgramTree) → DerivesProgram tokens end p → ProgramLoopsBegin p

-- what is known of the expansion of each program that the grammar derives and that has no fault
pub record Fits (e : ExpandedTree) : Type 0 where
  pub jumps : PiecesFit (record { leave = false; again = false; lands = [] }) e.pieces
  pub lengths : (a : ℕ) → AreShort (lengths_in (slice_get e.arrays a))
  pub blocks : (point : Point) → IsWellFormed (lowered (scope_of e) e.pieces last (begun point))

abbrev pub CheckedProgramsFit : Type 0
CheckedProgramsFit = (tokens : List Terminal) (end : Place) (p : ProgramTree) (top : ℕ) (name : List ℕ) → DerivesProgram tokens end p → program_faults p name ≡ [] → Fits (expansion (program_elaborated p top))
