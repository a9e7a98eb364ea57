-- What expanded programs begin and end with.
use Rattle.std.specs.Prelude.{◌≡◌, ℕ, List, [], ◌∷◌, drop, Option, Some, None, slice_get}
use Rattle.hls_base.specs.FileScope.{FileScope}
use Rattle.hls_base.specs.declared.place.Place.{Place}
use Rattle.c_tree.specs.Terminals.{Terminal}
use Rattle.c_tree.specs.Tree.{ProgramTree}
use Rattle.c_tree.specs.Grammar.{DerivesProgram}
use Rattle.c_meaning.specs.Checks.Programs.{top_name, program_faults}
use Rattle.pieces.specs.Resolved.Core.{FileObjectTree, CoreProgramTree}
use Rattle.c_elaborate.specs.Programs.{program_elaborated}
use Rattle.c_expand.specs.Expansion.{expansion}
use Rattle.pieces.specs.Program.{ArrayTree, ExpandedTree}
use Rattle.c_meaning.specs.PieceRuns.Runs.{frame_of, variables_of}
use Rattle.expand_runs.specs.Laws.{FillsObject, InputsFit}
use Rattle.expanded_programs.specs.Calls.Programs.{IsProgramSound}
use Rattle.expanded_programs.specs.ElaboratedPrograms.Written.{NumbersFit}
use Rattle.expanded_programs.specs.ElaboratedPrograms.Inputs.{ProgramInputsFit}
use Rattle.pass_runs.specs.LowerRuns.Holding.{ArraysAreShort}
use Rattle.timed_pieces.specs.StartedWords.Contents.{HostsAreApart, ResultIsThere, KeptAreThere}
use Rattle.timed_pieces.specs.StartedWords.FirstWords.{FillVariables, FillsArray, FillHosts, HasFirstContents}

-- The program has first contents, no array of the host is one of file scope, and its variables of file scope and of its result are there.
pub record HasEnds (e : ExpandedTree) : Type 0 where
  pub contents : HasFirstContents e
  pub apart : HostsAreApart e.arrays
  pub kept : KeptAreThere e
  pub result : ResultIsThere e.variables e.ret e.result

-- The first of these rows fills the array, if it is one that file scope keeps, and this holds of the others.
abbrev pub KeptFills : Option (List ℕ) → ArrayTree → List (List ℕ) → Type 0 → Type 0 → Type 0
KeptFills None a rows All Others = All
KeptFills (Some first) a [] All Others = ⊥
KeptFills (Some first) a (row ∷ rows) All Others = FillsArray a row × Others

-- a row that fills it for each array that file scope keeps
abbrev pub FillKept : List ArrayTree → List (List ℕ) → Type 0
FillKept [] rows = rows ≡ []
FillKept (a ∷ arrays) rows = KeptFills a.initial a rows (FillKept arrays rows) (FillKept arrays (drop 1 rows))

-- A word for each parameter, and a row of words for each array that the host reaches; and the same for what file scope keeps.
pub record InputsFill (e : ExpandedTree) (kept : FileScope) (scalars : List ℕ) (arrays : List (List ℕ)) : Type 0 where
  pub params : FillVariables e e.params scalars
  pub hosts : FillHosts e.arrays arrays
  pub kept_scalars : FillVariables e (variables_of e.kept) kept.scalars
  pub kept_arrays : FillKept e.arrays kept.arrays

-- ---- core programs

-- Each object of file scope has at first as many bit patterns of its type as elements.
abbrev pub FilesFill : List FileObjectTree → Type 0
FilesFill os = (i : ℕ) (o : FileObjectTree) → slice_get os i ≡ Some o → FillsObject o.object o.first

abbrev pub SoundProgramsBegin : Type 0
SoundProgramsBegin = (p : CoreProgramTree) → IsProgramSound p → FilesFill p.file → HasEnds (expansion p)

abbrev pub SoundInputsFill : Type 0
SoundInputsFill = (p : CoreProgramTree) → IsProgramSound p → (kept : FileScope) (scalars : List ℕ) (arrays : List (List ℕ)) → InputsFit p kept scalars arrays → InputsFill (expansion p) kept scalars arrays

-- ---- programs of C

abbrev pub CheckedProgramsBegin : Type 0
CheckedProgramsBegin = (tokens : List Terminal) (end : Place) (p : ProgramTree) (top : ℕ) (name : List ℕ) → NumbersFit tokens → DerivesProgram tokens end p → top_name p top ≡ Some name → program_faults p name ≡ []
    → HasEnds (expansion (program_elaborated p top)) × ArraysAreShort (frame_of (expansion (program_elaborated p top)))

abbrev pub CheckedInputsFill : Type 0
CheckedInputsFill = (tokens : List Terminal) (end : Place) (p : ProgramTree) (top : ℕ) (name : List ℕ) → NumbersFit tokens → DerivesProgram tokens end p → top_name p top ≡ Some name → program_faults p name ≡ []
    → (kept : FileScope) (scalars : List ℕ) (arrays : List (List ℕ)) → ProgramInputsFit p top kept scalars arrays → InputsFill (expansion (program_elaborated p top)) kept scalars arrays
