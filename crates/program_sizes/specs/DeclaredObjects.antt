-- Objects and parameters of the functions of elaborated programs.
use Rattle.std.specs.Prelude.{◌≡◌, ℕ, ◌≤◌, List, [], slice_get, Some}
use Rattle.c_tree.specs.Tree.{ProgramTree}
use Rattle.c_meaning.specs.Checks.Programs.{program_faults}
use Rattle.pieces.specs.Resolved.Core.{CoreFunctionTree, CoreProgramTree}
use Rattle.c_elaborate.specs.Programs.{program_elaborated}
use Rattle.program_sizes.specs.DeclaredVariables.Declarations.{EachIsDeclared}

-- The functions have at most 32 parameters.
abbrev pub EachHasFewParameters : CoreProgramTree → Type 0
EachHasFewParameters p = (i : ℕ) (fn : CoreFunctionTree) → slice_get p.functions i ≡ Some fn → fn.params ≤ 32

-- Elaboration declares each object of a function that is no parameter.
abbrev pub ElaboratedObjectsAreDeclared : Type 0
ElaboratedObjectsAreDeclared = (p : ProgramTree) (top : ℕ) → EachIsDeclared (program_elaborated p top)

-- In a program without faults the functions have few parameters.
abbrev pub ParametersAreFew : Type 0
ParametersAreFew = (p : ProgramTree) (name : List ℕ) (top : ℕ) → program_faults p name ≡ [] → EachHasFewParameters (program_elaborated p top)
