-- How many variables an expanded program has.
pub mod Declarations
use Rattle.std.specs.Prelude.{◌≡◌, ◌+◌, ◌≤◌, length, slice_get, Some}
use Rattle.pieces.specs.Resolved.Core.{CoreFunctionTree, CoreProgramTree}
use Rattle.c_expand.specs.Expansion.{expansion, expanded_weight}
use Rattle.expanded_programs.specs.Calls.Programs.{IsProgramSound}
use Rattle.program_sizes.specs.DeclaredVariables.Declarations.{EachIsDeclared}

-- An expanded program has at most one variable for each unit of its weight, for each parameter of its top function, and for its result.
abbrev pub VariablesAreCounted : Type 0
VariablesAreCounted = (p : CoreProgramTree) → IsProgramSound p → EachIsDeclared p → (fn : CoreFunctionTree) → slice_get p.functions p.top ≡ Some fn → length (expansion p).variables ≤ expanded_weight p + fn.params + 1
