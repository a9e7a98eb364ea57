-- How many objects the functions of a program have.
use Rattle.std.specs.Prelude.{ℕ, ◌≤◌, length, slice_get, ◌≡◌, Some}
use Rattle.pieces.specs.Resolved.Core.{CoreFunctionTree, CoreProgramTree}

-- No function has more objects than a source has tokens: at most 16,384, parameters included.
abbrev pub HasFewObjects : CoreProgramTree → Type 0
HasFewObjects p = (i : ℕ) (fn : CoreFunctionTree) → slice_get p.functions i ≡ Some fn → length fn.objects ≤ 16384
