-- Cases one after another that compare one value with different numbers.
use Rattle.std.specs.Prelude.{ℕ, ◌&&◌, not, nat_eq, Bool, true, false, List, [], ◌∷◌, ◌++◌, Option, Some, None}
use Rattle.std.specs.List.{list_any}
use Rattle.ir_core.specs.declared.body.Operand.{Operand}
use Rattle.passes.specs.Numbering.Equal.{operand_eq}

-- x is compared, with a number that is not among these
abbrev pub is_other : Operand → List ℕ → Option (Operand × ℕ) → Bool
is_other x numbers None = false
is_other x numbers (Some it) = operand_eq x it.0 && not (list_any (nat_eq it.1) numbers)

abbrev pub number_in : Option (Operand × ℕ) → List ℕ
number_in None = []
number_in (Some it) = it.1 ∷ []

-- each compares x, with a number that is not among these, nor among those before
abbrev pub all_others : Operand → List ℕ → List (Option (Operand × ℕ)) → Bool
all_others x numbers [] = true
all_others x numbers (it ∷ rest) = is_other x numbers it && all_others x (numbers ++ number_in it) rest
