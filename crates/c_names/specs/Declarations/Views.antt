-- The type of an object by the fields of the code's record.
use Rattle.std.specs.Prelude.{ℕ, Bool, List, Option}
use Rattle.c_token.specs.declared.ctype.CType.{CType}
use Rattle.c_meaning.specs.Checks.Names.{Shape}

abbrev pub shape_view : CType → Bool → List (Option ℕ) → Shape
shape_view kind constant lengths = record { kind = kind; constant = constant; lengths = lengths }
