-- Lives of small blocks.
use Rattle.std.proofs.Common.{◌≡◌, List, [], ◌∷◌, Some, None, refl}
use Rattle.reg_binding.specs.declared.life.Read.{Read}
use Rattle.reg_binding.specs.Lives.{last_read}

abbrev three : List Read
three = record { op = 0; time = 4 } ∷ record { op = 1; time = 9 } ∷ record { op = 0; time = 2 } ∷ []

the_later_one : last_read three 0 ≡ Some 4
the_later_one = refl

no_read : last_read three 2 ≡ None
no_read = refl
