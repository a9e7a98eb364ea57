-- What the code's objects are in the definitions.
use Rattle.std.specs.Prelude.{ℕ, List, Result, Ok, Err}
use Rattle.c_meaning.specs.declared.value.Undefined.{Undefined}
use Rattle.c_meaning.specs.Store.{Object, State}
use Rattle.c_meaning.specs.Steps.{Ran, goes, fails}

abbrev pub state : List Object → ℕ → State
state objects left = record { objects = objects; left = left }

-- the part of a run that gives this value in this state, or is undefined so
abbrev pub ran_of : {A : Type 0} → Result A Undefined → State → Ran A
ran_of (Ok value) s = goes value s
ran_of (Err u) s = fails u.rule u.at
