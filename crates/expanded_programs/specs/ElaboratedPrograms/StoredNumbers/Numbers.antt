-- Objects that hold numbers of their types.
use Rattle.std.specs.Prelude.{ℤ, All, Option, Some, None}
use Rattle.c_token.specs.declared.ctype.CType.{CType}
use Rattle.c_value.specs.Values.{IsOf}
use Rattle.c_meaning.specs.Store.{Object, State}
use Rattle.c_meaning.specs.Steps as steps
use Rattle.c_meaning.specs.Steps.{Outcome, Ran}

-- what an element holds, if it was written, is a number of the type
abbrev pub IsNumber : CType → Option ℤ → Type 0
IsNumber kind None = Unit {0}
IsNumber kind (Some n) = IsOf kind n

-- so it is with each element of the object
abbrev pub HasNumbers : Object → Type 0
HasNumbers o = All (IsNumber o.kind) o.elements

-- each number that stands in an object is one of the object's type
abbrev pub HoldsNumbers : State → Type 0
HoldsNumbers s = All HasNumbers s.objects

-- so it is where this part of a run ends
abbrev pub EndsWithNumbers : {A : Type 0} → Outcome A → Type 0
EndsWithNumbers (steps.went v s) = HoldsNumbers s
EndsWithNumbers _ = Unit {0}

-- So it is where the part ends that begins with this state, if it was so there.
abbrev pub KeepsNumbers : {A : Type 0} → (State → Ran A) → State → Type 0
KeepsNumbers part s = HoldsNumbers s → EndsWithNumbers (part s).outcome
