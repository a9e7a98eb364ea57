-- The first of some faults: the one at the earliest place, and at one place that of the smallest rule.
use Rattle.std.specs.Prelude.{nat_lt, ◌==◌, Bool, List, [], ◌∷◌, Option, Some, None, if◌then◌else◌}
use Rattle.hls_base.specs.declared.refusal.Refusal.{Refusal}

abbrev pub is_before : Refusal → Refusal → Bool
is_before x y =
    if x.place.line == y.place.line
    then (if x.place.column == y.place.column then nat_lt x.rule y.rule else nat_lt x.place.column y.place.column)
    else nat_lt x.place.line y.place.line

-- the one found so far, unless the other is before it
abbrev pub earlier : Option Refusal → Refusal → Refusal
earlier None fault = fault
earlier (Some found) fault = if is_before fault found then fault else found

abbrev pub noted : Option Refusal → List Refusal → Option Refusal
noted found [] = found
noted found (fault ∷ faults) = noted (Some (earlier found fault)) faults

-- the first of the faults, if there is one
abbrev pub first_fault : List Refusal → Option Refusal
first_fault faults = noted None faults
