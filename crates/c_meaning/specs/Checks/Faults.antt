-- Faults: the rule that a program breaks, and where. The least one of a list is the first by line, column, part and rule.
use Rattle.std.specs.Prelude.{◌≡◌, ℕ, ◌==◌, ◌&&◌, ◌||◌, nat_lt, Bool, true, false, List, [], ◌∷◌, Option, Some, None, All, Contains, if◌then◌else◌}
use Rattle.hls_base.specs.declared.place.Place.{Place}
use Rattle.hls_base.specs.declared.refusal.Refusal.{Refusal}

abbrev pub fault : ℕ → Place → Refusal
fault rule place = record { rule = rule; place = place }

-- the fault of a rule, where the test says that it is broken
abbrev pub fault_if : Bool → ℕ → Place → List Refusal
fault_if true rule place = fault rule place ∷ []
fault_if false rule place = []

-- by line, column and part, and at one place by rule
abbrev pub is_lesser : Refusal → Refusal → Bool
is_lesser r s =
    nat_lt r.place.line s.place.line
    || ((r.place.line == s.place.line) && (nat_lt r.place.column s.place.column
    || ((r.place.column == s.place.column) && (nat_lt r.place.part s.place.part
    || ((r.place.part == s.place.part) && nat_lt r.rule s.rule)))))

abbrev pub lesser : Option Refusal → Option Refusal → Option Refusal
lesser None s = s
lesser (Some r) None = Some r
lesser (Some r) (Some s) = if is_lesser s r then Some s else Some r

-- the least fault, if there is one
abbrev pub least : List Refusal → Option Refusal
least [] = None
least (r ∷ rs) = lesser (Some r) (least rs)

-- the fault is one of these, and none of them is less
abbrev pub IsLeast : List Refusal → Refusal → Type 0
IsLeast faults r = Contains faults r × All (λ s. is_lesser s r ≡ false) faults
