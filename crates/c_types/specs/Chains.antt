-- An expression as its innermost part and the operators around it: what is found of the whole, from what is found of the part.
use Rattle.std.specs.Prelude.{ℕ, Bool, true, false, List, [], ◌∷◌, ◌++◌, Option}
use Rattle.hls_base.specs.declared.refusal.Refusal.{Refusal}
use Rattle.c_tree.specs.Tree as tree
use Rattle.c_tree.specs.Tree.{Tree}
use Rattle.c_meaning.specs.Checks.Faults.{lesser, least}
use Rattle.c_meaning.specs.Checks.Names.{Declared}
use Rattle.c_meaning.specs.Checks.Conflicts.{Access, accesses, between, operand_conflicts, conflicts_inside}
use Rattle.c_meaning.specs.Checks.Expressions.{expression_faults}
use Rattle.c_types.specs.declared.steps.Changed.{Changed}
use Rattle.c_types.specs.declared.steps.Step.{Step}
use Rattle.c_types.specs.declared.steps.Step.TheVariants as s

-- no operator of a chain is at the top
abbrev pub is_innermost : Tree → Bool
is_innermost (tree.unary op arg at) = false
is_innermost (tree.binary op left right at) = false
is_innermost (tree.cast to arg at) = false
is_innermost (tree.assign changed op value at) = false
is_innermost (tree.comma left right at) = false
is_innermost _ = true

-- the least fault of an expression, and its accesses
pub record Found : Type 0 where
  pub fault : Option Refusal
  pub accesses : List Access

abbrev pub found : Option Refusal → List Access → Found
found fault accesses = record { fault = fault; accesses = accesses }

abbrev pub found_of : Bool → List (List ℕ) → List Declared → Tree → Found
found_of used bodies names t = found (least (expression_faults used bodies names t)) (accesses names t)

-- of a target that is changed to a value with these accesses
abbrev pub changed_fault : Changed → List Access → Option Refusal
changed_fault target valued =
    lesser target.used
    (lesser target.conflict
    (lesser (least (between target.subscripts valued))
    (lesser target.inside
    (lesser (least (conflicts_inside target.own valued))
    target.fault))))

-- the operator with the part that it goes on with: its left operand, or the value that it assigns
abbrev pub step : Step → Found → Found
step (s.Binary op right) left =
    found (lesser (least (operand_conflicts op left.accesses right.accesses)) (lesser left.fault right.fault)) (left.accesses ++ right.accesses)
step (s.Comma right) left = found (lesser left.fault right.fault) (left.accesses ++ right.accesses)
step (s.Assign target) value = found (lesser (changed_fault target value.accesses) value.fault) ((target.own ++ target.subscripts) ++ value.accesses)

-- outermost first
abbrev pub steps : List Step → Found → Found
steps [] part = part
steps (first ∷ rest) part = step first (steps rest part)
