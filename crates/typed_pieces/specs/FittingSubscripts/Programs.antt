-- Core programs in which each element has as many subscripts as its array has dimensions.
use Rattle.std.specs.Prelude.{◌≡◌, ℕ, suc, List, ◌∷◌, length, take, slice_get, Option, Some, None}
use Rattle.pieces.specs.declared.resolved.expression.Cell.{Cell}
use Rattle.pieces.specs.declared.resolved.expression.Scope.{Scope}
use Rattle.pieces.specs.declared.resolved.expression.Scope.TheVariants as scope
use Rattle.pieces.specs.Resolved.Core as core
use Rattle.pieces.specs.Resolved.Core.{CoreTree, CoreTargetTree, CoreTrees, ArgumentTree, ArgumentTrees, FileObjectTree, CoreObjectTree, CoreFunctionTree, CoreProgramTree}
use Rattle.expanded_programs.specs.Statements.Each.{InStmts}

abbrev pub file_dimensions : Option FileObjectTree → ℕ
file_dimensions None = 0
file_dimensions (Some o) = length o.object.lengths

abbrev pub own_dimensions : Option CoreObjectTree → ℕ
own_dimensions None = 0
own_dimensions (Some o) = length o.lengths

-- how many dimensions the object with this number has
abbrev pub dimensions_in : List FileObjectTree → List CoreObjectTree → Scope → ℕ → ℕ
dimensions_in file objects scope.File i = file_dimensions (slice_get file i)
dimensions_in file objects scope.Call i = own_dimensions (slice_get objects i)

abbrev pub dimensions_of : List FileObjectTree → List CoreObjectTree → Cell → ℕ
dimensions_of file objects cell = dimensions_in file objects cell.scope cell.number

abbrev pub count : CoreTrees → ℕ
count core.none = 0
count (core.more first rest) = suc (count rest)

-- An array that is given for a parameter has as many dimensions as the parameter.
abbrev pub ArraysFit : (Cell → ℕ) → List CoreObjectTree → ArgumentTrees → Type 0
ArraysFit dimensions (o ∷ os) (core.more_arguments (core.array cell) rest) = (length o.lengths ≡ dimensions cell) × ArraysFit dimensions os rest
ArraysFit dimensions (o ∷ os) (core.more_arguments (core.given v) rest) = ArraysFit dimensions os rest
ArraysFit dimensions _ _ = Unit {0}

abbrev pub CallFits : (Cell → ℕ) → Option CoreFunctionTree → ArgumentTrees → Type 0
CallFits dimensions None args = Unit {0}
CallFits dimensions (Some fn) args = ArraysFit dimensions (take fn.params fn.objects) args

module _ (functions : List CoreFunctionTree) (dimensions : Cell → ℕ) where
  abbrev mutual
    pub ElementsFit : CoreTree → Type 0
    ElementsFit (core.number value k) = Unit {0}
    ElementsFit (core.scalar cell k at) = Unit {0}
    ElementsFit (core.element array subscripts k at) = (count subscripts ≡ dimensions array) × EachFits subscripts
    ElementsFit (core.call callee args k at) = CallFits dimensions (slice_get functions callee) args × ArgumentsFit args
    ElementsFit (core.unary op arg k at) = ElementsFit arg
    ElementsFit (core.binary op left right k at) = ElementsFit left × ElementsFit right
    ElementsFit (core.choice test left right k at colon) = ElementsFit test × ElementsFit left × ElementsFit right
    ElementsFit (core.cast to arg) = ElementsFit arg
    ElementsFit (core.assign place op value at) = TargetFits place × ElementsFit value
    ElementsFit (core.bump place up post at) = TargetFits place
    ElementsFit (core.comma left right) = ElementsFit left × ElementsFit right

    pub TargetFits : CoreTargetTree → Type 0
    TargetFits (core.target cell subscripts k at) = (count subscripts ≡ dimensions cell) × EachFits subscripts

    pub EachFits : CoreTrees → Type 0
    EachFits core.none = Unit {0}
    EachFits (core.more first rest) = ElementsFit first × EachFits rest

    pub ArgumentFits : ArgumentTree → Type 0
    ArgumentFits (core.given value) = ElementsFit value
    ArgumentFits (core.array cell) = Unit {0}

    pub ArgumentsFit : ArgumentTrees → Type 0
    ArgumentsFit core.no_argument = Unit {0}
    ArgumentsFit (core.more_arguments first rest) = ArgumentFits first × ArgumentsFit rest

-- Each element, assigned element and bumped element has as many subscripts as its array has dimensions; a scalar has none.
abbrev pub ProgramSubscriptsFit : CoreProgramTree → Type 0
ProgramSubscriptsFit p = (i : ℕ) (fn : CoreFunctionTree) → slice_get p.functions i ≡ Some fn → InStmts (ElementsFit p.functions (dimensions_of p.file fn.objects)) (λ i. Unit {0}) fn.body
