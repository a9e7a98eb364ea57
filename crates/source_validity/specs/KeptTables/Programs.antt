-- Core programs that set no object that is const.
use Rattle.std.specs.Prelude.{◌≡◌, ℕ, Bool, false, List, ◌∷◌, take, slice_get, Option, Some, None}
use Rattle.pieces.specs.declared.resolved.expression.Cell.{Cell}
use Rattle.pieces.specs.declared.resolved.expression.Scope.{Scope}
use Rattle.pieces.specs.declared.resolved.expression.Scope.TheVariants as scope
use Rattle.pieces.specs.Resolved.Core as core
use Rattle.pieces.specs.Resolved.Core.{CoreTree, CoreTargetTree, CoreTrees, ArgumentTree, ArgumentTrees, FileObjectTree, CoreObjectTree, CoreFunctionTree, CoreProgramTree}
use Rattle.expanded_programs.specs.Statements.Scopes.{IsArray}
use Rattle.expanded_programs.specs.Statements.Each.{InStmts}

abbrev pub file_constant : Option FileObjectTree → Bool
file_constant None = false
file_constant (Some o) = o.object.constant

abbrev pub own_constant : Option CoreObjectTree → Bool
own_constant None = false
own_constant (Some o) = o.constant

-- whether the object with this number is const
abbrev pub constant_in : List FileObjectTree → List CoreObjectTree → Scope → ℕ → Bool
constant_in file objects scope.File i = file_constant (slice_get file i)
constant_in file objects scope.Call i = own_constant (slice_get objects i)

abbrev pub constant_of : List FileObjectTree → List CoreObjectTree → Cell → Bool
constant_of file objects cell = constant_in file objects cell.scope cell.number

-- An array that is given for an array parameter that is not const is not const.
abbrev pub ArraysKeep : (Cell → Bool) → List CoreObjectTree → ArgumentTrees → Type 0
ArraysKeep constant (o ∷ os) (core.more_arguments (core.array cell) rest) = (IsArray o → o.constant ≡ false → constant cell ≡ false) × ArraysKeep constant os rest
ArraysKeep constant (o ∷ os) (core.more_arguments (core.given v) rest) = ArraysKeep constant os rest
ArraysKeep constant _ _ = Unit {0}

abbrev pub CallKeeps : (Cell → Bool) → Option CoreFunctionTree → ArgumentTrees → Type 0
CallKeeps constant None args = Unit {0}
CallKeeps constant (Some fn) args = ArraysKeep constant (take fn.params fn.objects) args

module _ (functions : List CoreFunctionTree) (constant : Cell → Bool) where
  -- no object that is const is assigned or bumped
  abbrev mutual
    pub KeepsConstants : CoreTree → Type 0
    KeepsConstants (core.number value k) = Unit {0}
    KeepsConstants (core.scalar cell k at) = Unit {0}
    KeepsConstants (core.element array subscripts k at) = EachKeeps subscripts
    KeepsConstants (core.call callee args k at) = CallKeeps constant (slice_get functions callee) args × ArgumentsKeep args
    KeepsConstants (core.unary op arg k at) = KeepsConstants arg
    KeepsConstants (core.binary op left right k at) = KeepsConstants left × KeepsConstants right
    KeepsConstants (core.choice test left right k at colon) = KeepsConstants test × KeepsConstants left × KeepsConstants right
    KeepsConstants (core.cast to arg) = KeepsConstants arg
    KeepsConstants (core.assign place op value at) = TargetKeeps place × KeepsConstants value
    KeepsConstants (core.bump place up post at) = TargetKeeps place
    KeepsConstants (core.comma left right) = KeepsConstants left × KeepsConstants right

    pub TargetKeeps : CoreTargetTree → Type 0
    TargetKeeps (core.target cell subscripts k at) = (constant cell ≡ false) × EachKeeps subscripts

    pub EachKeeps : CoreTrees → Type 0
    EachKeeps core.none = Unit {0}
    EachKeeps (core.more first rest) = KeepsConstants first × EachKeeps rest

    pub ArgumentKeeps : ArgumentTree → Type 0
    ArgumentKeeps (core.given value) = KeepsConstants value
    ArgumentKeeps (core.array cell) = Unit {0}

    pub ArgumentsKeep : ArgumentTrees → Type 0
    ArgumentsKeep core.no_argument = Unit {0}
    ArgumentsKeep (core.more_arguments first rest) = ArgumentKeeps first × ArgumentsKeep rest

-- No expression assigns or bumps an object that is const, and const arrays are given only for parameters that are const.
abbrev pub ProgramKeepsConstants : CoreProgramTree → Type 0
ProgramKeepsConstants p = (i : ℕ) (fn : CoreFunctionTree) → slice_get p.functions i ≡ Some fn → InStmts (KeepsConstants p.functions (constant_of p.file fn.objects)) (λ i. Unit {0}) fn.body
