-- Expressions as elaboration makes them: types are those of operands and objects, and operands without an order change nothing that an earlier one reads.
use Rattle.std.specs.Prelude.{◌≡◌, ℕ, ◌⊎◌, ◌||◌, pos, true, false, Option, Some, None}
use Rattle.c_token.specs.declared.ctype.CType.{CType}
use Rattle.c_value.specs.Values.{number_of}
use Rattle.c_value.specs.Operators.{unary_kind, binary_kind}
use Rattle.c_tree.specs.declared.operator.Binary.{Binary}
use Rattle.pieces.specs.declared.resolved.expression.Cell.{Cell}
use Rattle.pieces.specs.Resolved.Core as core
use Rattle.pieces.specs.Resolved.Core.{CoreTree, CoreTargetTree, CoreTrees, ArgumentTree, ArgumentTrees}
use Rattle.c_meaning.specs.CoreRuns.Kinds as kinds
use Rattle.c_meaning.specs.CoreRuns.Kinds.{kind_of}
use Rattle.piece_making.specs.Acting.{acts, either, effects}
use Rattle.piece_making.specs.Saving.{is_logical}
use Rattle.expand_runs.specs.Reading.{IsNumber}

abbrev mutual
  -- the value of the expression comes of what this object holds
  pub Reads : Cell → CoreTree → Type 0
  Reads x (core.number value k) = ⊥
  Reads x (core.scalar cell k at) = x ≡ cell
  Reads x (core.element array subscripts k at) = AnyReads x subscripts
  Reads x (core.call callee args k at) = ⊥
  Reads x (core.unary op arg k at) = Reads x arg
  Reads x (core.binary op left right k at) = Reads x left ⊎ Reads x right
  Reads x (core.choice test left right k at colon) = Reads x test ⊎ (Reads x left ⊎ Reads x right)
  Reads x (core.cast to arg) = Reads x arg
  Reads x (core.assign t op v at) = ⊥
  Reads x (core.bump t up post at) = ⊥
  Reads x (core.comma left right) = Reads x right

  pub AnyReads : Cell → CoreTrees → Type 0
  AnyReads x core.none = ⊥
  AnyReads x (core.more first rest) = Reads x first ⊎ AnyReads x rest

abbrev mutual
  -- an assignment, `++` or `--` to this scalar stands in the expression
  pub Changes : Cell → CoreTree → Type 0
  Changes x (core.number value k) = ⊥
  Changes x (core.scalar cell k at) = ⊥
  Changes x (core.element array subscripts k at) = AnyChanges x subscripts
  Changes x (core.call callee args k at) = ArgumentsChange x args
  Changes x (core.unary op arg k at) = Changes x arg
  Changes x (core.binary op left right k at) = Changes x left ⊎ Changes x right
  Changes x (core.choice test left right k at colon) = Changes x test ⊎ (Changes x left ⊎ Changes x right)
  Changes x (core.cast to arg) = Changes x arg
  Changes x (core.assign t op v at) = TargetChanges x t ⊎ Changes x v
  Changes x (core.bump t up post at) = TargetChanges x t
  Changes x (core.comma left right) = Changes x left ⊎ Changes x right

  pub TargetChanges : Cell → CoreTargetTree → Type 0
  TargetChanges x (core.target cell core.none k at) = x ≡ cell
  TargetChanges x (core.target cell (core.more first rest) k at) = Changes x first ⊎ AnyChanges x rest

  pub AnyChanges : Cell → CoreTrees → Type 0
  AnyChanges x core.none = ⊥
  AnyChanges x (core.more first rest) = Changes x first ⊎ AnyChanges x rest

  pub ArgumentChanges : Cell → ArgumentTree → Type 0
  ArgumentChanges x (core.given v) = Changes x v
  ArgumentChanges x (core.array cell) = ⊥

  pub ArgumentsChange : Cell → ArgumentTrees → Type 0
  ArgumentsChange x core.no_argument = ⊥
  ArgumentsChange x (core.more_arguments first rest) = ArgumentChanges x first ⊎ ArgumentsChange x rest

abbrev pub ArgumentReads : Cell → ArgumentTree → Type 0
ArgumentReads x (core.given v) = Reads x v
ArgumentReads x (core.array cell) = ⊥

-- which objects are scalars of a type, which of these may be changed, which are arrays of a type, and which calls take these arguments and give a value of this type
pub record Objects : Type 1 where
  pub Scalar : Cell → CType → Type 0
  pub Variable : Cell → CType → Type 0
  pub Array : Cell → CType → Type 0
  pub Takes : ℕ → ArgumentTrees → Option CType → Type 0

abbrev pub IsTarget : Objects → Cell → CoreTrees → CType → Type 0
IsTarget o cell core.none k = o.Variable cell k
IsTarget o cell (core.more first rest) k = o.Array cell k

-- no assignment has `&&` or `||`
abbrev pub IsPlain : Option Binary → Type 0
IsPlain None = Unit {0}
IsPlain (Some op) = is_logical op ≡ false

abbrev mutual
  pub IsSound : Objects → CoreTree → Type 0
  IsSound o (core.number value k) = (number_of k value ≡ pos value) × IsNumber k (number_of k value)
  IsSound o (core.scalar cell k at) = o.Scalar cell k
  IsSound o (core.element array subscripts k at) = o.Array array k × AreSound o subscripts
  IsSound o (core.call callee args k at) = o.Takes callee args k × ArgumentsSound o args
  IsSound o (core.unary op arg k at) = (unary_kind op (kind_of arg) ≡ k) × IsSound o arg
  IsSound o (core.binary op left right k at) = (binary_kind op (kind_of left) (kind_of right) ≡ k) × IsSound o left × IsSound o right × (is_logical op ≡ false → (x : Cell) → Reads x left → Changes x right → ⊥)
  IsSound o (core.choice test left right k at colon) = IsSound o test × IsSound o left × IsSound o right
  IsSound o (core.cast to arg) = IsSound o arg
  IsSound o (core.assign (core.target cell subscripts k place) op v at) =
      IsTarget o cell subscripts k × AreSound o subscripts × IsSound o v × ((x : Cell) → AnyReads x subscripts → Changes x v → ⊥) × IsPlain op
  IsSound o (core.bump (core.target cell subscripts k place) up post at) = IsTarget o cell subscripts k × AreSound o subscripts
  IsSound o (core.comma left right) = IsSound o left × IsSound o right

  pub AreSound : Objects → CoreTrees → Type 0
  AreSound o core.none = Unit {0}
  AreSound o (core.more first rest) = IsSound o first × AreSound o rest × ((x : Cell) → Reads x first → AnyChanges x rest → ⊥)

  pub ArgumentSound : Objects → ArgumentTree → Type 0
  ArgumentSound o (core.given v) = IsSound o v
  ArgumentSound o (core.array cell) = Unit {0}

  pub ArgumentsSound : Objects → ArgumentTrees → Type 0
  ArgumentsSound o core.no_argument = Unit {0}
  ArgumentsSound o (core.more_arguments first rest) = ArgumentSound o first × ArgumentsSound o rest × ((x : Cell) → ArgumentReads x first → ArgumentsChange x rest → ⊥)
