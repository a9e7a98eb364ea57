-- What an expression becomes: the pieces that have to come before it, and the value that is left.
use Rattle.std.specs.Prelude.{ℕ, Bool, true, false, ◌&&◌, List, [], ◌∷◌, ◌++◌, Option, Some, None, if◌then◌else◌}
use Rattle.hls_base.specs.declared.place.Place.{Place}
use Rattle.hls_base.specs.declared.point.PointKind.TheVariants as point
use Rattle.hls_base.specs.declared.number.VarId.{VarId}
use Rattle.hls_base.specs.declared.number.ArrayId.{ArrayId}
use Rattle.c_token.specs.declared.ctype.CType.{CType}
use Rattle.c_token.specs.declared.ctype.CType.TheVariants as type
use Rattle.c_tree.specs.declared.operator.Binary.{Binary}
use Rattle.c_tree.specs.declared.operator.Binary.TheVariants as b
use Rattle.c_value.specs.Values.{int_type}
use Rattle.pieces.specs.Resolved.Core as core
use Rattle.pieces.specs.Resolved.Core.{CoreTree, CoreTargetTree, CoreTrees, ArgumentTree, ArgumentTrees}
use Rattle.pieces.specs.Trees as tree
use Rattle.pieces.specs.Trees.{PureTree, PureTrees, row, PieceTree, piece_row}
use Rattle.pieces.specs.Kind.{kind}
use Rattle.piece_making.specs.declared.effects.Effects.{Effects}
use Rattle.piece_making.specs.Making.{State, Part, Inner, gives, then_, emit, inside, fresh, set_own}
use Rattle.piece_making.specs.Calls.{Call, scalar, array, point_in}
use Rattle.piece_making.specs.Acting.{no_effects, either, acts, effects, effects_of_all, effects_of_arguments}
use Rattle.piece_making.specs.Saving.{save, is_logical}
use Rattle.piece_making.specs.Assigning.{Change, change, step, assigned, bumped}

-- what is given for a parameter
pub data Given : Type 0 where
  value_given : (given : PureTree) → Given
  array_given : (name : ArrayId) → Given

-- What a call of the function with this number, with these arguments, becomes at this place of a call: its value is the variable of the result, if there is one.
abbrev pub Callee : Type 0
Callee = ℕ → List Given → Call → Place → State → Part (Option PureTree)

abbrev pub is_call : CoreTree → Bool
is_call (core.call callee args k at) = true
is_call _ = false

-- an expression that is a call, a comma or a change: its value is let go where it is not used
abbrev pub may_be_unused : CoreTree → Bool
may_be_unused (core.number value k) = false
may_be_unused (core.scalar cell k at) = false
may_be_unused (core.element name subscripts k at) = false
may_be_unused (core.call callee args k at) = true
may_be_unused (core.unary op arg k at) = false
may_be_unused (core.binary op left right k at) = false
may_be_unused (core.choice test left right k at colon) = false
may_be_unused (core.cast to arg) = false
may_be_unused (core.assign t op value at) = true
may_be_unused (core.bump t up post at) = true
may_be_unused (core.comma left right) = true

-- any other value that is not used is set into a variable of its own
abbrev pub set_unused : PureTree → State → Part (Unit {0})
set_unused x s = then_ (set_own (kind x) x s) (λ own s1. gives tt s1)

abbrev pub discarded : Bool → PureTree → State → Part (Unit {0})
discarded is_let_go x s = if is_let_go then gives tt s else set_unused x s

-- The left operand of a comma, whose value is x, where the right one has these effects. A call's value is let go. What any other operand reads is saved, and then the operand is let go or set.
abbrev pub comma_left : ℕ → CoreTree → PureTree → Effects → State → Part (Unit {0})
comma_left n left x later s = if is_call left then gives tt s else then_ (save n x later s) (λ y s1. discarded (may_be_unused left) y s1)

-- the value of a call that has one
abbrev pub value_or_zero : Option PureTree → PureTree
value_or_zero (Some value) = value
value_or_zero None = tree.number 0 int_type

-- ---- forks

-- an arm, which sets the variable of the operator
abbrev pub arm : Call → Place → (State → Part PureTree) → (PureTree → PureTree) → VarId → State → Part (Inner (Unit {0}))
arm c at operand converted own s =
    inside (λ s0. then_ (emit (tree.mark (point_in c point.Arm at)) s0) (λ u s1. then_ (operand s1) (λ value s2. emit (tree.set own (converted value)) s2))) s

-- the branch that sets the number 0 or 1
abbrev pub decided : Bool → VarId → State → Part (Inner (Unit {0}))
decided is_one own s = inside (λ s0. emit (tree.set own (tree.number (if is_one then 1 else 0) int_type)) s0) s

abbrev pub to_bool : PureTree → PureTree
to_bool value = tree.cast type.Bool value

abbrev pub same : PureTree → PureTree
same value = value

-- a fork of the operator, whose arms set this variable
abbrev pub fork_of : Call → Place → PureTree → List PieceTree → List PieceTree → VarId → CType → State → Part PureTree
fork_of c at test left right own k s =
    then_ (emit (tree.fork test (piece_row left) (piece_row right) (point_in c point.End at)) s) (λ u s1. gives (tree.variable own k) s1)

abbrev pub is_or : Binary → Bool
is_or b.LogOr = true
is_or _ = false

-- a `&&` or `||` whose right operand is evaluated in a branch
abbrev pub forked : Call → Binary → CType → Place → PureTree → (State → Part PureTree) → State → Part PureTree
forked c op k at test right s =
    then_ (fresh k s) (λ own s1.
    then_ (arm c at right to_bool own s1) (λ reached s2.
    then_ (decided (is_or op) own s2) (λ other s3.
    if is_or op then fork_of c at test other.pieces reached.pieces own k s3 else fork_of c at test reached.pieces other.pieces own k s3)))

-- an operator behind its first operand x
abbrev pub operated : Call → Binary → CType → Place → PureTree → Effects → (State → Part PureTree) → State → Part PureTree
operated c op k at x later right s =
    then_ (save c.file_variables x later s) (λ left s1.
    if (is_logical op && acts later) then forked c op k at left right s1 else then_ (right s1) (λ y s2. gives (tree.binary op left y k at) s2))

-- a `?:` behind its test
unfoldable pub chosen : Call → CType → Place → Place → PureTree → Effects → (State → Part PureTree) → (State → Part PureTree) → State → Part PureTree
chosen c k at colon test later left right s =
    if acts later
    then then_ (save c.file_variables test later s) (λ t s1.
    then_ (fresh k s1) (λ own s2.
    then_ (arm c at left same own s2) (λ first s3.
    then_ (arm c colon right same own s3) (λ second s4. fork_of c at t first.pieces second.pieces own k s4))))
    else then_ (left s) (λ x s1. then_ (right s1) (λ y s2. gives (tree.choice test x y k) s2))

-- ---- expressions

abbrev mutual
  pub expression : Callee → Call → CoreTree → State → Part PureTree
  expression f c (core.number value k) s = gives (tree.number value k) s
  expression f c (core.scalar cell k at) s = gives (scalar c cell k) s
  expression f c (core.element name subscripts k at) s =
      then_ (operands f c subscripts no_effects [] s) (λ given s1. gives (tree.element (array c name s1) (row given) k at) s1)
  expression f c (core.call callee args k at) s =
      then_ (then_ (arguments f c args [] s) (λ given s1. f callee given c at s1)) (λ v s2. gives (value_or_zero v) s2)
  expression f c (core.unary op arg k at) s = then_ (expression f c arg s) (λ x s1. gives (tree.unary op x k at) s1)
  expression f c (core.binary op left right k at) s =
      then_ (expression f c left s) (λ x s1. operated c op k at x (effects right) (expression f c right) s1)
  expression f c (core.choice test left right k at colon) s =
      then_ (expression f c test s) (λ t s1. chosen c k at colon t (either (effects left) (effects right)) (expression f c left) (expression f c right) s1)
  expression f c (core.cast to arg) s = then_ (expression f c arg s) (λ x s1. gives (tree.cast to x) s1)
  expression f c (core.assign left op value at) s =
      then_ (targeted f c left (effects value) op at s) (λ t s1. then_ (expression f c value s1) (λ by s2. assigned c t by s2))
  expression f c (core.bump left up post at) s = then_ (targeted f c left no_effects (step up) at s) (λ t s1. bumped c t post s1)
  expression f c (core.comma left right) s =
      then_ (expression f c left s) (λ x s1. then_ (comma_left c.file_variables left x (effects right) s1) (λ u s2. expression f c right s2))

  -- Operands from left to right, behind those that have their values. What each of them reads is saved where a later one has effects, or what comes behind them all.
  pub operands : Callee → Call → CoreTrees → Effects → List PureTree → State → Part (List PureTree)
  operands f c core.none later before s = gives before s
  operands f c (core.more first rest) later before s =
      then_ (expression f c first s) (λ x s1.
      then_ (save c.file_variables x (either (effects_of_all rest) later) s1) (λ y s2. operands f c rest later (before ++ y ∷ []) s2))

  -- a target that is changed, whose subscripts are evaluated
  pub targeted : Callee → Call → CoreTargetTree → Effects → Option Binary → Place → State → Part Change
  targeted f c (core.target cell subscripts k target_at) later op at s =
      then_ (operands f c subscripts later [] s) (λ given s1. gives (change cell k target_at (row given) op at) s1)

  pub argument : Callee → Call → ArgumentTree → Effects → State → Part Given
  argument f c (core.given e) later s =
      then_ (expression f c e s) (λ x s1. then_ (save c.file_variables x later s1) (λ y s2. gives (value_given y) s2))
  argument f c (core.array cell) later s = gives (array_given (array c cell s)) s

  -- arguments in the same way
  pub arguments : Callee → Call → ArgumentTrees → List Given → State → Part (List Given)
  arguments f c core.no_argument before s = gives before s
  arguments f c (core.more_arguments first rest) before s =
      then_ (argument f c first (effects_of_arguments rest) s) (λ g s1. arguments f c rest (before ++ g ∷ []) s1)

-- a call, behind its arguments
abbrev pub called : Callee → Call → ℕ → ArgumentTrees → Place → State → Part (Option PureTree)
called f c callee args at s = then_ (arguments f c args [] s) (λ given s1. f callee given c at s1)
