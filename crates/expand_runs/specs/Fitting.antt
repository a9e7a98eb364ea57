-- Which calls stand in an expression, and what is given for arguments.
use Rattle.std.specs.Prelude.{ℕ, List, [], ◌∷◌, Option}
use Rattle.c_token.specs.declared.ctype.CType.{CType}
use Rattle.pieces.specs.Resolved.Core as core
use Rattle.pieces.specs.Resolved.Core.{CoreTree, CoreTargetTree, CoreTrees, ArgumentTree, ArgumentTrees}
use Rattle.c_expand.specs.Expressions as e
use Rattle.c_expand.specs.Expressions.{Given}
use Rattle.expand_runs.specs.Sound.{Objects}

-- a number is given for each number, and an array for each array
abbrev pub HaveShape : ArgumentTrees → List Given → Type 0
HaveShape core.no_argument [] = Unit {0}
HaveShape core.no_argument (g ∷ given) = ⊥
HaveShape (core.more_arguments first rest) [] = ⊥
HaveShape (core.more_arguments (core.given v) rest) (e.value_given x ∷ given) = HaveShape rest given
HaveShape (core.more_arguments (core.given v) rest) (e.array_given a ∷ given) = ⊥
HaveShape (core.more_arguments (core.array cell) rest) (e.value_given x ∷ given) = ⊥
HaveShape (core.more_arguments (core.array cell) rest) (e.array_given a ∷ given) = HaveShape rest given

abbrev mutual
  -- each call is of this kind
  pub CallsFit : (ℕ → ArgumentTrees → Type 0) → CoreTree → Type 0
  CallsFit F (core.number value k) = Unit {0}
  CallsFit F (core.scalar cell k at) = Unit {0}
  CallsFit F (core.element array subscripts k at) = AllFit F subscripts
  CallsFit F (core.call callee args k at) = F callee args × ArgumentsFit F args
  CallsFit F (core.unary op arg k at) = CallsFit F arg
  CallsFit F (core.binary op left right k at) = CallsFit F left × CallsFit F right
  CallsFit F (core.choice test left right k at colon) = CallsFit F test × CallsFit F left × CallsFit F right
  CallsFit F (core.cast to arg) = CallsFit F arg
  CallsFit F (core.assign (core.target cell subscripts k place) op v at) = AllFit F subscripts × CallsFit F v
  CallsFit F (core.bump (core.target cell subscripts k place) up post at) = AllFit F subscripts
  CallsFit F (core.comma left right) = CallsFit F left × CallsFit F right

  pub AllFit : (ℕ → ArgumentTrees → Type 0) → CoreTrees → Type 0
  AllFit F core.none = Unit {0}
  AllFit F (core.more first rest) = CallsFit F first × AllFit F rest

  pub ArgumentFits : (ℕ → ArgumentTrees → Type 0) → ArgumentTree → Type 0
  ArgumentFits F (core.given v) = CallsFit F v
  ArgumentFits F (core.array cell) = Unit {0}

  pub ArgumentsFit : (ℕ → ArgumentTrees → Type 0) → ArgumentTrees → Type 0
  ArgumentsFit F core.no_argument = Unit {0}
  ArgumentsFit F (core.more_arguments first rest) = ArgumentFits F first × ArgumentsFit F rest

abbrev pub Taken : Objects → ℕ → ArgumentTrees → Type 0
Taken o callee args = (k : Option CType) × o.Takes callee args k

abbrev pub Anything : ℕ → ArgumentTrees → Type 0
Anything callee args = Unit {0}
