-- What the evaluation of an expression does besides giving a value.
use Rattle.std.specs.Prelude.{Bool, true, false, ◌||◌}
use Rattle.pieces.specs.Resolved.Core as core
use Rattle.pieces.specs.Resolved.Core.{CoreTree, CoreTrees, CoreTargetTree, ArgumentTree, ArgumentTrees}
use Rattle.piece_making.specs.declared.effects.Effects.{Effects}

abbrev pub no_effects : Effects
no_effects = record { calls = false; changes = false; commas = false }

abbrev pub either : Effects → Effects → Effects
either a b = record { calls = a.calls || b.calls; changes = a.changes || b.changes; commas = a.commas || b.commas }

abbrev pub with_call : Effects → Effects
with_call e = record e { calls = true }

abbrev pub with_change : Effects → Effects
with_change e = record e { changes = true }

abbrev pub with_comma : Effects → Effects
with_comma e = record e { commas = true }

-- something needs pieces of its own
abbrev pub acts : Effects → Bool
acts e = e.calls || e.changes || e.commas

-- elements that are read before have to be saved
abbrev pub spoils : Effects → Bool
spoils e = e.calls || e.changes

abbrev mutual
  pub effects : CoreTree → Effects
  effects (core.number value kind) = no_effects
  effects (core.scalar cell kind at) = no_effects
  effects (core.element array subscripts kind at) = effects_of_all subscripts
  effects (core.call callee args kind at) = with_call (effects_of_arguments args)
  effects (core.unary op arg kind at) = effects arg
  effects (core.binary op left right kind at) = either (effects left) (effects right)
  effects (core.choice test left right kind at colon) = either (either (effects test) (effects left)) (effects right)
  effects (core.cast to arg) = effects arg
  effects (core.assign t op value at) = with_change (either (effects_of_target t) (effects value))
  effects (core.bump t up post at) = with_change (effects_of_target t)
  effects (core.comma left right) = with_comma (either (effects left) (effects right))

  pub effects_of_all : CoreTrees → Effects
  effects_of_all core.none = no_effects
  effects_of_all (core.more first rest) = either (effects first) (effects_of_all rest)

  pub effects_of_argument : ArgumentTree → Effects
  effects_of_argument (core.given value) = effects value
  effects_of_argument (core.array cell) = no_effects

  pub effects_of_arguments : ArgumentTrees → Effects
  effects_of_arguments core.no_argument = no_effects
  effects_of_arguments (core.more_arguments first rest) = either (effects_of_argument first) (effects_of_arguments rest)

  pub effects_of_target : CoreTargetTree → Effects
  effects_of_target (core.target cell subscripts kind at) = effects_of_all subscripts
