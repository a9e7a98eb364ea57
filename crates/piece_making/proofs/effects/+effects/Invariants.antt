use Rattle.std.proofs.Common.{◌≡◌, map, drop}
use Rattle.pieces.specs.Resolved.Core.{row, argument_row}
use Rattle.pieces.specs.Resolved.CoreView.{core_of, core_argument_of}
use Rattle.piece_making.specs.Acting.{either, effects_of_all, effects_of_arguments}
use Rattle.piece_making.proofs.effects.+effects.Given as goal

abbrev pub invariant-effects_of_all-loop-e : goal.invariant-effects_of_all-loop-e
invariant-effects_of_all-loop-e l = either l.all (effects_of_all (row (map core_of (drop l.e-index l.es)))) ≡ effects_of_all (row (map core_of l.es))

abbrev pub invariant-effects_of_arguments-loop-arg : goal.invariant-effects_of_arguments-loop-arg
invariant-effects_of_arguments-loop-arg l =
    either l.all (effects_of_arguments (argument_row (map core_argument_of (drop l.arg-index l.args)))) ≡ effects_of_arguments (argument_row (map core_argument_of l.args))
