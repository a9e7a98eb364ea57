use Rattle.std.proofs.Common.{◌≡◌, map, drop}
use Rattle.passes.specs.Conversion.Merging as spec
use Rattle.if_convert.specs.Blocks.{choice_of, open_of}
use Rattle.if_convert.proofs.merging.Open.select_all.Given as goal

abbrev pub invariant-loop-choice : goal.invariant-loop-choice
invariant-loop-choice l = spec.with_selections l.scope.variables.now l.test (open_of l.self) (map choice_of (drop l.choice-index l.choices)) ≡ spec.with_selections l.scope.variables.now l.test (open_of l.initial.self) (map choice_of l.choices)
