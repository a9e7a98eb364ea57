use Rattle.std.proofs.Common.{◌≡◌, ◌++◌, map, drop}
use Rattle.passes.specs.Conversion.Merging as spec
use Rattle.if_convert.specs.Entries.{outs_of}
use Rattle.if_convert.specs.Blocks.{choice_of}
use Rattle.if_convert.proofs.merging.add_choices.Given as goal

abbrev pub invariant-loop-out : goal.invariant-loop-out
invariant-loop-out l = map choice_of l.choices.items ++ spec.choices_for (outs_of l.outs) (outs_of l.yes) (outs_of l.no) (drop l.out-index l.set) ≡ map choice_of l.initial.choices.items ++ spec.choices_for (outs_of l.outs) (outs_of l.yes) (outs_of l.no) l.set
