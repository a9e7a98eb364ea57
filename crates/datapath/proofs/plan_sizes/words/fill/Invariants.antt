use Rattle.std.proofs.Common.{◌≡◌, drop}
use Rattle.flat_programs.specs.Memory.Filling.{filled}
use Rattle.datapath.proofs.plan_sizes.words.fill.Given as goal

abbrev pub invariant-loop-index : goal.invariant-loop-index
invariant-loop-index l = filled (drop l.index l.places) (drop l.index l.elements) l.words ≡ filled l.places l.elements l.initial.words
