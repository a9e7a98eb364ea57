use Rattle.std.proofs.Common.{sym, ap, ◌∙◌, drop}
use Rattle.std.proofs.lemmas.List.{drop_all}
use Rattle.flat_programs.specs.Memory.Filling.{filled}
use Rattle.flat_programs.proofs.MemoryLemmas.Filled.{filled-none}
use Rattle.datapath.proofs.plan_sizes.words.fill.Goals as goal

pub returns : goal.returns
returns c =
    sym (filled-none (drop c.loop-index.index c.args.places.now) c.loop-index.words) ∙ sym (ap (λ xs. filled (drop c.loop-index.index c.args.places.now) xs c.loop-index.words) (drop_all c.loop-index.index c.args.elements.now c.loop-index-test.false))
    ∙ c.loop-index.invariant
