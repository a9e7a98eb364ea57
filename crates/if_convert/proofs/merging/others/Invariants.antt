use Rattle.std.proofs.Common.{◌≡◌, ◌++◌, drop, filter, not}
use Rattle.passes.specs.Conversion.Outs as outs
use Rattle.if_convert.specs.Entries.{outs_of}
use Rattle.if_convert.proofs.merging.others.Given as goal

abbrev pub invariant-loop-out : goal.invariant-loop-out
invariant-loop-out l = l.outs.items ++ filter (λ x. not (outs.is_set (outs_of l.yes) x.variable)) (drop l.out-index l.no) ≡ filter (λ x. not (outs.is_set (outs_of l.yes) x.variable)) l.no
