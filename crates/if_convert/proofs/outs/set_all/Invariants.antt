use Rattle.std.proofs.Common.{◌≡◌, drop}
use Rattle.passes.specs.Conversion.Outs as outs
use Rattle.if_convert.specs.Entries.{outs_of}
use Rattle.if_convert.proofs.outs.set_all.Given as goal

abbrev pub invariant-loop-out : goal.invariant-loop-out
invariant-loop-out l = outs.with_outs (outs_of l.sets) (drop l.out-index l.outs) ≡ outs.with_outs (outs_of l.initial.sets) l.outs
