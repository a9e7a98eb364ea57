use Rattle.std.proofs.Common.{◌≡◌, None, drop}
use Rattle.reg_binding.specs.Lives.{maker_from}
use Rattle.reg_binding.proofs.loop_reads.maker.Given as goal

abbrev pub invariant-loop-out : goal.invariant-loop-out
invariant-loop-out l = maker_from l.known (drop l.out-index l.outs) l.variable.0 ≡ maker_from None l.outs l.variable.0
