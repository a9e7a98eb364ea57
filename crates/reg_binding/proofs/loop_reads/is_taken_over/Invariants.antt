use Rattle.std.proofs.Common.{◌≡◌, drop}
use Rattle.reg_binding.specs.Lives.{is_taken_over}
use Rattle.reg_binding.proofs.loop_reads.is_taken_over.Given as goal

abbrev pub invariant-loop-out : goal.invariant-loop-out
invariant-loop-out l = is_taken_over (drop l.out-index l.outs) l.op ≡ is_taken_over l.outs l.op
