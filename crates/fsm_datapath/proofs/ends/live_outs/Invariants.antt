use Rattle.std.proofs.Common.{◌≡◌, take}
use Rattle.std.specs.Prelude.{filter}
use Rattle.ir_core.specs.declared.body.Out.{Out}
use Rattle.reg_binding.specs.Sets.{has}
use Rattle.fsm_datapath.proofs.ends.live_outs.Given as goal

abbrev pub invariant-loop-out : goal.invariant-loop-out
invariant-loop-out l = l.live.items ≡ filter (λ (x : Out). has l.behind x.variable.0) (take l.out-index l.outs)
