use Rattle.std.proofs.Common.{◌∙◌}
use Rattle.c_machine.proofs.StateLemmas.Zeros.{zeros-next}
use Rattle.c_machine.proofs.state.store.write_zeros.Goals as goal

pub loop-k-preserved : goal.loop-k-preserved
loop-k-preserved c = λ left. zeros-next c.args.count c.loop-k.k c.args.object c.args.element left c.loop-k.objects.items c.write.new.objects.items c.loop-k-test.true c.write.ensures ∙ c.loop-k.invariant left
