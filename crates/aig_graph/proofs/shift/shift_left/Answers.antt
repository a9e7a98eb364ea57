use Rattle.std.proofs.Common.{inl, refl, arith}
use Rattle.aig_graph.proofs.Steps.{shift_begins, shift_goes_on}
use Rattle.aig_graph.proofs.shift.shift_left.Goals as goal

pub loop-i-init : goal.loop-i-init
loop-i-init c = (shift_begins _ _ c.args.counts.now _ c.in_ok-word.ensures.items c.requires.sound c.requires.first, inl refl)

pub loop-i-preserved : goal.loop-i-preserved
loop-i-preserved c = (
  shift_goes_on _ _ _ _ _ _ _ _ c.loop-i.i _ c.loop-i.invariant.0 c.loop-i.invariant.1 c.requires.narrow (omega arith) c.as_slice.ensures.value c.in_ok-word-2.ensures,
  c.doubled-step.ensures c.loop-i.i c.loop-i.invariant.1,
)
