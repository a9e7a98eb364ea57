use Rattle.std.proofs.Common.{◌-◌, length, arith}
use Rattle.std.proofs.lemmas.Grind.{common_steps}
use Rattle.rtl_logic.specs.Making.{circuit}
use Rattle.rtl_logic.proofs.Trees.{bits_step, bits_odd, bits_even}
use Rattle.rtl_logic.proofs.logic.Logic.pairs_or.Goals as goal
use Rattle.rtl_logic.proofs.logic.Logic.pairs_or.Goals.{then-level-eq1+in_ok-push-2, else-level-eq1}

pub loop-k-preserved : goal.loop-k-preserved
loop-k-preserved c = record {
  stand = λ sound fits.
      bits_step (circuit c.args.self.now) (circuit c.loop-k.self) (circuit c.or.new.self) c.args.level.now c.loop-k.above.items c.push.new.self.items c.loop-k.k c.in_ok-or.field-0 (omega arith) c.in_ok-push.ensures.items
      fits (c.loop-k.invariant.stand sound fits) c.in_ok-or.ensures;
  count = grind (arith, common_steps);
}

pub returns-clause-same : goal.returns-clause-same
returns-clause-same c = λ sound fits. elim c.if-level-eq1.branch [
  | then-level-eq1+in_ok-push-2 w ↦
      bits_odd (circuit c.args.self.now) (circuit c.loop-k.self) c.args.level.now c.loop-k.above.items c.if-level-eq1.above.items c.loop-k.k (length c.args.level.now - 1) (omega arith) (omega arith) (cc (w.in_ok-push-2.ensures.items)) fits
      (c.loop-k.invariant.stand sound fits)
  | else-level-eq1 w ↦
      bits_even (circuit c.args.self.now) (circuit c.loop-k.self) c.args.level.now c.loop-k.above.items c.if-level-eq1.above.items c.loop-k.k (omega arith) (cc) (c.loop-k.invariant.stand sound fits)
]
