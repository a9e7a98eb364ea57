use Rattle.std.proofs.Common.{◌-◌, length, arith}
use Rattle.std.proofs.lemmas.Grind.{common_steps}
use Rattle.rtl_logic.specs.Making.{circuit}
use Rattle.rtl_logic.proofs.Choices.{choices_step, choices_odd, choices_even}
use Rattle.rtl_logic.proofs.logic.Logic.pairs_picked.Goals as goal
use Rattle.rtl_logic.proofs.logic.Logic.pairs_picked.Goals.{then-level-eq1+in_ok-push-2, else-level-eq1}

pub loop-k-preserved : goal.loop-k-preserved
loop-k-preserved c = record {
  stand = λ n sound between fits.
      choices_step (circuit c.args.self.now) (circuit c.loop-k.self) (circuit c.picked.new.self) n c.args.level.now c.loop-k.above.items c.push.new.self.items c.loop-k.k c.in_ok-picked.field-0 (omega arith) c.in_ok-push.ensures.items
      fits (c.loop-k.invariant.stand n sound between fits) (λ s h. c.in_ok-picked.ensures n s between h);
  count = grind (arith, common_steps);
}

pub returns-clause-same : goal.returns-clause-same
returns-clause-same c = λ n sound between fits. elim c.if-level-eq1.branch [
  | then-level-eq1+in_ok-push-2 w ↦
      choices_odd (circuit c.args.self.now) (circuit c.loop-k.self) n c.args.level.now c.loop-k.above.items c.if-level-eq1.above.items c.loop-k.k (length c.args.level.now - 1) (omega arith) (omega arith) (cc (w.in_ok-push-2.ensures.items)) fits
      (c.loop-k.invariant.stand n sound between fits)
  | else-level-eq1 w ↦
      choices_even (circuit c.args.self.now) (circuit c.loop-k.self) n c.args.level.now c.loop-k.above.items c.if-level-eq1.above.items c.loop-k.k (omega arith) (cc) (c.loop-k.invariant.stand n sound between fits)
]
