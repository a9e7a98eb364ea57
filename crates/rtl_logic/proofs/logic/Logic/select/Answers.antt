use Rattle.std.proofs.Common.{◌≡◌, ◌∙◌, length, sym, ap, arith}
use Rattle.std.specs.Prelude.{slice_get}
use Rattle.rtl_logic.specs.Making.{circuit}
use Rattle.rtl_logic.proofs.Trees.{halved, one_at_most, one_left}
use Rattle.rtl_logic.proofs.Choices.{choices_round, choices_stay, choice_result}
use Rattle.rtl_logic.proofs.logic.Logic.select.Goals as goal
use Rattle.rtl_logic.proofs.logic.Logic.select.Goals.{then-len-gt1+in_ok-level-2, else-len-gt1}

pub loop-round-init : goal.loop-round-init
loop-round-init c = record {
  stand = λ n sound between fits. c.in_ok-level.ensures.same n sound fits;
  short = let s = c.in_ok-level.level.small in omega (arith, c.in_ok-level.level.small);
  most = c.in_ok-level.ensures.most;
  some = c.in_ok-level.ensures.some;
}

pub loop-round-preserved : goal.loop-round-preserved
loop-round-preserved c = record {
  stand = λ n sound between fits. elim c.if-len-gt1.branch [
    | then-len-gt1+in_ok-level-2 w ↦
        choices_round (circuit c.args.self.now) (circuit c.loop-round.self) (circuit c.if-len-gt1.self) (circuit w.pairs_picked.new.self) n c.args.choices.now c.loop-round.level.items w.deref.result.now
        w.in_ok-level-2.level.items c.if-len-gt1.level.items (ap circuit w.self-is) (cc) w.deref.ensures.value (c.loop-round.invariant.stand n sound between fits)
        (λ s h. w.in_ok-level-2.ensures.same n s between h)
    | else-len-gt1 w ↦
        choices_stay (circuit c.args.self.now) (circuit c.loop-round.self) (circuit c.if-len-gt1.self) n c.args.choices.now c.loop-round.level.items c.if-len-gt1.level.items (ap circuit w.self-is) (cc)
        (c.loop-round.invariant.stand n sound between fits)
  ];
  short = elim c.if-len-gt1.branch [
    | then-len-gt1+in_ok-level-2 w ↦
        let same : length c.if-len-gt1.level.items ≡ length w.in_ok-level-2.level.items = cc in
        halved c.loop-round._round (length c.if-len-gt1.level.items) (length w.deref.result.now) (omega arith) (omega (arith, c.loop-round.invariant.short, ap length w.deref.ensures.value))
        (same ∙ w.in_ok-level-2.ensures.half)
    | else-len-gt1 w ↦
        let same : length c.if-len-gt1.level.items ≡ length c.loop-round.level.items = cc in one_at_most c.loop-round._round (length c.if-len-gt1.level.items) (omega (arith, same, c.len.ensures, w.if-len-gt1.false))
  ];
  most = elim c.if-len-gt1.branch [
    | then-len-gt1+in_ok-level-2 w ↦
        let same : length c.if-len-gt1.level.items ≡ length w.in_ok-level-2.level.items = cc in
        omega (arith, same, w.in_ok-level-2.ensures.half, ap length w.deref.ensures.value, c.loop-round.invariant.most, c.len.ensures, w.if-len-gt1.true)
    | else-len-gt1 w ↦
        let same : length c.if-len-gt1.level.items ≡ length c.loop-round.level.items = cc in omega (arith, same, c.loop-round.invariant.most)
  ];
  some = elim c.if-len-gt1.branch [
    | then-len-gt1+in_ok-level-2 w ↦
        let same : length c.if-len-gt1.level.items ≡ length w.in_ok-level-2.level.items = cc in
        λ none. absurd (omega (arith, none, same, w.in_ok-level-2.ensures.half, ap length w.deref.ensures.value, c.len.ensures, w.if-len-gt1.true))
    | else-len-gt1 w ↦
        let same : length c.if-len-gt1.level.items ≡ length c.loop-round.level.items = cc in λ none. c.loop-round.invariant.some (sym same ∙ none)
  ];
}

pub returns : goal.returns
returns c = λ n sound between fits.
    choice_result (circuit c.args.self.now) (circuit c.loop-round.self) n c.args.choices.now c.loop-round.level.items c.copied.result
    (one_left c.loop-round._round (length c.loop-round.level.items) (omega arith) c.loop-round.invariant.short) c.loop-round.invariant.most c.loop-round.invariant.some
    (c.copied.ensures ∙ (c.first.ensures.value ∙ ap (λ l. slice_get l 0) c.deref-2.ensures.value)) (c.loop-round.invariant.stand n sound between fits)
