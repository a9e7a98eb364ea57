use Rattle.std.proofs.Common.{◌≡◌, ◌∙◌, length, ap, arith}
use Rattle.std.specs.Prelude.{slice_get}
use Rattle.std.specs.Option.{unwrap_or}
use Rattle.rtl_logic.specs.Making.{circuit}
use Rattle.rtl_logic.proofs.Trees.{halved, one_at_most, one_left, bits_round, bits_stay, bits_result}
use Rattle.rtl_logic.proofs.logic.Logic.any.Goals as goal
use Rattle.rtl_logic.proofs.logic.Logic.any.Goals.{then-len-gt1+in_ok-level-2, else-len-gt1}

pub loop-round-preserved : goal.loop-round-preserved
loop-round-preserved c = record {
  stand = λ sound fits. elim c.if-len-gt1.branch [
    | then-len-gt1+in_ok-level-2 w ↦
        bits_round (circuit c.args.self.now) (circuit c.loop-round.self) (circuit c.if-len-gt1.self) (circuit w.pairs_or.new.self) c.args.bits.now c.loop-round.level.items w.deref.result.now w.in_ok-level-2.level.items
        c.if-len-gt1.level.items (ap circuit w.self-is) (cc) w.deref.ensures.value (c.loop-round.invariant.stand sound fits) w.in_ok-level-2.ensures.same
    | else-len-gt1 w ↦
        bits_stay (circuit c.args.self.now) (circuit c.loop-round.self) (circuit c.if-len-gt1.self) c.args.bits.now c.loop-round.level.items c.if-len-gt1.level.items (ap circuit w.self-is) (cc)
        (c.loop-round.invariant.stand sound fits)
  ];
  short = elim c.if-len-gt1.branch [
    | then-len-gt1+in_ok-level-2 w ↦
        let same : length c.if-len-gt1.level.items ≡ length w.in_ok-level-2.level.items = cc in
        halved c.loop-round._round (length c.if-len-gt1.level.items) (length w.deref.result.now) (omega arith) (omega (arith, c.loop-round.invariant.short, ap length w.deref.ensures.value))
        (same ∙ w.in_ok-level-2.ensures.half)
    | else-len-gt1 w ↦
        let same : length c.if-len-gt1.level.items ≡ length c.loop-round.level.items = cc in one_at_most c.loop-round._round (length c.if-len-gt1.level.items) (omega (arith, same, c.len.ensures, w.if-len-gt1.false))
  ];
}

pub returns : goal.returns
returns c = λ sound fits.
    let got : c.unwrap_or.result ≡ unwrap_or (slice_get c.loop-round.level.items 0) c.bit.result =
    c.unwrap_or.ensures ∙ ap (λ o. unwrap_or o c.bit.result) (c.copied.ensures ∙ (c.first.ensures.value ∙ ap (λ l. slice_get l 0) c.deref-2.ensures.value)) in
    bits_result (circuit c.args.self.now) (circuit c.loop-round.self) c.args.bits.now c.loop-round.level.items c.bit.result c.unwrap_or.result
    (one_left c.loop-round._round (length c.loop-round.level.items) (omega arith) c.loop-round.invariant.short) c.bit.ensures got (c.loop-round.invariant.stand sound fits)
