use Rattle.std.proofs.Common.{◌≡◌, ◌<◌, ◌+◌, ◌∙◌, length, ap, cond, false, arith}
use Rattle.std.proofs.lemmas.Grind.{common_steps}
use Rattle.rtl_logic.proofs.Keeping.{marked_before, count_more, count_most, each_more, are_places}
use Rattle.rtl_logic.proofs.prune.places_before.Goals as goal
use Rattle.rtl_logic.proofs.prune.places_before.Goals.{then-mark, else-mark}

pub loop-mark-preserved : goal.loop-mark-preserved
loop-mark-preserved c =
    let marks = c.args.marks.now in
    let i = c.loop-mark.mark-index in
    let h : i < length marks = omega arith in
    record {
      count = grind (arith, common_steps);
      next = elim c.if-mark.branch [
        | then-mark w ↦
            let more : marked_before marks (i + 1) ≡ marked_before marks i + 1 = count_more marks i false h ∙ ap (λ t. marked_before marks i + cond t 1 0) w.if-mark.true in
            let most = count_most marks i in
            omega (arith, w.next-is, w.saturating_add-next.ensures, more, most, c.loop-mark.invariant.next)
        | else-mark w ↦
            let more : marked_before marks (i + 1) ≡ marked_before marks i + 0 = count_more marks i false h ∙ ap (λ t. marked_before marks i + cond t 1 0) w.if-mark.false in
            omega (arith, w.next-is, more, c.loop-mark.invariant.next)
      ];
      each = each_more (marked_before marks) c.loop-mark.all.items c.push.new.self.items i c.loop-mark.next c.loop-mark.invariant.count c.in_ok-push.ensures.items c.loop-mark.invariant.next c.loop-mark.invariant.each;
    }

pub returns : goal.returns
returns c =
    let marks = c.args.marks.now in
    let whole : c.loop-mark.mark-index ≡ length marks = omega arith in
    are_places marks c.loop-mark.all.items (c.loop-mark.invariant.count ∙ whole) (λ k h. c.loop-mark.invariant.each k k (omega (arith, whole, h)))
