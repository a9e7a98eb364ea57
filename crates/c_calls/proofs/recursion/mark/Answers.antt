use Rattle.std.proofs.Common.{◌≡◌, ◌<◌, ◌==◌, false, true, take, length, get_or, ap, ◌∙◌, arith}
use Rattle.c_calls.specs.Linked.{is_among, Spreads}
use Rattle.c_calls.proofs.Rounds.{spreads_new, spreads_old, spreads_more, among_taken}
use Rattle.c_calls.proofs.recursion.mark.Goals as goal
use Rattle.c_calls.proofs.recursion.mark.Goals.{then-not-marks-number+in_ok-push, else-not-marks-number}

pub loop-number-preserved : goal.loop-number-preserved
loop-number-preserved c =
    let these = c.args.these.now in
    let i = c.loop-number.number-index in
    let x = get_or these i 0 in
    let before = c.loop-number.marks in
    let noted = c.loop-number.noted.items in
    let within : i < length these = c.loop-number-test.true in
    let below = c.requires i 0 within in
    let lt : x < length before = let long = c.loop-number.auto.marks in omega arith in
    let step : Spreads (λ f. x == f) before noted c.if-not-marks-number.marks c.if-not-marks-number.noted.items =
    elim c.if-not-marks-number.branch [
      | then-not-marks-number+in_ok-push w ↦ rw w.marks-is (rw (ap (λ v. v.items) w.noted-is ∙ w.in_ok-push.ensures.items) (spreads_new before noted x lt))
      | else-not-marks-number w ↦
          let on : get_or before x false ≡ true = grind (arith, w.if-not-marks-number.false) in
          rw w.marks-is (rw (ap (λ v. v.items) w.noted-is) (spreads_old before noted x on))
    ] in
    spreads_more (λ f. is_among f (take i these)) (λ f. x == f) _ _ before _ _ noted _ c.loop-number.invariant step (λ f. among_taken f i 0 these within)
