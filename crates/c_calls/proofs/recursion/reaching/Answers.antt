use Rattle.std.proofs.Common.{◌≡◌, ◌∙◌, length, subst, arith}
use Rattle.c_calls.specs.Linked.{AreBelow, Marks}
use Rattle.c_calls.proofs.Rounds.{Reached, Reached-more, Reached-all, empty_if}
use Rattle.c_calls.proofs.recursion.reaching.Goals as goal
use Rattle.c_calls.proofs.recursion.reaching.Goals.{then-loop-round-test+else-not-is_empty, else-loop-round-test}

pub loop-round-preserved : goal.loop-round-preserved
loop-round-preserved c =
    let inv = c.loop-round.invariant in
    let wave = c.loop-round.wave in
    let next = c.in_ok-wave.wave in
    let size = length c.args.rows.now in
    let s = c.in_ok-wave.ensures in
    record {
      bound = omega arith;
      long = s.long ∙ inv.long;
      below = subst (λ k. AreBelow k next.front.items) inv.long (s.below (λ k d lt. absurd (omega arith)));
      reached = λ links within has.
          Reached-more links c.args.rows.now size c.loop-round.round c.args.target wave.marks.items next.marks.items wave.front.items next.front.items within has (inv.reached links within has) s;
    }

pub returns : goal.returns
returns c = λ links within has.
    let size = length c.args.rows.now in
    let round = c.loop-round.round in
    let marks = c.loop-round.wave.marks.items in
    let inv = c.loop-round.invariant in
    let reached : Reached links size round c.args.target marks c.loop-round.wave.front.items = inv.reached links within has in
    elim c.loop-round-test.branch [
      | then-loop-round-test+else-not-is_empty w ↦
          let none : length c.loop-round.wave.front.items ≡ 0 = grind (arith, w.is_empty.ensures, w.if-not-is_empty.false, c.loop-round.wave.front.ok) in
          Reached-all links size round c.args.rounds c.args.target marks within inv.bound (subst (λ fs. Reached links size round c.args.target marks fs) (empty_if c.loop-round.wave.front.items none) reached)
      | else-loop-round-test w ↦
          let last : round ≡ c.args.rounds = let le = inv.bound in omega arith in
          subst (λ n. Marks links size n c.args.target marks) last reached.marked
    ]
