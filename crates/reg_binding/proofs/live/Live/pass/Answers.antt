use Rattle.std.proofs.Common.{◌≡◌, ◌-◌, below_more, sym, subst, arith}
use Rattle.std.proofs.lemmas.Bool.{false≢true}
use Rattle.reg_binding.specs.Liveness.{IsClosedAt, flow_of, not_live}
use Rattle.reg_binding.proofs.FreeBits.{fewer_then}
use Rattle.reg_binding.proofs.LiveVariables.Fixpoint.{same_turned, same_twice, same_not_live, closed_same}
use Rattle.reg_binding.proofs.live.Live.pass.Goals.{then-branch, else-branch}
use Rattle.reg_binding.proofs.live.Live.pass.Goals as goal

pub loop-back-preserved : goal.loop-back-preserved
loop-back-preserved g c =
    let flow = flow_of c.args.cfg.now in
    let start = c.args.self.now in let before = c.loop-back.self in let now = c.update.new.self in
    let kept = c.loop-back.invariant in let done = c.in_ok-update.ensures in
    elim c.if-branch.branch [
      | then-branch w ↦
          rw (w.more-is) (record {
            holds = done.holds;
            same = λ e. absurd (false≢true (sym e));
            fewer = λ _. fewer_then c.loop-back.more (not_live start) (not_live before) (not_live now) (λ e. same_not_live before start (kept.same e)) kept.fewer (done.fewer w.if-branch.true);
            closed = λ e. absurd (false≢true (sym e));
          })
      | else-branch w ↦
          let same = done.same w.if-branch.false in
          rw (w.more-is) (record {
            holds = done.holds;
            same = λ e. same_twice now before start same (kept.same e);
            fewer = λ e. let less = kept.fewer e in let equal = same_not_live now before same in omega (arith, less, equal);
            closed = λ e. below_more (λ k. IsClosedAt flow start (c.len-count.result - 1 - k)) c.loop-back.back (kept.closed e)
                (closed_same flow start before _ (same_turned before start (kept.same e)) (done.closed w.if-branch.false));
          })
    ]

pub returns-clause-closed : goal.returns-clause-closed
returns-clause-closed g c = λ more i l.
    let count = c.len-count.result in
    let k = count - 1 - i in
    let whole = c.len-count.ensures in
    let back : count - 1 - k ≡ i = omega arith in
    let kept = c.loop-back.invariant in
    closed_same (flow_of c.args.cfg.now) _ _ i (kept.same more)
    (subst (λ j. IsClosedAt (flow_of c.args.cfg.now) c.args.self.now j) back (kept.closed more k (omega arith)))
