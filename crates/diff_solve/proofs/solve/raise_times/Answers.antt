use Rattle.std.proofs.Common.{◌≡◌, ℕ, ◌<◌, length, slice_index, inl, inr, pos, ◌+ℤ◌, refl, Option, Some, None, MatchOption, arith}
use Rattle.std.proofs.lemmas.List.{get_or-set_same}
use Rattle.std.proofs.lemmas.Int.{ints}
use Rattle.diff_solve.specs.Cycles.{nothing, from_of, to_of, weight_of}
use Rattle.diff_solve.proofs.Writes.{IsTree-set, IsRunning-set, HoldsAcross-set, HoldsAcross-more, All-from_across, set-rises}
use Rattle.diff_solve.proofs.solve.raise_times.Goals.{in-Some+else-constraint-eq0+else-time-limit, in_default}
use Rattle.diff_solve.proofs.solve.raise_times.Goals as goal

pub returns-then-constraint-eq0 : goal.returns-then-constraint-eq0
returns-then-constraint-eq0 c =
    let cs = c.args.constraints.now in
    let p = c.loop-position.position in
    let v = to_of cs p in
    let p_in = c.loop-position-test.true in
    let range = c.requires.in_range p nothing p_in in
    let above = c.in-Some.ensures.above in
    let in_times : v < length c.loop-position.times = omega (arith, range.1) in
    let modest = c.requires.modest p nothing p_in in
    let reached : pos c.in-Some.time ≡ pos (slice_index c.loop-position.times (from_of cs p)) +ℤ weight_of cs p = omega (arith, ints, above.1, modest) in
    let now = get_or-set_same c.loop-position.times v c.in-Some.time 0 in_times in (
      IsTree-set cs c.loop-position.times c.loop-position.entered v p c.in-Some.time c.loop-position.invariant.running.tree in_times p_in refl above.0 reached,
      range.1,
      elim c.then-constraint-eq0.either [
        | inl e ↦ inl (e, omega (arith, now, above.0))
        | inr e ↦ inr (omega (arith, now, e))
      ],
    )

pub loop-position-preserved : goal.loop-position-preserved
loop-position-preserved c =
    let cs = c.args.constraints.now in
    let p = c.loop-position.position in
    let v = to_of cs p in
    let times = c.loop-position.times in
    let inv = c.loop-position.invariant in
    let range = c.requires.in_range p nothing c.loop-position-test.true in
    let modest = c.requires.modest p nothing c.loop-position-test.true in
    let in_times : v < length times = omega (arith, range.1) in
    elim c.match-higher_time.branch [
      | in-Some+else-constraint-eq0+else-time-limit w ↦
          let time = w.in-Some.time in
          let above = w.in-Some.ensures.above in
          let reached : pos time ≡ pos (slice_index times (from_of cs p)) +ℤ weight_of cs p = omega (arith, ints, above.1, modest) in
          let now = get_or-set_same times v time 0 in_times in
          simp (w.times-is, w.entered-is, w.last-is) (record {
            running = IsRunning-set cs times c.loop-position.entered v p time inv.running.tree in_times c.loop-position-test.true refl above.0 reached (length c.args.times.now) c.args.limit inv.running range.0 w.if-constraint-eq0.false w.if-time-limit.false;
            across = HoldsAcross-set cs times c.loop-position.entered v p time inv.running.tree in_times c.loop-position-test.true refl above.0 reached c.args.times.now inv.rises inv.across;
            rises = λ x. omega (arith, inv.rises x, set-rises times v time in_times (omega (arith, above.0)) x);
            raised = omega (arith, inv.rises v, now, above.0);
          })
      | in_default w ↦
          simp (w.times-is, w.entered-is, w.last-is) (record {
            running = inv.running;
            across = HoldsAcross-more cs p c.args.times.now times inv.rises inv.across (omega (arith, ints, w.in_default.ensures.met, modest));
            rises = inv.rises;
            raised = inv.raised;
          })
    ]

unraised : (P : Type 0) (Q : ℕ → Type 0) (last : Option ℕ) → last ≡ None → MatchOption last P Q → P
unraised P Q None e h = h
unraised P Q (Some v) e h = cc

pub returns-in-None : goal.returns-in-None
returns-in-None c =
    let cs = c.args.constraints.now in
    (c.loop-position.invariant.running, All-from_across cs c.args.times.now c.loop-position.times (unraised (c.loop-position.times ≡ c.args.times.now) (λ v. slice_index c.args.times.now v < slice_index c.loop-position.times v) c.loop-position.last c.in-None.is c.loop-position.invariant.raised) (λ q q_in. c.loop-position.invariant.across q (omega arith)))
