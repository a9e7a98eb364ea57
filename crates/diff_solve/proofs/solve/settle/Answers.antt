use Rattle.std.proofs.Common.{◌≡◌, refl, ◌*◌, inl, inr, length, arith}
use Rattle.diff_solve.proofs.Rounds.{Dominates-none, Dominates-more, IsRunning-start, ComesHome-from_zero, ComesHome-from_high, ComesHome-from_rise, within-from_some}
use Rattle.diff_solve.proofs.solve.settle.Goals.{then-passes-count-via-then-passes-count, then-passes-count-via-else-passes-count+then-is_in_a_loop}
use Rattle.diff_solve.proofs.solve.settle.Goals as goal

pub rounds-init : goal.rounds-init
rounds-init c = record {
  running = IsRunning-start (length c.args.times.now) c.args.constraints.now (length c.args.times.now * 1048576) c.args.times.now c.args.entered.now c.requires.no_times c.requires.none_entered;
  dominates = Dominates-none c.args.constraints.now c.args.times.now;
  passes_left = omega arith;
}

pub returns-in-TooHigh-clause-tangled : goal.returns-in-TooHigh-clause-tangled
returns-in-TooHigh-clause-tangled c =
    let cs = c.args.constraints.now in
    let n = length c.args.times.now in
    let left = c.in-TooHigh.ensures in
    let tree = left.0 in
    record {
      within = omega (arith, left.1);
      ends = tree.ends;
      loops = tree.loops;
      home = elim left.2 [
        | inl zero ↦ ComesHome-from_zero cs n c.raise_times.new.times c.raise_times.new.entered tree c.in-TooHigh.node zero.0 zero.1
        | inr high ↦ ComesHome-from_high cs n c.raise_times.new.times c.raise_times.new.entered tree c.in-TooHigh.node c.requires.modest high
      ];
    }

pub returns-then-passes-count-clause-tangled : goal.returns-then-passes-count-clause-tangled
returns-then-passes-count-clause-tangled c =
    let cs = c.args.constraints.now in
    let n = length c.args.times.now in
    let left = c.in-Raised.ensures in
    let tree = left.0.tree in
    let rose = left.2 in
    let count : length c.raise_times.new.entered ≡ n = omega arith in
    record {
      within = omega (arith, within-from_some c.raise_times.new.times c.in-Raised.node (omega (arith, rose)), left.0.count);
      ends = tree.ends;
      loops = tree.loops;
      home = elim c.then-passes-count.branch [
        | then-passes-count-via-then-passes-count w ↦ ComesHome-from_rise cs n c.raise_times.new.times c.raise_times.new.entered tree c.in-Raised.node c.rounds.times (λ v ps a back short. c.rounds.invariant.dominates v ps a back (omega (arith, w.if-passes-count.true))) rose
        | then-passes-count-via-else-passes-count+then-is_in_a_loop w ↦ λ ps r back all unraised short. w.if-is_in_a_loop.ensures refl ps r back all unraised (omega (arith, count, short))
      ];
    }

pub rounds-preserved : goal.rounds-preserved
rounds-preserved c = record {
  running = rw c.rounds.auto.times at c.in-Raised.ensures.0;
  dominates = Dominates-more c.args.constraints.now c.rounds.passes c.rounds.times c.raise_times.new.times c.rounds.invariant.dominates c.in-Raised.ensures.1;
  passes_left = omega arith;
}
