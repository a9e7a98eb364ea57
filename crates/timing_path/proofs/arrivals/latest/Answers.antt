use Rattle.std.proofs.Common.{List, ℕ, ◌+◌, take, get_or, refl, sym, subst, arith}
use Rattle.std.proofs.lemmas.List.{take_all}
use Rattle.timing_path.specs.Arrivals.{IsLatest}
use Rattle.timing_path.proofs.Arriving.{none_latest, latest_kept, latest_risen}
use Rattle.timing_path.proofs.arrivals.latest.Goals as goal
use Rattle.timing_path.proofs.arrivals.latest.Goals.{then-latest-time, else-latest-time}

pub loop-time-init : goal.loop-time-init
loop-time-init c = none_latest c.args.times.now

pub loop-time-preserved : goal.loop-time-preserved
loop-time-preserved c =
    let times = c.args.times.now in
    elim c.if-latest-time.branch [
      | then-latest-time w ↦
          latest_risen times c.loop-time.time-index c.loop-time.latest c.if-latest-time.latest c.loop-time-test.true w.latest-is (omega (arith, w.latest-is, w.if-latest-time.true))
          c.loop-time.invariant
      | else-latest-time w ↦
          let P : ℕ → Type 0 = λ last. IsLatest (take (c.loop-time.time-index + 1) times) last in
          subst P (sym w.latest-is)
          (latest_kept times c.loop-time.time-index c.loop-time.latest (get_or times c.loop-time.time-index 0) c.loop-time-test.true refl w.if-latest-time.false c.loop-time.invariant)
    ]

pub returns : goal.returns
returns c = let P : List ℕ → Type 0 = λ ts. IsLatest ts c.loop-time.latest in subst P (take_all c.loop-time.time-index c.args.times.now c.loop-time-test.false) c.loop-time.invariant
