use Rattle.std.proofs.Common.{arith}
use Rattle.std.proofs.lemmas.Option.{slice_get_within}
use Rattle.clock_machine.specs.Lines.Reads.{IsCovered}
use Rattle.clock_machine.proofs.LinesLemmas.Covering.{each_from, one_more, covered_further}
use Rattle.clock_machine.proofs.lines.depths.deeper_all.Goals as goal

pub loop-read-preserved : goal.loop-read-preserved
loop-read-preserved c =
    let inv = c.loop-read.invariant in (
      omega (arith, inv.0, c.deeper-depth.ensures.grows),
      one_more (IsCovered c.deeper-depth.result) c.args.reads.now c.loop-read.read-index _ (λ k x is lt. covered_further c.loop-read.depth c.deeper-depth.result x c.deeper-depth.ensures.grows (inv.1 k x is lt)) c.deeper-depth.ensures.covers,
    )

pub returns-clause-covers : goal.returns-clause-covers
returns-clause-covers c = each_from (IsCovered c.loop-read.depth) c.args.reads.now (λ k x is. (let lt = slice_get_within c.args.reads.now k x is in c.loop-read.invariant.1 k x is (omega (arith, lt, c.loop-read-test.false))))
