use Rattle.std.proofs.Common.{arith}
use Rattle.std.proofs.lemmas.Option.{slice_get_within}
use Rattle.clock_machine.specs.declared.lines.program.Case.{Case}
use Rattle.clock_machine.specs.Lines.Reads.{IsCovered}
use Rattle.clock_machine.proofs.LinesLemmas.Covering.{each_from, one_more, covered_further}
use Rattle.clock_machine.proofs.lines.depths.deeper_cases.Goals as goal

pub loop-case-preserved : goal.loop-case-preserved
loop-case-preserved c =
    let inv = c.loop-case.invariant in (
      omega (arith, inv.0, c.deeper-depth.ensures.grows),
      one_more (λ (a : Case). IsCovered c.deeper-depth.result a.test) c.args.cases.now c.loop-case.case-index _ (λ k x is lt. covered_further c.loop-case.depth c.deeper-depth.result x.test c.deeper-depth.ensures.grows (inv.1 k x is lt)) c.deeper-depth.ensures.covers,
    )

pub returns-clause-covers : goal.returns-clause-covers
returns-clause-covers c = each_from (λ (a : Case). IsCovered c.loop-case.depth a.test) c.args.cases.now (λ k x is. (let lt = slice_get_within c.args.cases.now k x is in c.loop-case.invariant.1 k x is (omega (arith, lt, c.loop-case-test.false))))
