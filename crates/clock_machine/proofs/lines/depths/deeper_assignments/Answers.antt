use Rattle.std.proofs.Common.{arith}
use Rattle.std.proofs.lemmas.Option.{slice_get_within}
use Rattle.clock_machine.specs.declared.lines.program.Assignment.{Assignment}
use Rattle.clock_machine.specs.Lines.Reads.{IsCovered}
use Rattle.clock_machine.proofs.LinesLemmas.Covering.{each_from, one_more, covered_further}
use Rattle.clock_machine.proofs.lines.depths.deeper_assignments.Goals as goal

pub loop-assignment-preserved : goal.loop-assignment-preserved
loop-assignment-preserved c =
    let inv = c.loop-assignment.invariant in (
      omega (arith, inv.0, c.deeper-depth.ensures.grows),
      one_more (λ (a : Assignment). IsCovered c.deeper-depth.result a.value) c.args.assignments.now c.loop-assignment.assignment-index _ (λ k x is lt. covered_further c.loop-assignment.depth c.deeper-depth.result x.value c.deeper-depth.ensures.grows (inv.1 k x is lt)) c.deeper-depth.ensures.covers,
    )

pub returns-clause-covers : goal.returns-clause-covers
returns-clause-covers c = each_from (λ (a : Assignment). IsCovered c.loop-assignment.depth a.value) c.args.assignments.now (λ k x is. (let lt = slice_get_within c.args.assignments.now k x is in c.loop-assignment.invariant.1 k x is (omega (arith, lt, c.loop-assignment-test.false))))
