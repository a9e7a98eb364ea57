use Rattle.std.proofs.Common.{◌≡◌, ◌+◌, ◌*◌, ◌^◌, ◌<◌, length, take, arith, ap, ◌∙◌, get_or}
use Rattle.std.proofs.lemmas.List.{take_all}
use Rattle.hls_base.specs.Tallies.{count_in}
use Rattle.cycle_report.specs.FormulaValue.{cycles}
use Rattle.cycle_report.proofs.Tallies.{cycles_more, cycles_of_first}
use Rattle.cycle_report.proofs.report.Formula.cycles.Goals as goal

pub returns-in_err-total : goal.returns-in_err-total
returns-in_err-total c =
    let at = cycles_more c.args.self.now.base c.args.self.now.rows.items c.args.tally.now c.loop-row.row-index c.row-item.result c.loop-row.total (omega (arith, c.loop-row-test.true, ap length c.deref-row-items.ensures.value))
    (c.row-item.is ∙ ap (λ rows. get_or rows c.loop-row.row-index c.row-item.result) c.deref-row-items.ensures.value) c.loop-row.invariant.value in
    let cost = c.spent.ensures ∙ ap (λ n. c.row-item.result.cost * n) (c.count_at-count.ensures ∙ ap (λ es. count_in es c.row-item.result.point) c.items.ensures.same) in
    let least = cycles_of_first c.args.self.now.base c.args.self.now.rows.items c.args.tally.now (c.loop-row.row-index + 1) in
    rw c.from_residual.ensures (λ fits. c.in_err-total.ensures (omega (arith, fits, least, at, cost)))

pub loop-row-preserved : goal.loop-row-preserved
loop-row-preserved c =
    let at = cycles_more c.args.self.now.base c.args.self.now.rows.items c.args.tally.now c.loop-row.row-index c.row-item.result c.loop-row.total (omega (arith, c.loop-row-test.true, ap length c.deref-row-items.ensures.value))
    (c.row-item.is ∙ ap (λ rows. get_or rows c.loop-row.row-index c.row-item.result) c.deref-row-items.ensures.value) c.loop-row.invariant.value in
    let cost = c.spent.ensures ∙ ap (λ n. c.row-item.result.cost * n) (c.count_at-count.ensures ∙ ap (λ es. count_in es c.row-item.result.point) c.items.ensures.same) in
    record {
      value = c.in_ok-total.ensures.1 ∙ (ap (λ n. c.loop-row.total + n) cost ∙ at);
      fits = omega (arith, c.in_ok-total.ensures.0, c.in_ok-total.ensures.1);
    }

pub returns : goal.returns
returns c =
    let all : take c.loop-row.row-index c.args.self.now.rows.items ≡ c.args.self.now.rows.items = take_all c.loop-row.row-index c.args.self.now.rows.items (omega (arith, c.loop-row-test.false, ap length c.deref-row-items.ensures.value)) in
    let same = c.loop-row.invariant.value ∙ ap (λ rows. cycles c.args.self.now.base rows c.args.tally.now) all in
    (omega (arith, c.loop-row.invariant.fits, same), same)
