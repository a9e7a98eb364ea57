use Rattle.std.proofs.Common.{◌∙◌, sym, refl, subst}
use Rattle.cycle_report.specs.Forms as forms
use Rattle.cycle_report.proofs.Reading.{Begun, begun_more, begun_end, begun_stuck, passed_as}
use Rattle.cycle_report.proofs.Forms.{cost_heads}
use Rattle.cycle_report.proofs.lines.costs.Goals as goal

pub returns-in_err-row : goal.returns-in_err-row
returns-in_err-row c =
    passed_as (λ rows. rows.items) _ _ c.from_residual.ensures.1 (λ y e. e) c.in_err-row.ensures
    (λ k. begun_stuck cost_heads refl c.rows.invariant (sym c.is_at.ensures ∙ c.rows-test.true) k)

pub rows-preserved : goal.rows-preserved
rows-preserved c =
    subst (λ rows. Begun 99 forms.cost rows c.args.cursor.now c.cost.new.cursor) (sym c.in_ok-push.ensures.items) (begun_more cost_heads refl c.rows.invariant c.in_ok-row.ensures)

pub returns : goal.returns
returns c = begun_end cost_heads c.rows.invariant (sym c.is_at.ensures ∙ c.rows-test.false)
