use Rattle.std.proofs.Common.{◌∙◌, sym, ap, refl, subst, map}
use Rattle.std.proofs.lemmas.List.{map-append}
use Rattle.cycle_report.specs.PlainReport.{loop_of}
use Rattle.cycle_report.specs.Forms as forms
use Rattle.cycle_report.proofs.Reading.{Begun, begun_more, begun_end, begun_stuck, passed_as}
use Rattle.cycle_report.proofs.Forms.{loop_heads}
use Rattle.cycle_report.proofs.lines.loops.Goals as goal

pub returns-in_err-row : goal.returns-in_err-row
returns-in_err-row c =
    passed_as (λ rows. map loop_of rows.items) _ _ c.from_residual.ensures.1 (λ y e. e) c.in_err-row.ensures
    (λ k. begun_stuck loop_heads refl c.rows.invariant (sym c.is_at.ensures ∙ c.rows-test.true) k)

pub rows-preserved : goal.rows-preserved
rows-preserved c =
    subst (λ rows. Begun 108 forms.loop rows c.args.cursor.now c.loop_row.new.cursor) (sym (ap (map loop_of) c.in_ok-push.ensures.items ∙ map-append loop_of c.rows.rows.items _))
    (begun_more loop_heads refl c.rows.invariant c.in_ok-row.ensures)

pub returns : goal.returns
returns c = begun_end loop_heads c.rows.invariant (sym c.is_at.ensures ∙ c.rows-test.false)
