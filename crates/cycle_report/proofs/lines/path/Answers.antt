use Rattle.std.proofs.Common.{◌∙◌, ◌∷◌, ◌++◌, sym, ap, refl, subst, []}
use Rattle.cycle_report.specs.Reading.{Found}
use Rattle.cycle_report.specs.Forms as forms
use Rattle.cycle_report.proofs.Reading.{begun, begun_more, begun_end, begun_stuck, passed, view_found, view_stuck, first_stuck, later_stuck, later_found}
use Rattle.cycle_report.proofs.Forms.{path_none, path_some, further_heads, further_follows, some_further}
use Rattle.cycle_report.proofs.lines.path.Goals as goal

pub returns-in_err-word : goal.returns-in_err-word
returns-in_err-word c =
    passed _ _ c.from_residual.ensures.1 (λ y e. e) c.in_err-word.ensures (λ k. view_stuck (path_none _ (sym c.is_at.ensures ∙ c.if-is_at.true)) k)

pub returns-then-is_at : goal.returns-then-is_at
returns-then-is_at c =
    subst (λ z. Found forms.path z c.args.cursor.now c.word.new.self) (sym (c.new.ensures ∙ c.new-places.ensures.items)) (view_found (path_none _ (sym c.is_at.ensures ∙ c.if-is_at.true)) c.in_ok-word.ensures)

pub returns-in_err-first : goal.returns-in_err-first
returns-in_err-first c =
    passed _ _ c.from_residual-in_err-first.ensures.1 (λ y e. e) c.in_err-first.ensures
    (λ k. view_stuck (path_some _ (sym c.is_at.ensures ∙ c.if-is_at.false)) (first_stuck k some_further further_follows))

pub places-init : goal.places-init
places-init c =
    (c.in_ok-first.first, [], c.in_ok-push.ensures.items ∙ ap (λ z. z ++ (c.in_ok-first.first ∷ [])) c.new-places.ensures.items, c.in_ok-first.ensures, begun 44 forms.further c.place.new.cursor)

pub returns-in_err-next : goal.returns-in_err-next
returns-in_err-next c =
    let i = c.places.invariant in
    passed _ _ c.from_residual-in_err-next.ensures.1 (λ y e. e) c.in_err-next.ensures
    (λ k. view_stuck (path_some _ (sym c.is_at.ensures ∙ c.if-is_at.false)) (later_stuck i.3 (begun_stuck further_heads refl i.4 (sym c.is_at-in-places.ensures ∙ c.places-test.true) k) further_follows))

pub places-preserved : goal.places-preserved
places-preserved c =
    let i = c.places.invariant in
    let next = c.in_ok-next.next in
    (i.0, i.1 ++ (next ∷ []), c.in_ok-push-2.ensures.items ∙ ap (λ z. z ++ (next ∷ [])) i.2, i.3, begun_more further_heads refl i.4 c.in_ok-next.ensures)

pub returns : goal.returns
returns c =
    let i = c.places.invariant in
    let end = begun_end further_heads i.4 (sym c.is_at-in-places.ensures ∙ c.places-test.false) in
    subst (λ z. Found forms.path z c.args.cursor.now c.places.cursor) (sym (c.new-2.ensures ∙ i.2))
    (view_found (path_some _ (sym c.is_at.ensures ∙ c.if-is_at.false)) (later_found i.3 end further_follows))
