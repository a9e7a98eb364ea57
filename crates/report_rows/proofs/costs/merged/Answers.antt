use Rattle.std.proofs.Common.{◌≡◌, ◌<◌, ◌^◌, ◌++◌, ◌∷◌, List, sym, ap, subst, ◌∙◌, arith}
use Rattle.cycle_report.specs.declared.report.Cost.{Cost}
use Rattle.report_rows.specs.Costs.{weighed, once}
use Rattle.report_rows.proofs.Merging.{merged_once, next_once}
use Rattle.report_rows.proofs.costs.merged.Goals as goal

pub add_row-requires : goal.add_row-requires
add_row-requires c =
    let yielded = c.loop-cost.yielded in
    let rest = c.next.new.self.rest.items in
    let all : yielded ++ c.in-Some.cost ∷ rest ≡ c.args.costs.items = ap (λ (xs : List Cost). yielded ++ xs) (sym c.in-Some.ensures.steps.0) ∙ c.loop-cost.invariant.rest in
    let so_far : weighed once c.loop-cost.rows.items ≡ weighed once yielded = ap (weighed once) c.loop-cost.invariant.merged ∙ merged_once yielded in
    let room : weighed once (yielded ++ c.in-Some.cost ∷ rest) < 2 ^ 64 = subst (λ (xs : List Cost). weighed once xs < 2 ^ 64) (sym all) c.requires in
    omega (arith, so_far, room, next_once yielded rest c.in-Some.cost)
