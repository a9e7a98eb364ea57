use Rattle.std.proofs.Common.{refl}
use Rattle.cycle_report.proofs.Reading.{any_follows, view_found, view_stuck, first_stuck, later_stuck, later_found, has_both, passed_as}
use Rattle.cycle_report.proofs.Forms.{report_view, init_follows, costs_follow, some_init, some_costs, some_loops, some_units, some_memories, some_last}
use Rattle.cycle_report.specs.PlainReport.{plain_of}
use Rattle.cycle_report.proofs.read.report.Goals as goal

pub returns-in_err-settings : goal.returns-in_err-settings
returns-in_err-settings c =
    passed_as plain_of _ _ c.from_residual.ensures.1 (λ y e. e) c.in_err-settings.ensures
    (λ k. view_stuck (report_view _) (first_stuck k (has_both some_init (has_both some_costs (has_both some_loops (has_both some_units (has_both some_memories some_last))))) (λ y v i f. any_follows _)))

pub returns-in_err-init : goal.returns-in_err-init
returns-in_err-init c =
    passed_as plain_of _ _ c.from_residual-in_err-init.ensures.1 (λ y e. e) c.in_err-init.ensures
    (λ k. view_stuck (report_view _) (later_stuck c.in_ok-settings.ensures (first_stuck k (has_both some_costs (has_both some_loops (has_both some_units (has_both some_memories some_last)))) init_follows) (λ y v i f. any_follows _)))

pub returns-in_err-rows : goal.returns-in_err-rows
returns-in_err-rows c =
    passed_as plain_of _ _ c.from_residual-in_err-rows.ensures.1 (λ y e. e) c.in_err-rows.ensures
    (λ k. view_stuck (report_view _) (later_stuck c.in_ok-settings.ensures (later_stuck c.in_ok-init.ensures (first_stuck k (has_both some_loops (has_both some_units (has_both some_memories some_last))) costs_follow) init_follows) (λ y v i f. any_follows _)))

pub returns-in_err-loops : goal.returns-in_err-loops
returns-in_err-loops c =
    passed_as plain_of _ _ c.from_residual-in_err-loops.ensures.1 (λ y e. e) c.in_err-loops.ensures
    (λ k. view_stuck (report_view _) (later_stuck c.in_ok-settings.ensures (later_stuck c.in_ok-init.ensures (later_stuck c.in_ok-rows.ensures (first_stuck k (has_both some_units (has_both some_memories some_last)) (λ y v i f. refl)) costs_follow) init_follows) (λ y v i f. any_follows _)))

pub returns-in_err-units : goal.returns-in_err-units
returns-in_err-units c =
    passed_as plain_of _ _ c.from_residual-in_err-units.ensures.1 (λ y e. e) c.in_err-units.ensures
    (λ k. view_stuck (report_view _) (later_stuck c.in_ok-settings.ensures (later_stuck c.in_ok-init.ensures (later_stuck c.in_ok-rows.ensures (later_stuck c.in_ok-loops.ensures (first_stuck k (has_both some_memories some_last) (λ y v i f. any_follows _)) (λ y v i f. refl)) costs_follow) init_follows) (λ y v i f. any_follows _)))

pub returns-in_err-memories : goal.returns-in_err-memories
returns-in_err-memories c =
    passed_as plain_of _ _ c.from_residual-in_err-memories.ensures.1 (λ y e. e) c.in_err-memories.ensures
    (λ k. view_stuck (report_view _) (later_stuck c.in_ok-settings.ensures (later_stuck c.in_ok-init.ensures (later_stuck c.in_ok-rows.ensures (later_stuck c.in_ok-loops.ensures (later_stuck c.in_ok-units.ensures (first_stuck k some_last (λ y v i f. refl)) (λ y v i f. any_follows _)) (λ y v i f. refl)) costs_follow) init_follows) (λ y v i f. any_follows _)))

pub returns-in_err-registers : goal.returns-in_err-registers
returns-in_err-registers c =
    passed_as plain_of _ _ c.from_residual-in_err-registers.ensures.1 (λ y e. e) c.in_err-registers.ensures
    (λ k. view_stuck (report_view _) (later_stuck c.in_ok-settings.ensures (later_stuck c.in_ok-init.ensures (later_stuck c.in_ok-rows.ensures (later_stuck c.in_ok-loops.ensures (later_stuck c.in_ok-units.ensures (later_stuck c.in_ok-memories.ensures k (λ y v i f. refl)) (λ y v i f. any_follows _)) (λ y v i f. refl)) costs_follow) init_follows) (λ y v i f. any_follows _)))

pub returns : goal.returns
returns c = view_found (report_view _) (later_found c.in_ok-settings.ensures (later_found c.in_ok-init.ensures (later_found c.in_ok-rows.ensures (later_found c.in_ok-loops.ensures (later_found c.in_ok-units.ensures (later_found c.in_ok-memories.ensures c.in_ok-registers.ensures (λ y v i f. refl)) (λ y v i f. any_follows _)) (λ y v i f. refl)) costs_follow) init_follows) (λ y v i f. any_follows _))
