-- The clocked run of scheduled pieces.
use Rattle.std.proofs.Common.{◌≡◌, ◌∙◌, ℕ, ◌+◌, ap, sym, filter, Option, arith}
use Rattle.hls_base.specs.Steps.{went, Ran, ran}
use Rattle.ir_core.specs.Bodies.{Words}
use Rattle.ir_core.specs.FlatRuns.{flat_run}
use Rattle.timed_pieces.proofs.ScheduleRuns.Programs.{scheduled_keeps}
use Rattle.timed_pieces.specs.FlatRuns.{has_node}
use Rattle.timed_pieces.proofs.FlatRuns.Whole.{flat_runs}
use Rattle.timed_pieces.specs.Laws.{node_count, ScheduledPiecesKeepRuns}

nothing_more : (n : ℕ) → n + 0 ≡ n
nothing_more n = omega arith

pub clocked : ScheduledPiecesKeepRuns
clocked f choice kept pieces point returned cfg fine laid units timed rows times sound s t holds fits =
    let flat = flat_runs f choice kept pieces point returned cfg fine laid s t holds fits in
    let clock = scheduled_keeps units cfg timed rows times.frame times.first times.nodes sound t in record {
      finite = λ n left trace way last e.
          let x = flat.ends n left trace way last e in
          let count = node_count f choice kept pieces point trace in
          let at : flat_run cfg t count ≡ ran (filter (has_node f choice kept pieces point) trace) (went x.0 x.1 0) = ap (λ k. flat_run cfg t k) (sym (nothing_more count)) ∙ x.3 0 in
          let y = clock.finite count x.0 x.1 0 (ap (λ (r : Ran Words (Option ℕ)). r.outcome) at) in
          (x.0, x.1, x.2, y.0, y.1);
      endless = λ w m. clock.endless (flat.goes_on w) m;
    }
