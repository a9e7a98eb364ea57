use Rattle.std.proofs.Common.{◌⊎◌, inl, inr, refl}
use Rattle.module_commands.specs.Work as work
use Rattle.hls_cli.specs.Ends.{seen}
use Rattle.hls_cli.specs.ModuleRuns as runs
use Rattle.hls_cli.proofs.ModuleOutcomes.{timing_completes, timing_leaves, or_missing}
use Rattle.hls_cli.proofs.RunEnds.{outcome_ends, modules_failed, modules_starved, same_files}
use Rattle.hls_cli.proofs.run.run_timing.Goals as goal

pub returns-in-Ok : goal.returns-in-Ok
returns-in-Ok g c = λ words is.
    outcome_ends words
    (seen (g.F.Shelf.files c.args.shelf.now) (g.F.Shelf.faults c.args.shelf.now) (g.K.Sink.written c.args.out.now) (g.K.Sink.faults c.args.out.now))
    (seen (g.F.Shelf.files c.work_timing.new.shelf) (g.F.Shelf.faults c.work_timing.new.shelf) (g.K.Sink.written c.finish.new.out) (g.K.Sink.faults c.finish.new.out))
    c.args.module_file.now c.in-Ok.outcome c.items.result.now c.finish.result (runs.of_timing c.args.module_file.now is c.in-Ok.ensures.outcome) (timing_leaves c.args.module_file.now (g.F.Shelf.files c.args.shelf.now) c.in-Ok.outcome c.args.module_file.now _ _ c.in-Ok.ensures.outcome c.in-Ok.ensures.files) c.items.ensures
    (λ it. timing_completes words _ c.args.module_file.now _ is c.in-Ok.ensures.complete it) c.finish.ensures

pub returns-in-Err-Failed : goal.returns-in-Err-Failed
returns-in-Err-Failed g c = λ words is.
    modules_failed words
    (seen (g.F.Shelf.files c.args.shelf.now) (g.F.Shelf.faults c.args.shelf.now) (g.K.Sink.written c.args.out.now) (g.K.Sink.faults c.args.out.now))
    (seen (g.F.Shelf.files c.work_timing.new.shelf) (g.F.Shelf.faults c.work_timing.new.shelf) (g.K.Sink.written c.stop_for_fault.new.out) (g.K.Sink.faults c.stop_for_fault.new.out))
    c.args.module_file.now c.stop_for_fault.result c.stop_for_fault.ensures.status (inl (c.args.module_file.now, is)) (or_missing (λ absent. runs.of_timing c.args.module_file.now is absent) (c.in-Err-Failed.ensures.failed (cc)))
    (work.unwritten (same_files _ _ c.in-Err-Failed.ensures.files)) c.stop_for_fault.ensures.line

pub returns-in-Err-Memory : goal.returns-in-Err-Memory
returns-in-Err-Memory g c = λ words is.
    modules_starved words
    (seen (g.F.Shelf.files c.args.shelf.now) (g.F.Shelf.faults c.args.shelf.now) (g.K.Sink.written c.args.out.now) (g.K.Sink.faults c.args.out.now))
    (seen (g.F.Shelf.files c.work_timing.new.shelf) (g.F.Shelf.faults c.work_timing.new.shelf) (g.K.Sink.written c.stop_for_memory.new.out) (g.K.Sink.faults c.stop_for_memory.new.out))
    c.args.module_file.now c.stop_for_memory.result c.stop_for_memory.ensures.status (inl (c.args.module_file.now, is))
    (work.unwritten (same_files _ _ c.in-Err-Memory.ensures.files)) c.stop_for_memory.ensures.line
