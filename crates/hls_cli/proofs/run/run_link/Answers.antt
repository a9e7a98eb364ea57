use Rattle.std.proofs.Common.{◌⊎◌, inl, inr, refl}
use Rattle.command_words.specs.CommandViews.{link_view}
use Rattle.module_commands.specs.Work as work
use Rattle.hls_cli.specs.Ends.{seen}
use Rattle.hls_cli.specs.ModuleRuns as runs
use Rattle.hls_cli.proofs.ModuleOutcomes.{link_completes, or_missing}
use Rattle.module_commands.proofs.ReadFiles.{stopped_work}
use Rattle.hls_cli.proofs.RunEnds.{outcome_ends, modules_failed, modules_starved, same_files}
use Rattle.hls_cli.proofs.run.run_link.Goals as goal

pub returns-in-Ok : goal.returns-in-Ok
returns-in-Ok g c = λ words is.
    outcome_ends words
    (seen (g.F.Shelf.files c.args.shelf.now) (g.F.Shelf.faults c.args.shelf.now) (g.K.Sink.written c.args.out.now) (g.K.Sink.faults c.args.out.now))
    (seen (g.F.Shelf.files c.work_link.new.shelf) (g.F.Shelf.faults c.work_link.new.shelf) (g.K.Sink.written c.finish.new.out) (g.K.Sink.faults c.finish.new.out))
    c.args.command.now.chain.now c.in-Ok.outcome c.items.result.now c.finish.result (runs.of_link (link_view c.args.command.now) is refl c.in-Ok.ensures.outcome) c.in-Ok.ensures.files c.items.ensures
    (λ it. link_completes words _ (link_view c.args.command.now) _ is c.in-Ok.ensures.complete it) c.finish.ensures

pub returns-in-Err-Failed : goal.returns-in-Err-Failed
returns-in-Err-Failed g c = λ words is.
    modules_failed words
    (seen (g.F.Shelf.files c.args.shelf.now) (g.F.Shelf.faults c.args.shelf.now) (g.K.Sink.written c.args.out.now) (g.K.Sink.faults c.args.out.now))
    (seen (g.F.Shelf.files c.work_link.new.shelf) (g.F.Shelf.faults c.work_link.new.shelf) (g.K.Sink.written c.stop_for_fault.new.out) (g.K.Sink.faults c.stop_for_fault.new.out))
    c.args.command.now.chain.now c.stop_for_fault.result c.stop_for_fault.ensures.status (inr (inr (link_view c.args.command.now, is))) (or_missing (λ absent. runs.of_link (link_view c.args.command.now) is absent.0 absent.1) (c.in-Err-Failed.ensures.failed (cc)))
    (stopped_work _ _ _ _ _ (λ o it. runs.of_link (link_view c.args.command.now) is refl it) c.in-Err-Failed.ensures.stopped) c.stop_for_fault.ensures.line

pub returns-in-Err-Memory : goal.returns-in-Err-Memory
returns-in-Err-Memory g c = λ words is.
    modules_starved words
    (seen (g.F.Shelf.files c.args.shelf.now) (g.F.Shelf.faults c.args.shelf.now) (g.K.Sink.written c.args.out.now) (g.K.Sink.faults c.args.out.now))
    (seen (g.F.Shelf.files c.work_link.new.shelf) (g.F.Shelf.faults c.work_link.new.shelf) (g.K.Sink.written c.stop_for_memory.new.out) (g.K.Sink.faults c.stop_for_memory.new.out))
    c.args.command.now.chain.now c.stop_for_memory.result c.stop_for_memory.ensures.status (inr (inr (link_view c.args.command.now, is)))
    (stopped_work _ _ _ _ _ (λ o it. runs.of_link (link_view c.args.command.now) is refl it) c.in-Err-Memory.ensures.stopped) c.stop_for_memory.ensures.line
