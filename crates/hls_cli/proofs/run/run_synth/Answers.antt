use Rattle.command_words.specs.CommandViews.{synth_view}
use Rattle.hls_cli.specs.Ends.{seen}
use Rattle.hls_cli.proofs.RunEnds.{synth_ends, synth_failed, synth_starved}
use Rattle.hls_cli.proofs.run.run_synth.Goals as goal

pub work_synth-requires-clause-range : goal.work_synth-requires-clause-range
work_synth-requires-clause-range g c = c.requires.range

pub work_synth-requires-clause-files : goal.work_synth-requires-clause-files
work_synth-requires-clause-files g c = c.requires.files

pub returns-in-Ok : goal.returns-in-Ok
returns-in-Ok g c = λ words is.
    synth_ends words
    (seen (g.F.Shelf.files c.args.shelf.now) (g.F.Shelf.faults c.args.shelf.now) (g.K.Sink.written c.args.out.now) (g.K.Sink.faults c.args.out.now))
    (seen (g.F.Shelf.files c.work_synth.new.shelf) (g.F.Shelf.faults c.work_synth.new.shelf) (g.K.Sink.written c.finish.new.out) (g.K.Sink.faults c.finish.new.out))
    (synth_view c.args.command.now) c.in-Ok.answer c.items.result.now c.finish.result is c.in-Ok.ensures.answer c.items.ensures c.finish.ensures

pub returns-in-Err-Failed : goal.returns-in-Err-Failed
returns-in-Err-Failed g c = λ words is.
    synth_failed words
    (seen (g.F.Shelf.files c.args.shelf.now) (g.F.Shelf.faults c.args.shelf.now) (g.K.Sink.written c.args.out.now) (g.K.Sink.faults c.args.out.now))
    (seen (g.F.Shelf.files c.work_synth.new.shelf) (g.F.Shelf.faults c.work_synth.new.shelf) (g.K.Sink.written c.stop_for_fault.new.out) (g.K.Sink.faults c.stop_for_fault.new.out))
    (synth_view c.args.command.now) c.stop_for_fault.result c.stop_for_fault.ensures.status is (c.in-Err-Failed.ensures.failed (cc)) c.in-Err-Failed.ensures.stopped c.stop_for_fault.ensures.line

pub returns-in-Err-Memory : goal.returns-in-Err-Memory
returns-in-Err-Memory g c = λ words is.
    synth_starved words
    (seen (g.F.Shelf.files c.args.shelf.now) (g.F.Shelf.faults c.args.shelf.now) (g.K.Sink.written c.args.out.now) (g.K.Sink.faults c.args.out.now))
    (seen (g.F.Shelf.files c.work_synth.new.shelf) (g.F.Shelf.faults c.work_synth.new.shelf) (g.K.Sink.written c.stop_for_memory.new.out) (g.K.Sink.faults c.stop_for_memory.new.out))
    (synth_view c.args.command.now) c.stop_for_memory.result c.stop_for_memory.ensures.status is c.in-Err-Memory.ensures.stopped c.stop_for_memory.ensures.line
