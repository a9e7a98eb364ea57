use Rattle.std.proofs.Common.{inl}
use Rattle.command_words.specs.CommandViews.{cosim_view}
use Rattle.hls_cli.specs.Ends.{seen}
use Rattle.hls_cli.proofs.RunEnds.{cosim_ends, cosim_failed, comparison_starved}
use Rattle.hls_cli.proofs.run.run_cosim.Goals as goal

pub returns-in-Ok : goal.returns-in-Ok
returns-in-Ok g c = λ words is.
    cosim_ends words
    (seen (g.F.Shelf.files c.args.shelf.now) (g.F.Shelf.faults c.args.shelf.now) (g.K.Sink.written c.args.out.now) (g.K.Sink.faults c.args.out.now))
    (seen (g.F.Shelf.files c.work_cosim.new.shelf) (g.F.Shelf.faults c.work_cosim.new.shelf) (g.K.Sink.written c.finish.new.out) (g.K.Sink.faults c.finish.new.out))
    (cosim_view c.args.command.now) c.in-Ok.answer.status c.items.result.now c.in-Ok.answer.lines c.finish.result is c.in-Ok.ensures.status c.in-Ok.ensures.answer c.items.ensures c.in-Ok.ensures.files c.finish.ensures

pub returns-in-Err-Failed : goal.returns-in-Err-Failed
returns-in-Err-Failed g c = λ words is.
    cosim_failed words
    (seen (g.F.Shelf.files c.args.shelf.now) (g.F.Shelf.faults c.args.shelf.now) (g.K.Sink.written c.args.out.now) (g.K.Sink.faults c.args.out.now))
    (seen (g.F.Shelf.files c.work_cosim.new.shelf) (g.F.Shelf.faults c.work_cosim.new.shelf) (g.K.Sink.written c.stop_for_fault.new.out) (g.K.Sink.faults c.stop_for_fault.new.out))
    (cosim_view c.args.command.now) c.stop_for_fault.result c.stop_for_fault.ensures.status is (c.in-Err-Failed.ensures.failed (cc)) c.in-Err-Failed.ensures.files c.stop_for_fault.ensures.line

pub returns-in-Err-Memory : goal.returns-in-Err-Memory
returns-in-Err-Memory g c = λ words is.
    comparison_starved words
    (seen (g.F.Shelf.files c.args.shelf.now) (g.F.Shelf.faults c.args.shelf.now) (g.K.Sink.written c.args.out.now) (g.K.Sink.faults c.args.out.now))
    (seen (g.F.Shelf.files c.work_cosim.new.shelf) (g.F.Shelf.faults c.work_cosim.new.shelf) (g.K.Sink.written c.stop_for_memory.new.out) (g.K.Sink.faults c.stop_for_memory.new.out))
    c.stop_for_memory.result c.stop_for_memory.ensures.status (inl (cosim_view c.args.command.now, is)) c.in-Err-Memory.ensures.files c.stop_for_memory.ensures.line
