use Rattle.std.proofs.Common.{refl, inr}
use Rattle.hls_cli.specs.Ends.{seen}
use Rattle.hls_cli.proofs.RunEnds.{soak_ends, comparison_starved}
use Rattle.hls_cli.proofs.run.run_soak.Goals as goal

pub returns-in-Ok : goal.returns-in-Ok
returns-in-Ok g c = λ words files faults is.
    soak_ends words
    (seen files faults (g.K.Sink.written c.args.out.now) (g.K.Sink.faults c.args.out.now))
    (seen files faults (g.K.Sink.written c.finish.new.out) (g.K.Sink.faults c.finish.new.out))
    c.args.number c.in-Ok.answer.status c.items.result.now c.in-Ok.answer.lines c.finish.result is c.in-Ok.ensures.status c.in-Ok.ensures.answer c.items.ensures refl c.finish.ensures

pub returns-in-Err : goal.returns-in-Err
returns-in-Err g c = λ words files faults is.
    comparison_starved words
    (seen files faults (g.K.Sink.written c.args.out.now) (g.K.Sink.faults c.args.out.now))
    (seen files faults (g.K.Sink.written c.stop_for_memory.new.out) (g.K.Sink.faults c.stop_for_memory.new.out))
    c.stop_for_memory.result c.stop_for_memory.ensures.status (inr (c.args.number, is)) refl c.stop_for_memory.ensures.line
