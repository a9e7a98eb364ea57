use Rattle.std.proofs.Common.{map, refl, sym}
use Rattle.std.specs.String.{string_bytes}
use Rattle.hls_cli.specs.Ends.{seen}
use Rattle.hls_cli.proofs.RunEnds.{usage_ends, unread_ends}
use Rattle.hls_cli.proofs.run.answer.Goals as goal

pub run_synth-requires-clause-range : goal.run_synth-requires-clause-range
run_synth-requires-clause-range g c = (rw (c.in-Ok-Some-Synth.field-0-is, c.in-Ok-Some-Synth.field-0-0-is) at c.in-Ok-Some-Synth.ensures.range).0

pub run_synth-requires-clause-files : goal.run_synth-requires-clause-files
run_synth-requires-clause-files g c = (rw (c.in-Ok-Some-Synth.field-0-is, c.in-Ok-Some-Synth.field-0-0-is) at c.in-Ok-Some-Synth.ensures.range).1

pub run_cosim-requires : goal.run_cosim-requires
run_cosim-requires g c = rw (c.in-Ok-Some-Cosim.field-0-is, c.in-Ok-Some-Cosim.field-0-0-is) at c.in-Ok-Some-Cosim.ensures.range

pub returns-in-Ok-Some-Synth : goal.returns-in-Ok-Some-Synth
returns-in-Ok-Some-Synth g c =
    c.run_synth.ensures (map string_bytes c.args.words.now) (sym (rw (c.in-Ok-Some-Synth.field-0-is, c.in-Ok-Some-Synth.field-0-0-is) at c.in-Ok-Some-Synth.ensures.value))

pub returns-in-Ok-Some-Cosim : goal.returns-in-Ok-Some-Cosim
returns-in-Ok-Some-Cosim g c =
    c.run_cosim.ensures (map string_bytes c.args.words.now) (sym (rw (c.in-Ok-Some-Cosim.field-0-is, c.in-Ok-Some-Cosim.field-0-0-is) at c.in-Ok-Some-Cosim.ensures.value))

pub returns-in-Ok-Some-Soak : goal.returns-in-Ok-Some-Soak
returns-in-Ok-Some-Soak g c =
    c.run_soak.ensures (map string_bytes c.args.words.now) (g.F.Shelf.files c.args.shelf.now) (g.F.Shelf.faults c.args.shelf.now) (sym (rw (c.in-Ok-Some-Soak.field-0-is, c.in-Ok-Some-Soak.field-0-0-is) at c.in-Ok-Some-Soak.ensures.value))

pub run_link-requires : goal.run_link-requires
run_link-requires g c = rw (c.in-Ok-Some-Link.field-0-is, c.in-Ok-Some-Link.field-0-0-is) at c.in-Ok-Some-Link.ensures.range

pub returns-in-Ok-Some-Timing : goal.returns-in-Ok-Some-Timing
returns-in-Ok-Some-Timing g c =
    c.run_timing.ensures (map string_bytes c.args.words.now) (sym (rw (c.in-Ok-Some-Timing.field-0-is, c.in-Ok-Some-Timing.field-0-0-is) at c.in-Ok-Some-Timing.ensures.value))

pub returns-in-Ok-Some-Blast : goal.returns-in-Ok-Some-Blast
returns-in-Ok-Some-Blast g c =
    c.run_blast.ensures (map string_bytes c.args.words.now) (sym (rw (c.in-Ok-Some-Blast.field-0-is, c.in-Ok-Some-Blast.field-0-0-is) at c.in-Ok-Some-Blast.ensures.value))

pub returns-in-Ok-Some-Link : goal.returns-in-Ok-Some-Link
returns-in-Ok-Some-Link g c =
    c.run_link.ensures (map string_bytes c.args.words.now) (sym (rw (c.in-Ok-Some-Link.field-0-is, c.in-Ok-Some-Link.field-0-0-is) at c.in-Ok-Some-Link.ensures.value))

pub returns-in-Ok-None : goal.returns-in-Ok-None
returns-in-Ok-None g c =
    usage_ends (map string_bytes c.args.words.now)
    (seen (g.F.Shelf.files c.args.shelf.now) (g.F.Shelf.faults c.args.shelf.now) (g.K.Sink.written c.args.out.now) (g.K.Sink.faults c.args.out.now))
    (seen (g.F.Shelf.files c.args.shelf.now) (g.F.Shelf.faults c.args.shelf.now) (g.K.Sink.written c.finish.new.out) (g.K.Sink.faults c.finish.new.out))
    _ c.finish.result (sym (rw c.in-Ok-None.field-0-is at c.in-Ok-None.ensures.value)) refl refl c.finish.ensures

pub returns-in-Err : goal.returns-in-Err
returns-in-Err g c =
    unread_ends (map string_bytes c.args.words.now)
    (seen (g.F.Shelf.files c.args.shelf.now) (g.F.Shelf.faults c.args.shelf.now) (g.K.Sink.written c.args.out.now) (g.K.Sink.faults c.args.out.now))
    (seen (g.F.Shelf.files c.args.shelf.now) (g.F.Shelf.faults c.args.shelf.now) (g.K.Sink.written c.stop_for_memory.new.out) (g.K.Sink.faults c.stop_for_memory.new.out))
    c.stop_for_memory.result c.stop_for_memory.ensures.status refl c.stop_for_memory.ensures.line
