use Rattle.std.proofs.Common.{refl}
use Rattle.command_words.specs.CommandViews.{synth_view}
use Rattle.hls_cli.specs.Work as work
use Rattle.hls_cli.proofs.WrittenFiles.{made_files, stopped_files, refused_files, on_err}
use Rattle.hls_cli.proofs.work.work_synth.Goals as goal

pub returns-in_err-write_files-in-Ok-clause-stopped : goal.returns-in_err-write_files-in-Ok-clause-stopped
returns-in_err-write_files-in-Ok-clause-stopped g c =
    on_err _ _
    (stopped_files (synth_view c.args.command.now) c.args.command.now.source.now c.in_ok-source.source.items c.in-Ok.made.module c.in-Ok.made.report
    (g.F.Shelf.files c.args.shelf.now) (g.F.Shelf.files c.read.new.self) (g.F.Shelf.files c.write_files.new.shelf)
    refl c.in_ok-source.ensures.bytes c.read.ensures.files (rw c.as_slice.ensures.value at c.in-Ok.ensures.made) c.in_err-write_files-in-Ok.ensures.cut_short)

pub returns-in-Ok-clause-answer : goal.returns-in-Ok-clause-answer
returns-in-Ok-clause-answer g c =
    work.made refl c.in_ok-lines-in-Ok.ensures
    (made_files (synth_view c.args.command.now) c.args.command.now.source.now c.in_ok-source.source.items c.in-Ok.made.module c.in-Ok.made.report
    (g.F.Shelf.files c.args.shelf.now) (g.F.Shelf.files c.read.new.self) (g.F.Shelf.files c.write_files.new.shelf)
    c.requires.files refl c.in_ok-source.ensures.bytes c.read.ensures.files (rw c.as_slice.ensures.value at c.in-Ok.ensures.made) c.in_ok-write_files-in-Ok.ensures.written)

pub returns-in-Err-Refused-clause-answer : goal.returns-in-Err-Refused-clause-answer
returns-in-Err-Refused-clause-answer g c =
    work.refused c.in-Err-Refused.refusal c.in_ok-refused-in-Err-Refused.ensures.status c.in_ok-refused-in-Err-Refused.ensures.lines
    (refused_files (synth_view c.args.command.now) c.args.command.now.source.now c.in_ok-source.source.items c.in-Err-Refused.refusal
    (g.F.Shelf.files c.args.shelf.now) (g.F.Shelf.files c.read.new.self)
    refl c.in_ok-source.ensures.bytes c.read.ensures.files (rw c.in-Err-Refused.field-0-is at (rw c.as_slice.ensures.value at c.in-Err-Refused.ensures.refused)))
