use Rattle.std.proofs.Common.{refl}
use Rattle.command_words.specs.CommandViews.{synth_view}
use Rattle.hls_cli.proofs.WrittenFiles.{second_cut}
use Rattle.hls_cli.proofs.work.write_files.Goals as goal

pub returns-clause-cut_short : goal.returns-clause-cut_short
returns-clause-cut_short g c =
    second_cut c.write-2.result (synth_view c.args.command.now) c.args.made.now.module c.args.made.now.report c.args.command.now.report.now c.items.result.now c.args.command.now.module_file.now c.items-2.result.now
    (g.F.Shelf.files c.args.shelf.now) (g.F.Shelf.files c.write.new.self) (g.F.Shelf.files c.write-2.new.self)
    refl c.items.ensures refl c.items-2.ensures c.in_ok-write.ensures.written c.write-2.ensures.cut_short
