use Rattle.std.proofs.Common.{sym, ◌∙◌}
use Rattle.module_commands.proofs.ReadFiles.{cut_work}
use Rattle.module_commands.proofs.work.leave.Goals as goal

pub returns-in-Some-clause-cut_short : goal.returns-in-Some-clause-cut_short
returns-in-Some-clause-cut_short g c =
    cut_work c.write.result c.args.outcome.now c.args.name.now c.items.result.now (g.F.Shelf.files c.args.shelf.now) (g.F.Shelf.files c.write.new.self) (cc) c.write.ensures.cut_short
