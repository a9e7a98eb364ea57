use Rattle.c_tree.specs.View.{program_of}
use Rattle.c_tree.proofs.PrintedPrograms.{text_is_printed}
use Rattle.c_tree.proofs.print.print.Goals as goal

pub returns : goal.returns
returns c = text_is_printed (program_of c.args.program.now) c.requires c.written.result c.written.ensures
