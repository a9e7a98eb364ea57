use Rattle.std.proofs.Common.{arith}
use Rattle.command_words.specs.CommandViews.{cosim_view}
use Rattle.hls_cli.proofs.RunEnds.{cosim_work}
use Rattle.hls_cli.proofs.work.work_cosim.Goals as goal

pub returns-clause-answer : goal.returns-clause-answer
returns-clause-answer g c =
    cosim_work (cosim_view c.args.command.now) (g.F.Shelf.files c.args.shelf.now) c.in_ok-given.given c.compared.result c.in_ok-given.ensures.given c.compared.ensures.answer

pub compared-requires : goal.compared-requires
compared-requires g c = let few = c.requires.points in let same = c.in_ok-given.ensures.given.points in omega (arith, few, same)
