use Rattle.c_machine.proofs.StateLemmas.FileContents.{contents_end}
use Rattle.c_machine.proofs.state.file_scope.contents.Goals as goal

pub returns : goal.returns
returns c = contents_end c.args.declared.now c.args.objects.now c.loop-i.i c.min-i-end.result c.loop-i.all c.loop-i.invariant c.loop-i-test.false c.min-i-end.ensures
