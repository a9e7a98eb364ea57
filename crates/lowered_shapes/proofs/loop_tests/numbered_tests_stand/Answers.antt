use Rattle.lowered_shapes.proofs.LoopTests.Tests.{tests_stand}
use Rattle.lowered_shapes.proofs.loop_tests.numbered_tests_stand.Goals as goal

pub returns : goal.returns
returns c = tests_stand
