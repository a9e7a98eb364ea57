use Rattle.lowered_shapes.proofs.LoopTests.Tests.{bits_follow}
use Rattle.lowered_shapes.proofs.loop_tests.only_bits_follow_tests.Goals as goal

pub returns : goal.returns
returns c = bits_follow
