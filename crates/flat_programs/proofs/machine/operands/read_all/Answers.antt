use Rattle.std.proofs.Common.{arith}
use Rattle.ir_core.specs.Bodies.{operand}
use Rattle.flat_programs.specs.Machine.Held.{holding}
use Rattle.flat_programs.proofs.MachineLemmas.Reading.{read_more}
use Rattle.flat_programs.proofs.machine.operands.read_all.Goals as goal

pub loop-index-preserved : goal.loop-index-preserved
loop-index-preserved c = λ m.
    read_more (operand (holding c.args.variables.now m) c.args.results.now) c.args.operands.now c.loop-index.into c.loop-index.index c.read.result _ c.loop-index-test.true (omega arith) (c.read.ensures m) (c.loop-index.invariant m)
