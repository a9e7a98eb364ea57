use Rattle.c_elaborate.proofs.Entering.{objects_step, numbers_step}
use Rattle.c_elaborate.proofs.blocks.enter.Goals as goal

pub loop-stmt-preserved : goal.loop-stmt-preserved
loop-stmt-preserved c =
    let i = c.loop-stmt.stmt-index in
    record {
      objects = objects_step c.args.body.now i _ c.loop-stmt-test.true c.stmt-item.is c.declared_by.result.now c.declared_by.ensures c.loop-stmt.all.items c.add_objects.new.all.items _ c.in_ok-add_objects.ensures.objects c.loop-stmt.invariant.objects;
      numbers = numbers_step c.args.body.now i _ c.loop-stmt-test.true c.stmt-item.is c.declared_by.result.now c.declared_by.ensures c.loop-stmt.all.items c.add_objects.new.all.items c.loop-stmt.numbers.items c.add_objects.new.numbers.items _ c.in_ok-add_objects.ensures.objects c.in_ok-add_objects.ensures.numbers c.loop-stmt.invariant.numbers;
    }
