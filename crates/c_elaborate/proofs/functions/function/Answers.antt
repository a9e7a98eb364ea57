use Rattle.std.proofs.Common.{length, map}
use Rattle.c_tree.specs.View.{stmts_of, param_of}
use Rattle.c_meaning.specs.Store.{declared_in}
use Rattle.c_elaborate.specs.Programs.{objects_of_params}
use Rattle.c_elaborate.proofs.Parts.{left_function}
use Rattle.c_elaborate.proofs.functions.function.Goals as goal

pub returns-clause-scene : goal.returns-clause-scene
returns-clause-scene c =
    left_function c.args.scene.now c.enter_params.new.scene c.open_block.new.scene c.leave.new.self c.mark-mark.result (objects_of_params (map param_of c.deref.result.now)) (declared_in (stmts_of c.args.body.now)) (length c.enter_params.new.objects.items)
    c.leave.ensures c.in_ok-block.ensures.scene c.in_ok-enter_params.ensures.scene c.mark-mark.ensures.names c.mark-mark.ensures.next c.mark-mark.ensures.labels
