use Rattle.std.proofs.Common.{◌≡◌, ◌++◌, true, map}
use Rattle.ir_core.specs.Bodies.{op_of}
use Rattle.passes.specs.Numbering.{numbered_ops, nothing}
use Rattle.value_number.specs.Settled.{all_settled}
use Rattle.value_number.specs.Views.{Shows, scope_of}
use Rattle.value_number.proofs.block.number_ops.Given as goal

abbrev pub invariant-loop-op : goal.invariant-loop-op
invariant-loop-op l = record {
  settled : all_settled l.numbering.ops.items ≡ true;
  rest : l.yielded ++ l.op-iterator.rest.items ≡ l.fn.ops.items;
  shows : Shows l.numbering (numbered_ops (scope_of l.scope) l.outs nothing (map op_of l.yielded));
}
