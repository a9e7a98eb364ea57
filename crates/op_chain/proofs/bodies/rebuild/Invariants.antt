use Rattle.std.proofs.Common.{◌≡◌, ◌≤◌, length, map, drop}
use Rattle.ir_core.specs.Bodies.{op_of}
use Rattle.op_chain.specs.Fusing.{in_front, made, made_by}
use Rattle.op_chain.specs.Views.{IsCompact}
use Rattle.op_chain.proofs.bodies.rebuild.Given as goal

abbrev pub invariant-loop-index : goal.invariant-loop-index
invariant-loop-index l = record {
  count : length l.rebuilt.now.items ≡ l.index;
  compact : IsCompact l.rebuilt.now.items;
  below : length l.rebuilt.ops.items ≤ l.index;
  made : in_front (map op_of l.rebuilt.ops.items) (made (map op_of l.ops) l.choices (length l.rebuilt.ops.items) l.rebuilt.now.items (map op_of (drop l.index l.ops))) ≡ made_by (map op_of l.ops) l.choices;
}
