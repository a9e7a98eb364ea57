use Rattle.std.proofs.Common.{◌≡◌, [], length, map, drop}
use Rattle.ir_core.specs.Bodies.{op_of}
use Rattle.op_chain.specs.Fusing.{chosen}
use Rattle.op_chain.specs.Pairs.{Scope}
use Rattle.op_chain.specs.Views.{ShowsScope}
use Rattle.op_chain.proofs.choices.choose.Given as goal

abbrev pub invariant-loop-op : goal.invariant-loop-op
invariant-loop-op l = record {
  count : length l.choices.items ≡ l._op-index;
  chosen : (s : Scope) → ShowsScope l.scope s (length l.ops) → chosen s (map op_of l.ops) l.choices.items (map op_of (drop l._op-index l.ops)) ≡ chosen s (map op_of l.ops) [] (map op_of l.ops);
}
