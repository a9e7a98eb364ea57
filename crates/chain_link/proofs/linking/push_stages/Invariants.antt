use Rattle.std.proofs.Common.{◌≡◌, ◌++◌, map, drop}
use Rattle.rtl_core.specs.Netlist.{netlist_of, memory_of}
use Rattle.chain_box.specs.StageEmbedding.Placing.{wires_of, registers_of, memories_of}
use Rattle.chain_link.specs.Linking.{chain_parts, owned_parts, last_queue}
use Rattle.chain_link.specs.Bounds.{IsWithin}
use Rattle.chain_link.proofs.linking.push_stages.Given as goal

abbrev pub invariant-loop-stage : goal.invariant-loop-stage
invariant-loop-stage l = record {
  within : IsWithin l.stage-index l.joint.sizes l.joint.queue;
  depth : l.joint.depth ≡ l.fn.first.depth;
  log : l.joint.log ≡ l.fn.first.log;
  queue : last_queue l.joint.sizes l.joint.queue (map netlist_of (drop l.stage-index l.stages)) ≡ last_queue l.fn.first.sizes l.fn.first.queue (map netlist_of l.stages);
  wires : l.content.wires.items ++ wires_of (chain_parts l.fn.first.depth l.fn.first.log l.joint.sizes l.joint.queue (map netlist_of (drop l.stage-index l.stages)))
      ≡ l.initial.content.wires.items ++ wires_of (chain_parts l.fn.first.depth l.fn.first.log l.fn.first.sizes l.fn.first.queue (map netlist_of l.stages));
  regs : l.content.regs.items ++ registers_of (owned_parts l.fn.first.log l.joint.sizes l.joint.queue (map netlist_of (drop l.stage-index l.stages)))
      ≡ l.initial.content.regs.items ++ registers_of (owned_parts l.fn.first.log l.fn.first.sizes l.fn.first.queue (map netlist_of l.stages));
  mems : map memory_of l.content.mems.items ++ memories_of (owned_parts l.fn.first.log l.joint.sizes l.joint.queue (map netlist_of (drop l.stage-index l.stages)))
      ≡ map memory_of l.initial.content.mems.items ++ memories_of (owned_parts l.fn.first.log l.fn.first.sizes l.fn.first.queue (map netlist_of l.stages));
}
