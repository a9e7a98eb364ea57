use Rattle.std.proofs.Common.{None}
use Rattle.chain_link.proofs.Linked.{is_linked, without_memories}
use Rattle.chain_link.proofs.chain.link.Goals as goal

pub linked-requires-clause-none : goal.linked-requires-clause-none
linked-requires-clause-none c = without_memories None c.args.stages.now (c.fault.ensures.none c.in_default.is)

pub returns-clause-linked : goal.returns-clause-linked
returns-clause-linked c = is_linked c.args.depth c.args.stages.now _ c.requires.valid (c.fault.ensures.few c.in_default.is) (c.fault.ensures.none c.in_default.is) c.in_ok-design.ensures
