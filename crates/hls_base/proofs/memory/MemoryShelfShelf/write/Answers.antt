use Rattle.std.proofs.Common.{◌/◌, length, rules}
use Rattle.hls_base.proofs.FileLists.{is_written, is_cut_short, distinct_with_file}
use Rattle.hls_base.proofs.memory.MemoryShelfShelf.write.Goals as goal

pub returns-then-fault-2-clause-cut_short : goal.returns-then-fault-2-clause-cut_short
returns-then-fault-2-clause-cut_short c =
    is_cut_short c.args.self.now.files c.set_file.new.files.items c.args.name.now c.args.bytes.now (length c.args.bytes.now / 2) (search rules)

pub returns-clause-written : goal.returns-clause-written
returns-clause-written c =
    is_written c.args.self.now.files c.set_file.new.files.items c.args.name.now c.args.bytes.now (search rules)

pub invariant_of-self-then-fault-2 : goal.invariant_of-self-then-fault-2
invariant_of-self-then-fault-2 c = rw c.in_ok-set_file.ensures.ok (distinct_with_file _ _ _ c.self.invariant)

pub invariant_of-self-2 : goal.invariant_of-self-2
invariant_of-self-2 c = rw c.in_ok-set_file.ensures.ok (distinct_with_file _ _ _ c.self.invariant)
