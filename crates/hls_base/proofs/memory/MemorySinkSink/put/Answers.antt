use Rattle.std.proofs.Common.{◌/◌, length, rules}
use Rattle.hls_base.proofs.memory.MemorySinkSink.put.Goals as goal

pub returns-then-fault-2-clause-prefix : goal.returns-then-fault-2-clause-prefix
returns-then-fault-2-clause-prefix c = (length c.args.bytes.now / 2, search rules)
