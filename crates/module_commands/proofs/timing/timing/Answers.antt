use Rattle.verilog_read.specs.TextFaults.{IsFirstFault}
use Rattle.module_commands.specs.Outcomes.{IsTiming}
use Rattle.module_commands.proofs.Settling.{settled_is}
use Rattle.module_commands.proofs.timing.timing.Goals as goal

pub returns-clause-outcome : goal.returns-clause-outcome
returns-clause-outcome c =
    let text = c.args.text.now in
    let work = c.longest_path.ensures in
    settled_is c.longest_path.result c.settled.result (IsTiming text) (IsFirstFault text) work.done work.refused (λ r o fault is. IsTiming.refused r fault is) c.settled.ensures
