use Rattle.circuit_context.proofs.BankLemmas.Naming.{added}
use Rattle.circuit_context.proofs.bank.bank.add.Goals as goal

pub returns-then-branch-clause-distinct : goal.returns-then-branch-clause-distinct
returns-then-branch-clause-distinct c = added c.args.roles.now.keys c.insert.new.self.keys c.args.role c.in_ok-insert.field-0 c.if-branch.true c.in_ok-insert.ensures.added c.in_ok-insert.ensures.keys
