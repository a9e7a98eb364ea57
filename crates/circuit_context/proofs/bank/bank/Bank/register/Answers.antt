use Rattle.std.proofs.Common.{refl, sym}
use Rattle.circuit_context.proofs.BankLemmas.Naming.{found}
use Rattle.circuit_context.proofs.bank.bank.Bank.register.Goals as goal

pub returns-in-Some : goal.returns-in-Some
returns-in-Some c = record { number = c.in-Some.number; is = refl; named = found c.args.self.now.roles.keys c.args.role c.in-Some.number (sym c.in-Some.ensures.index) }
