use Rattle.std.proofs.Common.{sym, subst}
use Rattle.std.specs.Prelude.{IfOk}
use Rattle.std.proofs.lemmas.Result.{IfOk-weaker}
use Rattle.datapath.specs.Cycles.{Cycle, Variable}
use Rattle.datapath.specs.Reading as reading
use Rattle.circuit_context.specs.Wanted.Logs.{CarriesSome}
use Rattle.circuit_context.proofs.Telling.{register_some}
use Rattle.circuit_context.proofs.Chains.{constant_read}
use Rattle.circuit_context.proofs.context.Context.read_from.Goals as goal

pub returns-in-Constant : goal.returns-in-Constant
returns-in-Constant c = λ p names d h begun.
    subst (λ s. IfOk c.number.result (λ a. CarriesSome p names d a (λ (x : Cycle). reading.read_from x s))) (sym c.in-Constant.is)
    (constant_read p names d c.args.bits c.in-Constant.value c.number.result c.number.ensures.is c.number.ensures.between c.number.ensures.fits)

pub returns-in-Variable : goal.returns-in-Variable
returns-in-Variable c = λ p names d h begun.
    subst (λ s. IfOk c.register.result (λ a. CarriesSome p names d a (λ (x : Cycle). reading.read_from x s))) (sym c.in-Variable.is)
    (IfOk-weaker c.register.result _ _ (λ a is. register_some p names d a (Variable c.in-Variable.variable.0) begun is) (c.register.ensures p names h))

pub returns-in-Result : goal.returns-in-Result
returns-in-Result c = λ p names d h begun.
    subst (λ s. IfOk c.number-in-Result.result (λ a. CarriesSome p names d a (λ (x : Cycle). reading.read_from x s))) (sym c.in-Result.is)
    (constant_read p names d c.args.bits 0 c.number-in-Result.result c.number-in-Result.ensures.is c.number-in-Result.ensures.between c.number-in-Result.ensures.fits)
