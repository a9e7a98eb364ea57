use Rattle.std.proofs.Common.{◌≡◌, ◌-◌, ℕ, suc, IfOk, sym, subst, arith}
use Rattle.datapath.specs.Cycles.{Cycle}
use Rattle.datapath.specs.Values as values
use Rattle.circuit_context.specs.Wanted.Logs.{CarriesSome}
use Rattle.fsm_datapath.proofs.places.moved.Goals as goal

pub returns-then-held-eq0 : goal.returns-then-held-eq0
returns-then-held-eq0 c = λ p names d h begun computed answers.
    subst (λ (j : ℕ). IfOk c.arriving.result (λ a. CarriesSome p names d a (λ (x : Cycle). values.moved p x c.args.held j))) (sym c.if-held-eq0.true) (c.arriving.ensures p names d h begun computed answers)

pub returns-else-held-eq0 : goal.returns-else-held-eq0
returns-else-held-eq0 c = λ p names d h begun computed answers.
    let next : suc (c.args.held.place - 1) ≡ c.args.held.place = omega (arith, c.if-held-eq0.false) in
    subst (λ (j : ℕ). IfOk c.result_at.result (λ a. CarriesSome p names d a (λ (x : Cycle). values.moved p x c.args.held j))) next (c.result_at.ensures p names d h begun)
