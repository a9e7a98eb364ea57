use Rattle.std.proofs.Common.{◌∙◌, ◌≤◌, ◌+◌, ◌-◌, ◌*◌, ◌^◌, ap, arith}
use Rattle.std.proofs.lemmas.Nat.{mul-le}
use Rattle.datapath.specs.Values.{arrival}
use Rattle.fsm_datapath.proofs.places.place_arrival.Goals as goal

pub overflow_add-result : goal.overflow_add-result
overflow_add-result c =
    let product : c.saturating_sub-places.result * c.interval.result ≤ (2 ^ 32 - 1) * (2 ^ 32 - 1) = mul-le c.saturating_sub-places.result c.interval.result (2 ^ 32 - 1) (2 ^ 32 - 1) (omega arith) (omega arith) in
    omega (arith, product, c.arrival-first.ensures.early)

pub returns : goal.returns
returns c = λ p names h.
    ap (λ t. t + c.saturating_sub-places.result * c.interval.result) (c.arrival-first.ensures.arrival p names h)
    ∙ (ap (λ s. arrival p c.args.held + s * c.interval.result) c.saturating_sub-places.ensures
    ∙ ap (λ n. arrival p c.args.held + (c.args.held.place - c.args.entries) * n) (c.interval.ensures p names h))
