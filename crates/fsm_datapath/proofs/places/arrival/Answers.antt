use Rattle.std.proofs.Common.{◌∙◌, ◌-◌, ap}
use Rattle.fsm_datapath.proofs.places.arrival.Goals as goal

pub returns-clause-arrival : goal.returns-clause-arrival
returns-clause-arrival c = λ p names h. c.saturating_sub.ensures ∙ ap (λ t. t - 1) (c.there_at.ensures.ready p names h)
