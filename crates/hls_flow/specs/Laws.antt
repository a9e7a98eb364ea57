-- Of each source it is one thing: that it is accepted, or that it has a first fault.
use Rattle.std.specs.Prelude.{ℕ, List}
use Rattle.hls_base.specs.declared.refusal.Refusal.{Refusal}
use Rattle.hls_flow.specs.FirstFault.{IsAccepted, IsFirstFault}

abbrev pub AcceptedHasNoFault : Type 0
AcceptedHasNoFault = (source top : List ℕ) (fault : Refusal) → IsAccepted source top → ¬ IsFirstFault source top fault
