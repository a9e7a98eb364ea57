-- What is refused has no graph, or cannot be linked; and the outcomes of refusals.
use Rattle.std.proofs.Common.{◌≡◌, ◌⊎◌, inl, inr, ℕ, suc, ◌<◌, ◌≤◌, List, [], ◌∷◌, Option, Some, None, arith}
use Rattle.hls_base.specs.declared.refusal.Refusal.{Refusal}
use Rattle.rtl_core.specs.Netlist.{Netlist}
use Rattle.aig_blast.specs.Weight.{bit_limit, bit_count, weight_limit, weight, IsBlastFault, IsSmall}
use Rattle.chain_link.specs.Linking.{result_bits}
use Rattle.chain_link.specs.Faults.{AreFew, AreStages, IsStage, IsStageFault, IsFirstFault, IsLinkFault}
use Rattle.module_commands.specs.declared.outcome.Outcome.{Outcome}
use Rattle.module_commands.specs.Outcomes.{IsRefusal, IsBlast, IsBlastRefusal, IsLink, IsLinkRefusal}

above : (a b : ℕ) → a < b → b ≤ a → ⊥
above a b lt le = omega arith

too_large : (d : Netlist) (r : Refusal) → ((bit_limit < bit_count d) × (r.rule ≡ 70)) ⊎ ((bit_count d ≤ bit_limit) × (weight_limit < weight d) × (r.rule ≡ 72)) → IsSmall d → ⊥
too_large d r (inl h) small = above bit_limit (bit_count d) h.0 small.0
too_large d r (inr h) small = above weight_limit (weight d) h.1 small.1

pub not_small : (d : Netlist) (r : Refusal) → IsBlastFault d r → IsSmall d → ⊥
not_small d r fault small = too_large d r fault.1 small

not_stage : (before : Option ℕ) (d : Netlist) (rule : ℕ) → IsStageFault before d rule → IsStage before d → ⊥
not_stage before d rule (inl h) is = h.0 is.pins
not_stage before d rule (inr (inl h)) is = h.1 is.mems
not_stage before d rule (inr (inr h)) is = h.2 is.joins

not_stages : (k : ℕ) (before : Option ℕ) (ds : List Netlist) (r : Refusal) → IsFirstFault k before ds r → AreStages before ds → ⊥
not_stages k before [] r fault are = fault
not_stages k before (d ∷ ds) r (inl h) are = not_stage before d r.rule h.0 are.0
not_stages k before (d ∷ ds) r (inr h) are = not_stages (suc k) (Some (result_bits d)) ds r h.1 are.1

pub not_linkable : (ds : List Netlist) (r : Refusal) → IsLinkFault ds r → AreFew ds → AreStages None ds → ⊥
not_linkable ds r (inl h) few are = h.0 few
not_linkable ds r (inr h) few are = not_stages 1 None ds r h.1 are

pub blast_refused : (text : List ℕ) (r : Refusal) (o : Outcome) → IsBlastRefusal text r → IsRefusal r o → IsBlast text o
blast_refused text r o (inl fault) is = IsBlast.refused r fault is
blast_refused text r o (inr large) is = IsBlast.too_large large.0 r large.1 large.2 is

pub link_refused : (texts : List (List ℕ)) (depth : ℕ) (r : Refusal) (o : Outcome) → IsLinkRefusal texts r → IsRefusal r o → IsLink texts depth o
link_refused texts depth r o (inl fault) is = IsLink.refused r fault is
link_refused texts depth r o (inr unlinked) is = IsLink.unlinked unlinked.0 r unlinked.1 unlinked.2 is
