-- Rules that follow one another, by their positions.
use Rattle.std.specs.Prelude.{◌≡◌, ℕ, ◌+◌, ◌<◌, ◌⊎◌, List, [], ◌∷◌, length, slice_index_or}
use Rattle.std.specs.List.{All, Contains}
use Rattle.dep_graph.specs.declared.edge.Edge.{Edge}
use Rattle.dep_graph.specs.declared.edge.Why.TheVariants as w
use Rattle.modulo_loop.specs.Lowest.{IsStart, Follows, total_latency, total_distance}

abbrev pub no_rule : Edge
no_rule = record { from = 0; to = 0; latency = 0; distance = 0; why = w.Data }

abbrev pub rule_at : List Edge → ℕ → Edge
rule_at rules p = slice_index_or rules p no_rule

-- each rule begins where the one before it ends, or at any node where that is node 0
abbrev pub RulesLead : List Edge → ℕ → List ℕ → ℕ → Type 0
RulesLead rules a [] b = a ≡ b
RulesLead rules a (p ∷ ps) b =
    (p < length rules) × (((rule_at rules p).from ≡ a) ⊎ (a ≡ 0)) × RulesLead rules (rule_at rules p).to ps b

abbrev pub IsRoundTrip : List Edge → List ℕ → Type 0
IsRoundTrip rules ps = (a : ℕ) × RulesLead rules a ps a

abbrev pub latency_along : List Edge → List ℕ → ℕ
latency_along rules [] = 0
latency_along rules (p ∷ ps) = (rule_at rules p).latency + latency_along rules ps

abbrev pub distance_along : List Edge → List ℕ → ℕ
distance_along rules [] = 0
distance_along rules (p ∷ ps) = (rule_at rules p).distance + distance_along rules ps

abbrev pub AreKnown : List Edge → List Edge → Type 0
AreKnown rules cycle = All (λ e. Contains rules e ⊎ IsStart e) cycle

-- edges that have come to a node, and then go on by a rule
pub record Joins (at : ℕ) (rule : Edge) (old new : List Edge) : Type 0 where
  pub follows : (a : ℕ) → Follows a old at → ((rule.from ≡ at) ⊎ (at ≡ 0)) → Follows a new rule.to
  pub known : (rules : List Edge) → AreKnown rules old → Contains rules rule → AreKnown rules new
  pub latency : total_latency new ≡ total_latency old + rule.latency
  pub distance : total_distance new ≡ total_distance old + rule.distance

-- edges that go where the rules at these positions go, back to where they begin
pub record IsCycleAlong (rules : List Edge) (ps : List ℕ) (cycle : List Edge) : Type 0 where
  pub known : AreKnown rules cycle
  pub closed : (a : ℕ) × Follows a cycle a
  pub latency : total_latency cycle ≡ latency_along rules ps
  pub distance : total_distance cycle ≡ distance_along rules ps
