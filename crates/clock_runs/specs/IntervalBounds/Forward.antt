-- Rules of a loop that go forward within an iteration.
use Rattle.std.specs.Prelude.{◌≡◌, ℕ, ◌<◌, List}
use Rattle.std.specs.List.{All}
use Rattle.dep_graph.specs.declared.edge.Edge.{Edge}

-- a rule within one iteration leads to a node of greater rank
abbrev pub LeadsForward : (ℕ → ℕ) → Edge → Type 0
LeadsForward rank rule = rule.distance ≡ 0 → rank rule.from < rank rule.to

-- by ranks of the nodes, of which the beginning of the iteration has the least, each rule leads forward
pub record GoForwardBy (rank : ℕ → ℕ) (rules : List Edge) : Type 0 where
  pub first : rank 0 ≡ 0
  pub forward : All (LeadsForward rank) rules

-- rules go forward if there are such ranks
abbrev pub GoForward : List Edge → Type 0
GoForward rules = (rank : ℕ → ℕ) × GoForwardBy rank rules

-- the nodes that rules name are below this number
abbrev pub NameNodesBelow : ℕ → List Edge → Type 0
NameNodesBelow nodes rules = All (λ (rule : Edge). (rule.from < nodes) × (rule.to < nodes)) rules
