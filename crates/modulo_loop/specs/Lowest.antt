-- Cycles of rules that an interval cannot meet, and what the least interval and the least exit of a loop are.
use Rattle.std.specs.Prelude.{◌≡◌, ℕ, ◌+◌, ◌-◌, ◌*◌, ◌^◌, ◌<◌, ◌≤◌, ◌⊎◌, true, List, [], ◌∷◌, length, slice_index, slice_get, Option, None, Some, Vec}
use Rattle.std.specs.declared.alloc.Global.{Global}
use Rattle.std.specs.List.{All, Contains, sum_by}
use Rattle.ir_core.specs.declared.body.Op.{Op}
use Rattle.ir_core.specs.declared.body.Out.{Out}
use Rattle.ir_core.specs.declared.body.Body.{Body}
use Rattle.ir_core.specs.declared.cfg.Loop.{Loop}
use Rattle.ir_core.specs.declared.stamp.Untimed.{Untimed}
use Rattle.hls_base.specs.declared.number.OpId.{OpId}
use Rattle.dep_graph.specs.declared.edge.Edge.{Edge}
use Rattle.dep_graph.specs.declared.edge.Why.TheVariants as w
use Rattle.unit_binding.specs.declared.binding.Binding.{Binding}
use Rattle.diff_solve.specs.Times.{Solves, IsBelowAll}
use Rattle.unit_binding.specs.Copies.{IsTimedBody}
use Rattle.modulo_loop.specs.declared.pipeline.Pipelined.{Pipelined}
use Rattle.modulo_loop.specs.Rules.{loop_rules, constraints_at, latency_of}
use Rattle.dep_graph.specs.Meetings.{is_store}
use Rattle.dep_graph.specs.Offsets.{result_of}
use Rattle.dep_graph.specs.Dependences.{test_maker}

-- from the beginning of an iteration an edge leads to each node
abbrev pub IsStart : Edge → Type 0
IsStart edge = (edge.from ≡ 0) × (edge.latency ≡ 0) × (edge.distance ≡ 0) × (edge.why ≡ w.Start)

-- each edge begins where the one before it ends
abbrev pub Follows : ℕ → List Edge → ℕ → Type 0
Follows a [] b = a ≡ b
Follows a (edge ∷ edges) b = (edge.from ≡ a) × Follows edge.to edges b

abbrev pub total_latency : List Edge → ℕ
total_latency edges = sum_by (λ e. e.latency) edges

abbrev pub total_distance : List Edge → ℕ
total_distance edges = sum_by (λ e. e.distance) edges

-- rules that lead back to where they begin, and ask for more than the interval gives
pub record IsTooTight (rules : List Edge) (ii : ℕ) (cycle : List Edge) : Type 0 where
  pub known : All (λ e. Contains rules e ⊎ IsStart e) cycle
  pub closed : (a : ℕ) × Follows a cycle a
  pub positive : ii * total_distance cycle < total_latency cycle

-- the times of the least solution at an interval
pub record AreTimesAt (nodes : ℕ) (rules : List Edge) (ii : ℕ) (times : List ℕ) : Type 0 where
  pub solves : Solves nodes (constraints_at ii rules) times
  pub least : IsBelowAll nodes (constraints_at ii rules) times
  pub early : All (λ t. t < 2 ^ 32) times

-- at interval 1 there is no cycle, and above it one that is too tight for an interval one less
abbrev pub IsLowest : List Edge → ℕ → Option (List Edge) → Type 0
IsLowest rules ii None = ii ≡ 1
IsLowest rules ii (Some cycle) = (1 < ii) × IsTooTight rules (ii - 1) cycle

-- the time at which a result is there, where operation k starts at the time of node k + 1
abbrev pub ready : List (Op Untimed) → List ℕ → OpId → ℕ
ready ops times op = slice_index times (op.0 + 1) + latency_of ops op

abbrev pub known_at : List (Op Untimed) → List ℕ → Option OpId → ℕ
known_at ops times None = 0
known_at ops times (Some op) = ready ops times op

-- each store has changed its word when an iteration is left that long after the next one began
abbrev pub StoresAreDone : List (Op Untimed) → List ℕ → ℕ → ℕ → Type 0
StoresAreDone ops times ii exit =
    (k : ℕ) (op : Op Untimed) → slice_get ops k ≡ Some op → is_store op.kind ≡ true → slice_index times (k + 1) + 1 ≤ exit + ii

abbrev pub IsReadyBy : ℕ → List (Op Untimed) → List ℕ → Option OpId → Type 0
IsReadyBy time ops times None = Unit {0}
IsReadyBy time ops times (Some op) = ready ops times op ≤ time

-- each value that a variable takes over is there
abbrev pub OutsAreReady : List (Op Untimed) → List Out → List ℕ → ℕ → ℕ → Type 0
OutsAreReady ops outs times ii exit = All (λ out. IsReadyBy (exit + ii) ops times (result_of out.value.value)) outs

-- a loop can be left at this time, counted from the beginning of the iteration whose test fails
pub record CanLeave (body : Body Untimed) (times : List ℕ) (ii exit : ℕ) : Type 0 where
  pub test : known_at body.ops.items times (test_maker body.test) ≤ exit
  pub stores : StoresAreDone body.ops.items times ii exit
  pub outs : OutsAreReady body.ops.items body.outs.items times ii exit

abbrev pub edges_of : Option (Vec Edge Global) → Option (List Edge)
edges_of None = None
edges_of (Some cycle) = Some cycle.items

-- the loop with the least times at the least interval, and with the least exit
pub record IsPipelined (region : Loop Untimed) (edges : List Edge) (binding : Binding) (made : Pipelined) (times : List ℕ) : Type 0 where
  pub positive : 1 ≤ made.region.ii
  pub solved : AreTimesAt (length region.body.ops.items + 1) (loop_rules region.body edges binding.orders.items) made.region.ii times
  pub lowest : IsLowest (loop_rules region.body edges binding.orders.items) made.region.ii (edges_of made.lower)
  pub body : IsTimedBody times binding.unit_of.items region.body made.region.body
  pub can_leave : CanLeave region.body times made.region.ii made.region.exit
  pub no_sooner : (exit : ℕ) → CanLeave region.body times made.region.ii exit → made.region.exit ≤ exit
  pub point : made.region.point ≡ region.point
  pub next : made.region.next ≡ region.next

abbrev pub HasLeastInterval : Loop Untimed → List Edge → Binding → Pipelined → Type 0
HasLeastInterval region edges binding made = (times : List ℕ) × IsPipelined region edges binding made times
