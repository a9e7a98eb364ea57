-- And-inverter graphs: the values of literals, and one step, in which each gate is the and of its two literals, the outputs are read, and then all latches take their next literals together.
use Rattle.std.specs.Prelude.{ℕ, suc, ◌+◌, ◌*◌, ◌/◌, ◌%◌, ◌<◌, ◌≤◌, ◌==◌, Bool, false, not, ◌&&◌, List, [], ◌∷◌, ◌++◌, map, length, slice_index_or, if◌then◌else◌}
use Rattle.std.specs.List.{All}
use Rattle.aig_graph.specs.declared.aig.Gate.{Gate}
use Rattle.aig_graph.specs.declared.aig.Aig.{Aig}

-- a graph without where it lies in memory
pub record AndGraph : Type 0 where
  pub inputs : ℕ
  pub latches : List ℕ
  pub outputs : List ℕ
  pub ands : List Gate

abbrev pub graph_of : Aig → AndGraph
graph_of g = record { inputs = g.inputs; latches = g.latches.items; outputs = g.outputs.items; ands = g.ands.items }

-- ---- values

-- the value of a literal, from the values of the variables, of which number 0 is false
abbrev pub literal : List Bool → ℕ → Bool
literal w l = if l % 2 == 1 then not (slice_index_or w (l / 2) false) else slice_index_or w (l / 2) false

abbrev pub gate_value : List Bool → Gate → Bool
gate_value w g = literal w g.left && literal w g.right

-- the values of the variables before, and then those of the gates in order
abbrev pub values : List Bool → List Gate → List Bool
values w [] = w
values w (g ∷ gs) = values (w ++ gate_value w g ∷ []) gs

-- ---- validity

-- the gates from variable n on name only variables below their own
abbrev pub Ordered : ℕ → List Gate → Type 0
Ordered n [] = Unit {0}
Ordered n (g ∷ gs) = (g.left < 2 * n) × (g.right < 2 * n) × Ordered (suc n) gs

-- the number of variables that are not constant
abbrev pub variable_count : AndGraph → ℕ
variable_count g = g.inputs + length g.latches + length g.ands

-- the literal is one of a variable of the graph, or a constant
abbrev pub IsLiteralOf : AndGraph → ℕ → Type 0
IsLiteralOf g l = l < 2 * suc (variable_count g)

pub record IsValid (g : AndGraph) : Type 0 where
  pub latches : All (IsLiteralOf g) g.latches
  pub outputs : All (IsLiteralOf g) g.outputs
  pub ands : Ordered (suc (g.inputs + length g.latches)) g.ands
  pub few : variable_count g ≤ 2147483647

-- ---- the step

-- the values of all variables, from the bits of the latches and of the inputs
abbrev pub variables : AndGraph → List Bool → List Bool → List Bool
variables g latches inputs = values (false ∷ inputs ++ latches) g.ands

abbrev pub graph_outputs : AndGraph → List Bool → List Bool → List Bool
graph_outputs g latches inputs = map (literal (variables g latches inputs)) g.outputs

abbrev pub next_latches : AndGraph → List Bool → List Bool → List Bool
next_latches g latches inputs = map (literal (variables g latches inputs)) g.latches

-- the outputs in each cycle, from the bits of the latches in the first and of the inputs in each
abbrev pub graph_run : AndGraph → List Bool → List (List Bool) → List (List Bool)
graph_run g latches [] = []
graph_run g latches (inputs ∷ rest) = graph_outputs g latches inputs ∷ graph_run g (next_latches g latches inputs) rest
