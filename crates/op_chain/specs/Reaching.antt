-- What it means for a source to reach a subscript.
use Rattle.std.specs.Prelude.{◌≡◌, ◌⊎◌, ◌<◌, ℕ, true, List, [], ◌∷◌, slice_get, Some}
use Rattle.std.specs.List.{list_any}
use Rattle.ir_core.specs.declared.body.Operand.{Operand}
use Rattle.ir_core.specs.declared.body.Out.{Out}
use Rattle.ir_core.specs.declared.body.Source.{Source}
use Rattle.ir_core.specs.declared.body.Source.TheVariants as source
use Rattle.ir_core.specs.Bodies.{OpTree}
use Rattle.ir_layout.specs.Nodes.{NodeTree}
use Rattle.op_chain.specs.Forward.{NodesForward}
use Rattle.op_chain.specs.Reads.{is_result, is_variable}
use Rattle.op_chain.specs.Subscripts.{subscripts_of, body_in, body_hands, reaching}

-- one of these operands is this source
abbrev pub IsAmong : Source → List Operand → Type 0
IsAmong s [] = ⊥
IsAmong s (x ∷ xs) = (x.value ≡ s) ⊎ IsAmong s xs

-- A source of a node's body reaches a subscript if it is one, or if it is an argument of an operation whose result reaches one, or the value of an out whose variable reaches one from some node's body.
pub data ReachesSubscript (nodes : List NodeTree) : NodeTree → Source → Type 0 where
  directly : (node : NodeTree) (s : Source) (n : ℕ) (op : OpTree) → slice_get (body_in node).ops n ≡ Some op → IsAmong s (subscripts_of op) → ReachesSubscript nodes node s
  through_operation : (node : NodeTree) (s : Source) (n : ℕ) (op : OpTree) → slice_get (body_in node).ops n ≡ Some op → IsAmong s op.args → ReachesSubscript nodes node (source.Result (record { 0 = n })) → ReachesSubscript nodes node s
  through_variable : (node : NodeTree) (s : Source) (k i : ℕ) (out : Out) (other : NodeTree) → slice_get (body_in node).outs k ≡ Some out → out.value.value ≡ s → slice_get nodes i ≡ Some other
      → ReachesSubscript nodes other (source.Variable out.variable) → ReachesSubscript nodes node s

-- the outs set only the first variables, this many
abbrev pub OutsThere : ℕ → List Out → Type 0
OutsThere variables [] = Unit {0}
OutsThere variables (x ∷ xs) = (x.variable.0 < variables) × OutsThere variables xs

abbrev pub NodesThere : ℕ → List NodeTree → Type 0
NodesThere variables [] = Unit {0}
NodesThere variables (node ∷ nodes) = OutsThere variables (body_in node).outs × NodesThere variables nodes

-- What is computed for a node is exactly what reaches a subscript.
pub record IsReaching (variables : ℕ) (nodes : List NodeTree) (node : NodeTree) : Type 0 where
  pub result_reaches : (u : ℕ) → list_any (is_result u) (body_hands (reaching variables nodes) (body_in node)) ≡ true → ReachesSubscript nodes node (source.Result (record { 0 = u }))
  pub result_is_found : (u : ℕ) → ReachesSubscript nodes node (source.Result (record { 0 = u })) → list_any (is_result u) (body_hands (reaching variables nodes) (body_in node)) ≡ true
  pub variable_reaches : (v : ℕ) → list_any (is_variable v) (body_hands (reaching variables nodes) (body_in node)) ≡ true → ReachesSubscript nodes node (source.Variable (record { 0 = v }))
  pub variable_is_found : (v : ℕ) → ReachesSubscript nodes node (source.Variable (record { 0 = v })) → list_any (is_variable v) (body_hands (reaching variables nodes) (body_in node)) ≡ true

abbrev pub ReachingIsReached : Type 0
ReachingIsReached = (variables : ℕ) (nodes : List NodeTree) → NodesForward nodes → NodesThere variables nodes → (i : ℕ) (node : NodeTree) → slice_get nodes i ≡ Some node → IsReaching variables nodes node
