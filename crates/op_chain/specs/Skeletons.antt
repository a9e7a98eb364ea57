-- What fusing leaves as it is.
use Rattle.std.specs.Prelude.{◌≡◌, ℕ, ◌≤◌, Bool, true, false, List, [], ◌∷◌, length, map, slice_get, Option, Some}
use Rattle.std.specs.List.{list_all}
use Rattle.std.specs.Option.{option_map}
use Rattle.hls_base.specs.declared.number.VarId.{VarId}
use Rattle.hls_base.specs.declared.point.Point.{Point}
use Rattle.ir_core.specs.declared.body.Operand.{Operand}
use Rattle.ir_core.specs.declared.body.Out.{Out}
use Rattle.ir_core.specs.Trees.{BodyTree}
use Rattle.ir_layout.specs.Nodes.{EndTree, jumps, branches, chooses, returns, NodeTree, plain, looped}
use Rattle.op_chain.specs.Reads.{ops_operands}
use Rattle.op_chain.specs.Subscripts.{body_in}
use Rattle.op_chain.specs.Fusing.{moved, fused_nodes}

-- the nodes to which a block leads
abbrev pub targets : EndTree → List ℕ
targets (jumps node) = node ∷ []
targets (branches test yes_ no_) = yes_ ∷ no_ ∷ []
targets (chooses cases other) = other ∷ map (λ (c : Operand × ℕ). c.1) cases
targets (returns value) = []

-- A node without its operations: its point, whether it is a loop, where it leads, the variables that it sets, and how many iterations back the values of its outs and its test are.
pub record Skeleton : Type 0 where
  pub point : Point
  pub loop : Bool
  pub targets : List ℕ
  pub variables : List VarId
  pub distances : List ℕ
  pub test : Option ℕ

abbrev pub skeleton_with : Point → Bool → List ℕ → BodyTree → Skeleton
skeleton_with point loop leads b =
    record { point = point; loop = loop; targets = leads; variables = map (λ (x : Out). x.variable) b.outs; distances = map (λ (x : Out). x.value.distance) b.outs; test = option_map (λ (x : Operand). x.distance) b.test }

abbrev pub skeleton : NodeTree → Skeleton
skeleton (plain point body end_) = skeleton_with point false (targets end_) body
skeleton (looped point body next) = skeleton_with point true (next ∷ []) body

abbrev pub FusingKeepsSkeletons : Type 0
FusingKeepsSkeletons = (period variables : ℕ) (nodes : List NodeTree) → map skeleton (fused_nodes period variables nodes) ≡ map skeleton nodes

-- No node has more operations than before.
abbrev pub FusingAddsNone : Type 0
FusingAddsNone = (period variables : ℕ) (nodes : List NodeTree) (i : ℕ) (old new : NodeTree) → slice_get nodes i ≡ Some old → slice_get (fused_nodes period variables nodes) i ≡ Some new → length (body_in new).ops ≤ length (body_in old).ops

-- these operations read only operands that pass a test
abbrev pub AllPass : (Operand → Bool) → List NodeTree → Type 0
AllPass passes nodes = list_all (λ (node : NodeTree). list_all passes (ops_operands (body_in node).ops)) nodes ≡ true

-- What passes a test, whatever the operations' numbers are, passes it behind fusing too: all operands of the new operations are operands of old ones.
abbrev pub FusingKeepsOperands : Type 0
FusingKeepsOperands = (passes : Operand → Bool) → ((now : List ℕ) (x : Operand) → passes x ≡ true → passes (moved now x) ≡ true)
    → (period variables : ℕ) (nodes : List NodeTree) → AllPass passes nodes → AllPass passes (fused_nodes period variables nodes)
