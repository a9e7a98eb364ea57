-- Where control goes behind loop nodes.
use Rattle.std.specs.Prelude.{◌≡◌, ◌≢◌, ◌⊎◌, ℕ, List, [], ◌∷◌, map, slice_get, Some}
use Rattle.ir_core.specs.declared.cfg.Block.{Block}
use Rattle.ir_core.specs.declared.cfg.Cfg.{Cfg}
use Rattle.ir_core.specs.declared.cfg.End.{End}
use Rattle.ir_core.specs.declared.cfg.End.TheVariants as end
use Rattle.ir_core.specs.declared.cfg.Loop.{Loop}
use Rattle.ir_core.specs.declared.cfg.Node.{Node}
use Rattle.ir_core.specs.declared.cfg.Node.TheVariants as node
use Rattle.ir_core.specs.declared.stamp.Untimed.{Untimed}
use Rattle.ir_layout.specs.Nodes.{node_point}
use Rattle.report_rows.specs.Costs.{end_of}

-- the nodes to which a block leads
abbrev pub targets : End → List ℕ
targets (end.Jump next) = next.0 ∷ []
targets (end.Branch test left right) = left.0 ∷ right.0 ∷ []
targets (end.Choose cases other) = other.0 ∷ map (λ c. c.1.0) cases.items
targets (end.Return value) = []

abbrev pub followers : Node Untimed → List ℕ
followers (node.Plain block) = targets block.end
followers (node.Looped region) = region.next.0 ∷ []

abbrev pub Among : ℕ → List ℕ → Type 0
Among i [] = ⊥
Among i (j ∷ js) = (j ≡ i) ⊎ Among i js

-- Each loop node leads to a block that begins at the End of the loop's point, and to which nothing else leads. No point has two nodes.
pub record LoopsLeadToTheirEnds (cfg : Cfg Untimed) : Type 0 where
  pub apart : (i j : ℕ) (a b : Node Untimed) → slice_get cfg.nodes.items i ≡ Some a → slice_get cfg.nodes.items j ≡ Some b → node_point a ≡ node_point b → i ≡ j
  pub behind : (l : ℕ) (region : Loop Untimed) → slice_get cfg.nodes.items l ≡ Some (node.Looped region)
      → (block : Block Untimed) × ((slice_get cfg.nodes.items region.next.0 ≡ Some (node.Plain block)) × (block.point ≡ end_of region.point))
  pub first : (l : ℕ) (region : Loop Untimed) → slice_get cfg.nodes.items l ≡ Some (node.Looped region) → cfg.first.0 ≢ region.next.0
  pub alone : (l : ℕ) (region : Loop Untimed) → slice_get cfg.nodes.items l ≡ Some (node.Looped region)
      → (i : ℕ) (a : Node Untimed) → slice_get cfg.nodes.items i ≡ Some a → Among region.next.0 (followers a) → i ≡ l
