-- The nodes of a flat program, without where they lie in memory and without times.
use Rattle.std.specs.Prelude.{ℕ, List, map, Option}
use Rattle.hls_base.specs.declared.number.NodeId.{NodeId}
use Rattle.hls_base.specs.declared.point.Point.{Point}
use Rattle.ir_core.specs.declared.body.Operand.{Operand}
use Rattle.ir_core.specs.declared.cfg.End.{End}
use Rattle.ir_core.specs.declared.cfg.End.TheVariants as end
use Rattle.ir_core.specs.declared.cfg.Node.{Node}
use Rattle.ir_core.specs.declared.cfg.Node.TheVariants as n
use Rattle.ir_core.specs.declared.stamp.Untimed.{Untimed}
use Rattle.ir_core.specs.Trees.{BodyTree, body_of}

-- the point at which a node begins
abbrev pub node_point : Node Untimed → Point
node_point (n.Plain block) = block.point
node_point (n.Looped region) = region.point

-- how a block ends: at a node, at one of two by an operand, at that of the first case whose operand is 1, or with the program
pub data EndTree : Type 0 where
  jumps : (node : ℕ) → EndTree
  branches : (test : Operand) (yes_ no_ : ℕ) → EndTree
  chooses : (cases : List (Operand × ℕ)) (other : ℕ) → EndTree
  returns : (value : Option Operand) → EndTree

-- a block, or a loop whose iterations may overlap with the node behind it
pub data NodeTree : Type 0 where
  plain : (point : Point) (body : BodyTree) (end_ : EndTree) → NodeTree
  looped : (point : Point) (body : BodyTree) (next : ℕ) → NodeTree

-- ---- the code's nodes

abbrev pub case_of : Operand × NodeId → Operand × ℕ
case_of c = (c.0, c.1.0)

abbrev pub end_of : End → EndTree
end_of (end.Jump node) = jumps node.0
end_of (end.Branch test left right) = branches test left.0 right.0
end_of (end.Choose cases other) = chooses (map case_of cases.items) other.0
end_of (end.Return value) = returns value

abbrev pub node_of : Node Untimed → NodeTree
node_of (n.Plain block) = plain block.point (body_of block.body) (end_of block.end)
node_of (n.Looped region) = looped region.point (body_of region.body) region.next.0
