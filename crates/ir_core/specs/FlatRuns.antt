-- What a run of a flat program is, block by block, and loop nodes iteration by iteration.
use Rattle.std.specs.Prelude.{ℕ, zero, suc, ◌+◌, ◌*◌, ◌==◌, not, Bool, true, false, List, [], ◌∷◌, map, slice_get, Option, Some, None, if◌then◌else◌}
use Rattle.hls_base.specs.declared.number.NodeId.{NodeId}
use Rattle.hls_base.specs.declared.point.Point.{Point}
use Rattle.ir_core.specs.declared.body.Body.{Body}
use Rattle.ir_core.specs.declared.body.Operand.{Operand}
use Rattle.ir_core.specs.declared.cfg.Cfg.{Cfg}
use Rattle.ir_core.specs.declared.cfg.End.{End}
use Rattle.ir_core.specs.declared.cfg.End.TheVariants as end
use Rattle.ir_core.specs.declared.cfg.Frame.{Frame}
use Rattle.ir_core.specs.declared.cfg.Node.{Node}
use Rattle.ir_core.specs.declared.cfg.Node.TheVariants as node
use Rattle.hls_base.specs.Steps.{Ran, goes, waits, then_, reached}
use Rattle.hls_base.specs.Valued.{valued}
use Rattle.ir_core.specs.Bodies.{Shapes, Words, Ranged, op_of, operand, operations, with_outs}
use Rattle.ir_core.specs.Trees.{BodyTree}
use Rattle.ir_core.specs.TreeRuns.{holds, overlapped_run}

-- where control goes from a block: to a node, or the run ends with this word
pub data Going : Type 0 where
  to : (node : ℕ) → Going
  ends : (word : Option ℕ) → Going

abbrev pub body_of : {S : Type 0} → Body S → BodyTree
body_of b = record { ops = map op_of b.ops.items; outs = b.outs.items; test = b.test }

abbrev pub shapes_of : Frame → Shapes
shapes_of frame = record { widths = frame.variables.items; dims = map (λ m. m.dims.items) frame.memories.items }

-- the node of the first case that holds, else the other one
abbrev pub chosen : Words → List ℕ → List (Operand × NodeId) → NodeId → ℕ
chosen t results [] other = other.0
chosen t results (c ∷ cs) other = if holds t results c.0 then c.1.0 else chosen t results cs other

abbrev pub word_if : Option Operand → Words → List ℕ → Option ℕ
word_if None t results = None
word_if (Some x) t results = Some (operand t results x)

abbrev pub going : End → Words → List ℕ → Going
going (end.Jump n) t results = to n.0
going (end.Branch test left right) t results = to (if holds t results test then left.0 else right.0)
going (end.Choose cases other) t results = to (chosen t results cases.items other)
going (end.Return x) t results = ends (word_if x t results)

abbrev pub block_left : End → BodyTree → Ranged → Words → ℕ → Ran Words Going
block_left e b r t n = goes (going e r.words r.results) (with_outs b.outs r) n

abbrev pub node_run : {S : Type 0} → Shapes → Node S → Words → ℕ → Ran Words Going
node_run shapes (node.Plain block) t n =
    reached block.point (λ t1 n1. valued (operations shapes (body_of block.body).ops (body_of block.body).ops [] t1) (block_left block.end (body_of block.body)) t1 n1) t n
node_run shapes (node.Looped region) t n =
    then_ (overlapped_run shapes region.point (body_of region.body) t n) (λ w t1 n1. goes (to region.next.0) t1 n1)

abbrev pub going_on : (ℕ → Words → ℕ → Ran Words (Option ℕ)) → Going → Words → ℕ → Ran Words (Option ℕ)
going_on rest (to i) t n = rest i t n
going_on rest (ends w) t n = goes w t n

abbrev pub node_then : {S : Type 0} → Shapes → (ℕ → Words → ℕ → Ran Words (Option ℕ)) → Option (Node S) → Words → ℕ → Ran Words (Option ℕ)
node_then shapes rest None t n = waits
node_then shapes rest (Some it) t n = then_ (node_run shapes it t n) (λ g t1 n1. going_on rest g t1 n1)

-- From a node on, visiting at most k nodes. Each block passes a point, and behind a loop node stands a block.
abbrev pub from_node : {S : Type 0} → ℕ → Shapes → List (Node S) → ℕ → Words → ℕ → Ran Words (Option ℕ)
from_node zero shapes nodes i t n = waits
from_node (suc k) shapes nodes i t n = node_then shapes (λ j t1 n1. from_node k shapes nodes j t1 n1) (slice_get nodes i) t n

-- The run of a flat program from these contents, passing at most n points.
abbrev pub flat_run : {S : Type 0} → Cfg S → Words → ℕ → Ran Words (Option ℕ)
flat_run cfg t n = from_node (2 * n + 2) (shapes_of cfg.frame) cfg.nodes.items cfg.first.0 t n
