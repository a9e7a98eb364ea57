-- What a run of a timed program is, one step for each edge of the clock. The first edge is that of the cycle in which the run is started.
use Rattle.std.specs.Prelude.{ℕ, zero, suc, ◌+◌, ◌==◌, nat_lt, not, List, [], ◌∷◌, map, slice_get, Option, Some, None, if◌then◌else◌}
use Rattle.std.specs.Option.{option_map}
use Rattle.hls_base.specs.declared.number.NodeId.{NodeId}
use Rattle.ir_core.specs.declared.body.Operand.{Operand}
use Rattle.ir_core.specs.declared.cfg.Cfg.{Cfg}
use Rattle.ir_core.specs.declared.cfg.End.{End}
use Rattle.ir_core.specs.declared.cfg.End.TheVariants as end
use Rattle.ir_core.specs.declared.cfg.Node.{Node}
use Rattle.ir_core.specs.declared.cfg.Node.TheVariants as node
use Rattle.ir_core.specs.declared.timed.Timed.{Timed}
use Rattle.ir_core.specs.Bodies.{Shapes, Words}
use Rattle.ir_core.specs.FlatRuns.{Going, to, ends, shapes_of}
use Rattle.clock_ir.specs.Flows.{TimedBody, timed_body, Flow, operand_at, is_at, runs_at, tick, first_flow, taken}

-- a block, as long as its body's interval; or a loop, which is left at this time of the first iteration that does not run
pub data TimedNode : Type 0 where
  block : (body : TimedBody) (end_ : End) → TimedNode
  overlapped : (body : TimedBody) (exit next : ℕ) → TimedNode

pub record TimedProgram : Type 0 where
  pub shapes : Shapes
  pub nodes : List TimedNode
  pub first : ℕ

abbrev pub timed_node : Node Timed → TimedNode
timed_node (node.Plain b) = block (timed_body b.length b.body) b.end
timed_node (node.Looped r) = overlapped (timed_body r.ii r.body) r.exit r.next.0

abbrev pub timed_program : Cfg Timed → TimedProgram
timed_program cfg = record { shapes = shapes_of cfg.frame; nodes = map timed_node cfg.nodes.items; first = cfg.first.0 }

-- Before the first edge; before the cycle in which the first values of a loop are there; in a cycle of a block or loop; at the end, with the result.
pub data Phase : Type 0 where
  starting : (words : Words) → Phase
  loading : (node : ℕ) (words : Words) → Phase
  inside : (node : ℕ) (flow : Flow) → Phase
  ended : (word : Option ℕ) (words : Words) → Phase

-- ---- from node to node

-- the first cycle of a block, or the one before that of a loop
abbrev pub at_node : ℕ → Words → Option TimedNode → Phase
at_node i t (Some (block body end_)) = inside i (first_flow body t)
at_node i t (Some (overlapped body exit next)) = loading i t
at_node i t None = loading i t

abbrev pub enter : List TimedNode → ℕ → Words → Phase
enter nodes i t = at_node i t (slice_get nodes i)

-- the node of the first case that holds, else the other one
abbrev pub chosen_by : (Operand → ℕ) → List (Operand × NodeId) → NodeId → ℕ
chosen_by read [] other = other.0
chosen_by read (c ∷ cs) other = if not (read c.0 == 0) then c.1.0 else chosen_by read cs other

abbrev pub going_by : (Operand → ℕ) → End → Going
going_by read (end.Jump n) = to n.0
going_by read (end.Branch test left right) = to (if not (read test == 0) then left.0 else right.0)
going_by read (end.Choose cases other) = to (chosen_by read cases.items other)
going_by read (end.Return x) = ends (option_map read x)

abbrev pub goes_to : List TimedNode → Going → Words → Phase
goes_to nodes (to i) t = enter nodes i t
goes_to nodes (ends w) t = ended w t

-- ---- one edge

-- where a block leads, with the flow behind its last cycle
abbrev pub block_left : List TimedNode → TimedBody → End → Flow → Phase
block_left nodes body end_ g =
    goes_to nodes (going_by (operand_at body g g.time) end_)
    (record { variables = taken (operand_at body g g.time) body.outs g.entry; memories = g.memories })

abbrev pub block_step : Shapes → List TimedNode → ℕ → TimedBody → End → Flow → Phase
block_step shapes nodes i body end_ f =
    if nat_lt (f.time + 1) body.interval then inside i (tick shapes body f) else block_left nodes body end_ (tick shapes body f)

-- the same operand, read one iteration later
abbrev pub later : Operand → Operand
later x = record x { distance = x.distance + 1 }

-- Where a loop leads that is left in this cycle: the variables have the values of the iteration before the one that does not run.
abbrev pub loop_left : Shapes → List TimedNode → TimedBody → ℕ → ℕ → Flow → Phase
loop_left shapes nodes body exit next f =
    enter nodes next (record { variables = taken (λ x. operand_at body f exit (later x)) body.outs f.entry; memories = (tick shapes body f).memories })

-- It is left where an iteration that does not run is at its exit.
abbrev pub loop_step : Shapes → List TimedNode → ℕ → TimedBody → ℕ → ℕ → Flow → Phase
loop_step shapes nodes i body exit next f =
    if is_at body.interval exit f.time
    then (if runs_at body f exit then inside i (tick shapes body f) else loop_left shapes nodes body exit next f)
    else inside i (tick shapes body f)

abbrev pub node_step : Shapes → List TimedNode → ℕ → Flow → Option TimedNode → Phase
node_step shapes nodes i f None = inside i f
node_step shapes nodes i f (Some (block body end_)) = block_step shapes nodes i body end_ f
node_step shapes nodes i f (Some (overlapped body exit next)) = loop_step shapes nodes i body exit next f

abbrev pub load : ℕ → Words → Option TimedNode → Phase
load i t (Some (overlapped body exit next)) = inside i (first_flow body t)
load i t (Some (block body end_)) = loading i t
load i t None = loading i t

abbrev pub clock_step : TimedProgram → Phase → Phase
clock_step p (starting t) = enter p.nodes p.first t
clock_step p (loading i t) = load i t (slice_get p.nodes i)
clock_step p (inside i f) = node_step p.shapes p.nodes i f (slice_get p.nodes i)
clock_step p (ended w t) = ended w t

-- the run of a timed program from these contents, so many edges of the clock long
unfoldable pub clock_run : TimedProgram → Words → ℕ → Phase
clock_run p t zero = starting t
clock_run p t (suc n) = clock_step p (clock_run p t n)
