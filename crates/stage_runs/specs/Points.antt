-- How often runs pass the points of the nodes of a program.
use Rattle.std.specs.Prelude.{◌≡◌, ℕ, ◌≤◌, List, length, map, Option}
use Rattle.hls_base.specs.Tallies.{count_in}
use Rattle.hls_base.specs.declared.point.Point.{Point}
use Rattle.c_meaning.specs.Points.{count_all}
use Rattle.ir_core.specs.declared.cfg.Node.{Node}
use Rattle.ir_core.specs.declared.cfg.Node.TheVariants as node
use Rattle.ir_core.specs.declared.stamp.Untimed.{Untimed}
use Rattle.hls_base.specs.Steps.{Ran}
use Rattle.ir_core.specs.Bodies.{Words}
use Rattle.flat_programs.specs.Machine.Rest.{Passes}
use Rattle.stage_runs.specs.declared.stage.PointCount.{PointCount}

abbrev pub point_of : Node Untimed → Point
point_of (node.Plain block) = block.point
point_of (node.Looped region) = region.point

abbrev pub node_points : List (Node Untimed) → List Point
node_points nodes = map point_of nodes

-- the point of a node, as one tally counts it and as that of the run in C does
abbrev pub counted : List (Point × ℕ) → List (Point × ℕ) → Node Untimed → PointCount
counted tally in_c it = record { point = point_of it; count = count_in tally (point_of it); in_c = count_in in_c (point_of it) }

-- What was left of a run before is what is left after, behind at most so many points, and these counts grow by just those.
pub record HasPassed (most : ℕ) (before after : ℕ → ℕ → Ran Words (Option ℕ)) (old new : List (Point × ℕ)) : Type 0 where
  pub points : List Point
  pub few : length points ≤ most
  pub passes : Passes points most before after
  pub counts : new ≡ count_all points old
