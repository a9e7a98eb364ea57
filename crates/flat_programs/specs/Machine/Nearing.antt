-- How many steps bring a machine to the end of a run that ends.
use Rattle.std.specs.Prelude.{◌≡◌, ℕ, ◌+◌, ◌*◌, ◌-◌, ◌≤◌, max, List, [], ◌∷◌, length, slice_get, Option, Some, None}
use Rattle.ir_core.specs.declared.cfg.Cfg.{Cfg}
use Rattle.ir_core.specs.declared.cfg.Node.{Node}
use Rattle.ir_core.specs.declared.cfg.Node.TheVariants as node
use Rattle.ir_core.specs.declared.stamp.Untimed.{Untimed}
use Rattle.ir_core.specs.declared.machine.Halt.{Halt}
use Rattle.ir_core.specs.declared.machine.Halt.TheVariants as halt
use Rattle.hls_base.specs.Steps.{Ran, waiting}
use Rattle.ir_core.specs.Bodies.{Words}
use Rattle.flat_programs.specs.declared.machine.state.State.{State}
use Rattle.flat_programs.specs.Machine.Rest.{rest}

-- It ends, or its behaviour is undefined: it does not wait to pass another point or to enter another node.
abbrev pub IsOver : Ran Words (Option ℕ) → Type 0
IsOver r = r.outcome ≡ waiting → ⊥

-- the operations that take a step each: those of a block; of a loop, each iteration is one step
abbrev pub operations_in : Node Untimed → ℕ
operations_in (node.Plain block) = length block.body.ops.items
operations_in (node.Looped region) = 0

-- the most of them that one of these nodes has
abbrev pub longest : List (Node Untimed) → ℕ
longest [] = 0
longest (it ∷ nodes) = max (operations_in it) (longest nodes)

-- those that are left where so many are done, none where no node is there
abbrev pub operations_behind : Option (Node Untimed) → ℕ → ℕ
operations_behind None position = 0
operations_behind (Some it) position = operations_in it - position

-- Each node takes at most so many steps: one for each of its operations, and one that leaves it. Each point that is passed may be that of one more iteration.
abbrev pub enough_steps : Cfg Untimed → ℕ → ℕ → ℕ
enough_steps cfg nodes points = nodes * (longest cfg.nodes.items + 1) + points

abbrev pub steps_left_by : Halt → Cfg Untimed → State → ℕ → ℕ → ℕ
steps_left_by halt.Running cfg s k n = operations_behind (slice_get cfg.nodes.items s.node.0) s.position + 1 + enough_steps cfg k n
steps_left_by halt.Ended cfg s k n = 0
steps_left_by (halt.Undefined rule at) cfg s k n = 0

-- At most so many steps are left where what is left of the run enters at most k more nodes and passes at most n points. A machine that has halted takes none.
abbrev pub steps_left : Cfg Untimed → State → ℕ → ℕ → ℕ
steps_left cfg s k n = steps_left_by s.halt cfg s k n

-- Within some numbers of nodes and points, what is left of the run is over, and it leaves at most so many steps.
pub record IsOverWithin (most : ℕ) (cfg : Cfg Untimed) (s : State) : Type 0 where
  pub nodes : ℕ
  pub points : ℕ
  pub over : IsOver (rest cfg s nodes points)
  pub enough : steps_left cfg s nodes points ≤ most

-- So many steps are enough for a whole run that passes at most n points, and enters at most 2 n + 2 nodes.
abbrev pub whole_run_steps : Cfg Untimed → ℕ → ℕ
whole_run_steps cfg n = enough_steps cfg (2 * n + 2) n
