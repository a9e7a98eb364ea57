-- What is seen of a node without its operations, its operands and what it sets.
use Rattle.std.specs.Prelude.{Bool, true, false, map}
use Rattle.hls_base.specs.declared.point.Point.{Point}
use Rattle.ir_layout.specs.Nodes.{EndTree, jumps, branches, chooses, returns, NodeTree, plain, looped}
use Rattle.ir_layout.specs.Layout.{Ahead, finish, onto, tested, by_case}

-- the point at which a node begins, whether it is a loop, and where control goes from its end
pub record SeenNode : Type 0 where
  pub point : Point
  pub is_loop : Bool
  pub leads : Ahead

-- to a node, to one of two by a test, to that of a case or to the other one, or out of the program
abbrev pub ahead_of_end : EndTree → Ahead
ahead_of_end (jumps node) = onto node
ahead_of_end (branches test yes_ no_) = tested yes_ no_
ahead_of_end (chooses cases other) = by_case (map (λ c. c.1) cases) other
ahead_of_end (returns value) = finish

abbrev pub seen : NodeTree → SeenNode
seen (plain point body end_) = record { point = point; is_loop = false; leads = ahead_of_end end_ }
seen (looped point body next) = record { point = point; is_loop = true; leads = onto next }
