-- Bodies of few operations, and the numbers that come of them.
use Rattle.std.specs.Prelude.{◌≢◌, ℕ, ◌*◌, ◌<◌, ◌≤◌, ◌^◌, pos, unsigned_abs, List, length, Option, Some, None}
use Rattle.std.specs.List.{All}
use Rattle.ir_core.specs.declared.body.Body.{Body}
use Rattle.ir_core.specs.declared.stamp.Untimed.{Untimed}
use Rattle.dep_graph.specs.declared.counter.Offset.{Offset}
use Rattle.dep_graph.specs.declared.counter.Sum.{Sum}
use Rattle.dep_graph.specs.declared.access.Access.{Access}
use Rattle.dep_graph.specs.declared.access.Subscript.{Subscript}
use Rattle.dep_graph.specs.declared.access.Subscript.TheVariants as u

-- fewer than 2^25 operations
abbrev pub IsSmallBody : Body Untimed → Type 0
IsSmallBody body = length body.ops.items < 2 ^ 25

-- a counter, which moves, and what so many additions of constants of 64 bits come to at most
pub record IsNear (additions : ℕ) (offset : Offset) : Type 0 where
  pub moves : offset.step ≢ pos 0
  pub constant : unsigned_abs offset.constant ≤ additions * 2 ^ 64

abbrev pub IsNearSum : ℕ → Option Sum → Type 0
IsNearSum additions None = Unit {0}
IsNearSum additions (Some sum) = IsNear additions sum.offset

-- each of the sums comes of no more additions than there are sums
abbrev pub AreNear : List (Option Sum) → Type 0
AreNear sums = All (IsNearSum (length sums)) sums

abbrev pub IsNearSubscript : Subscript → Type 0
IsNearSubscript (u.Constant word) = Unit {0}
IsNearSubscript (u.Counted offset) = IsNear (2 ^ 25) offset
IsNearSubscript u.Unknown = Unit {0}

-- an access by an operation of a small body
pub record IsOfSmallBody (access : Access) : Type 0 where
  pub op : access.op < 2 ^ 25
  pub subscripts : All IsNearSubscript access.subscripts.items
