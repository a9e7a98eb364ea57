-- Offsets that are reckoned from the end of a subscript on.
use Rattle.std.specs.Prelude.{◌≢◌, ℕ, ◌<◌, ◌≤◌, ◌^◌, ℤ, pos, ◌+ℤ◌, unsigned_abs, take, Option, Some, None}
use Rattle.hls_base.specs.declared.number.VarId.{VarId}
use Rattle.ir_core.specs.declared.body.Body.{Body}
use Rattle.ir_core.specs.declared.body.Operand.{Operand}
use Rattle.ir_core.specs.declared.body.Source.{Source}
use Rattle.ir_core.specs.declared.body.Source.TheVariants as s
use Rattle.ir_core.specs.declared.stamp.Untimed.{Untimed}
use Rattle.dep_graph.specs.declared.counter.Offset.{Offset}
use Rattle.dep_graph.specs.declared.access.Subscript.{Subscript}
use Rattle.dep_graph.specs.declared.access.Subscript.TheVariants as u
use Rattle.dep_graph.specs.Offsets.{step_of, source_sum, sums_of, covered}

-- the difference of two such constants fits 128 bits, and the step divides
pub record IsSmall (o : Offset) : Type 0 where
  pub constant : unsigned_abs o.constant ≤ 2 ^ 96
  pub step : o.step ≢ pos 0
  pub short : unsigned_abs o.step < 2 ^ 64

abbrev pub IsSmallSubscript : Subscript → Type 0
IsSmallSubscript (u.Counted o) = IsSmall o
IsSmallSubscript (u.Constant word) = Unit {0}
IsSmallSubscript u.Unknown = Unit {0}

abbrev pub offset_by : VarId → ℤ → Option ℤ → Option Offset
offset_by counter constant None = None
offset_by counter constant (Some step) = Some (record { counter = counter; step = step; constant = constant })

-- a counter and a constant
abbrev pub counted_from : Body Untimed → Source → ℤ → Option Offset
counted_from body (s.Constant word) constant = None
counted_from body (s.Variable counter) constant = offset_by counter constant (step_of body counter.0)
counted_from body (s.Result op) constant = None

-- an offset and a constant
abbrev pub shifted : ℤ → Option Offset → Option Offset
shifted c None = None
shifted c (Some o) = Some (record { counter = o.counter; step = o.step; constant = c +ℤ o.constant })

-- the offset of a source among the first operations, for an access with this guard, and a constant
abbrev pub offset_among : Body Untimed → ℕ → Source → ℤ → Option Operand → Option Offset
offset_among body limit source constant guard = shifted constant (covered (source_sum body (take limit (sums_of body)) source) guard)
