-- What each operation takes: widths, latencies and units.
use Rattle.std.specs.Prelude.{ℕ, ◌+◌, Bool, true, false, Option, Some, None, List, is_some, slice_get, if◌then◌else◌}
use Rattle.hls_base.specs.declared.number.ArrayId.{ArrayId}
use Rattle.ir_core.specs.declared.body.OpKind.{OpKind}
use Rattle.ir_core.specs.declared.body.OpKind.TheVariants as o
use Rattle.ir_core.specs.declared.cfg.Memory.{Memory}
use Rattle.ir_core.specs.declared.timing.UnitClass.{UnitClass}
use Rattle.ir_core.specs.declared.timing.UnitClass.TheVariants as u

-- the cycles from the start to the one in which the result is there, or the word is changed
abbrev pub latency : OpKind → ℕ → ℕ
latency o.Mul bits = 2
latency o.Load bits = 2
latency o.Div bits = bits + 2
latency o.Rem bits = bits + 2
latency kind bits = 1

-- the cycles for which the unit is held
abbrev pub occupancy : OpKind → ℕ → ℕ
occupancy o.Div bits = bits + 2
occupancy o.Rem bits = bits + 2
occupancy kind bits = 1

-- the width of the result
abbrev pub result_bits : OpKind → ℕ → ℕ
result_bits o.Eq bits = 1
result_bits o.Ne bits = 1
result_bits o.Lt bits = 1
result_bits o.Le bits = 1
result_bits o.Truth bits = 1
result_bits o.Store bits = 0
result_bits kind bits = bits

-- the array is a table of constants
abbrev pub has_table : Option Memory → Bool
has_table None = false
has_table (Some memory) = is_some memory.table

abbrev pub is_table : List Memory → ArrayId → Bool
is_table memories array = has_table (slice_get memories array.0)

abbrev pub port : List Memory → Option ArrayId → Option UnitClass
port memories None = None
port memories (Some array) = if is_table memories array then None else Some (u.Port array)

-- the class of the units of which an operation takes one
abbrev pub unit_class : OpKind → ℕ → Option ArrayId → List Memory → Option UnitClass
unit_class o.Mul bits array memories = Some (u.Multiplier bits)
unit_class o.Div bits array memories = Some (u.Divider bits)
unit_class o.Rem bits array memories = Some (u.Divider bits)
unit_class o.Load bits array memories = port memories array
unit_class o.Store bits array memories = port memories array
unit_class kind bits array memories = None
