-- The code's values without where they lie in memory.
use Rattle.std.specs.Prelude.{List, map}
use Rattle.ir_core.specs.Bodies.{op_of}
use Rattle.passes.specs.Numbering as n
use Rattle.passes.specs.Conversion.Joining as spec
use Rattle.if_convert.specs.declared.joining.Value as v
use Rattle.if_convert.specs.declared.joining.Guard as g
use Rattle.if_convert.specs.declared.joining.Joined as j

abbrev pub value_of : v.Value → n.Value
value_of value = record { operand = value.operand; bits = value.bits }

abbrev pub values_of : List v.Value → List n.Value
values_of = map value_of

abbrev pub guard_of : g.Guard → spec.Guard
guard_of guard = record { own = guard.own; bit = guard.bit }

abbrev pub guards_of : List g.Guard → List spec.Guard
guards_of = map guard_of

abbrev pub joined_of : j.Joined → spec.Joined
joined_of joined = record { ops = map op_of joined.ops.items; values = values_of joined.values.items; guards = guards_of joined.guards.items }
