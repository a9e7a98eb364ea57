-- When a machine has halted.
use Rattle.std.specs.Prelude.{Bool, true, false}
use Rattle.ir_core.specs.declared.machine.Halt.{Halt}
use Rattle.ir_core.specs.declared.machine.Halt.TheVariants as h

abbrev pub HasHalted : Halt → Type 0
HasHalted h.Running = ⊥
HasHalted h.Ended = Unit {0}
HasHalted (h.Undefined rule place) = Unit {0}

abbrev pub is_ended : Halt → Bool
is_ended h.Running = false
is_ended h.Ended = true
is_ended (h.Undefined rule place) = false
