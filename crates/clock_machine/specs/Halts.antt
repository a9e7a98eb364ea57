-- When the clocked machine has halted.
use Rattle.ir_core.specs.declared.machine.Halt.{Halt}
use Rattle.ir_core.specs.declared.machine.Halt.TheVariants as h
use Rattle.clock_machine.specs.declared.state.Position.{Position}
use Rattle.clock_machine.specs.declared.state.Position.TheVariants as p

abbrev pub halt_at : Position → Halt
halt_at p.Start = h.Running
halt_at (p.Loading node) = h.Running
halt_at (p.Inside node) = h.Running
halt_at p.Ended = h.Ended
