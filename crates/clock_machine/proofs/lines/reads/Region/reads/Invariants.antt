use Rattle.std.proofs.Common.{◌≡◌, ◌<◌, ◌^◌, map, take}
use Rattle.clock_machine.specs.Lines.Reads.{read_of}
use Rattle.clock_machine.specs.Lines.Regions.{IsOrderly, body_of}
use Rattle.clock_machine.proofs.lines.reads.Region.reads.Given as goal

abbrev pub invariant-loop-operand : goal.invariant-loop-operand
invariant-loop-operand l = IsOrderly l.self → l.time < 2 ^ 32 → l.reads.items ≡ map (read_of (body_of l.self) l.time) (take l.operand-index l.operands)
