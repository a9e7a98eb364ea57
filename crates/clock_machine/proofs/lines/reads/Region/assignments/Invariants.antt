use Rattle.std.proofs.Common.{◌≡◌, ◌<◌, ◌≤◌, ◌^◌, map, take}
use Rattle.clock_machine.specs.Lines.Forms.{assignment_of}
use Rattle.clock_machine.specs.Lines.Regions.{IsOrderly, body_of}
use Rattle.clock_machine.proofs.lines.reads.Region.assignments.Given as goal

abbrev pub invariant-loop-out : goal.invariant-loop-out
invariant-loop-out l = IsOrderly l.self → l.time < 2 ^ 32 → l.further ≤ 1 → l.assignments.items ≡ map (assignment_of (body_of l.self) l.time l.further) (take l.out-index l.out-items)
