use Rattle.std.proofs.Common.{◌≡◌, ◌<◌, ◌^◌, map, take}
use Rattle.clock_machine.specs.Lines.Forms.{case_of}
use Rattle.clock_machine.specs.Lines.Regions.{IsOrderly, body_of}
use Rattle.clock_machine.proofs.lines.reads.Region.cases.Given as goal

abbrev pub invariant-loop-test : goal.invariant-loop-test
invariant-loop-test l = IsOrderly l.self → l.time < 2 ^ 32 → l.list.items ≡ map (case_of (body_of l.self) l.time) (take l.test-index l.cases)
