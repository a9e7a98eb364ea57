use Rattle.std.proofs.Common.{◌≡◌, length}
use Rattle.clock_ir.specs.Flows.{known as known_by}
use Rattle.clock_machine.specs.Lines.Forms.{AreActionsOf}
use Rattle.clock_machine.specs.Lines.Regions.{IsOrderly, body_of}
use Rattle.clock_machine.proofs.lines.reads.Region.actions.Given as goal

abbrev pub invariant-loop-number : goal.invariant-loop-number
invariant-loop-number l = (length l.actions.items ≡ l.number) × (IsOrderly l.self → l.known ≡ known_by (body_of l.self) → AreActionsOf l.self.widths.now (body_of l.self) l.actions.items)
