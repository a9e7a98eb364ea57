use Rattle.std.proofs.Common.{◌≡◌, ◌<◌, ◌≤◌, ℕ, length}
use Rattle.ir_core.specs.Bodies.{Shapes}
use Rattle.clock_ir.specs.Flows.{TimedBody, entered, pushed}
use Rattle.clock_machine.specs.Lines.Registers.{SameSizes, held}
use Rattle.clock_machine.specs.Lines.Showing.{HasLines, ShowsChain}
use Rattle.clock_machine.specs.Keeping.{IsForm}
use Rattle.clock_machine.specs.Standing.{HasWords}
use Rattle.clock_machine.proofs.keeping.begin_lines.Given as goal

abbrev pub invariant-loop-number : goal.invariant-loop-number
invariant-loop-number l = record {
  variables : l.registers.variables ≡ l.fn.registers.variables;
  sizes : SameSizes l.fn.registers l.registers;
  shows : (shapes : Shapes) (b : TimedBody) → IsForm shapes.widths b l.work l.fn.registers → HasWords l.work l.fn.registers
      → record {
        rooms : HasLines l.registers l.work.lines.items;
        begun : (k : ℕ) → k < length b.ops → k < l.number → ShowsChain l.registers l.work.lines.items k (pushed (entered b.outs (held l.fn.registers.variables.items) k) (λ j. 0));
        others : (k : ℕ) → k < length b.ops → l.number ≤ k → ShowsChain l.registers l.work.lines.items k (λ j. 0);
      };
}
