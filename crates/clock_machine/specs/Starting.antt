-- What the operations of a cycle do, one after another.
use Rattle.std.specs.Prelude.{ℕ, List, map, if◌then◌else◌}
use Rattle.ir_core.specs.Bodies.{Shapes, effect}
use Rattle.clock_ir.specs.Flows.{TimedOp, TimedBody, Flow, performed, starts}
use Rattle.clock_machine.specs.declared.lines.program.Action.{Action}
use Rattle.clock_machine.specs.declared.lines.program.Line.{Line}
use Rattle.clock_machine.specs.declared.lines.registers.Registers.{Registers}
use Rattle.clock_machine.specs.Lines.Registers.{word_read}
use Rattle.clock_machine.specs.Acts.{guard_holds, op_in}
use Rattle.clock_machine.specs.Lines.Registers.{held}

-- what an action gives on these memories, where its guard lets it
abbrev pub value_of : Shapes → Registers → List Line → Action → (ℕ → ℕ → ℕ) → ℕ
value_of shapes r lines a memories =
    (effect shapes (op_in a) a.kind (guard_holds r lines a.guard) a.from_bits (map (word_read r lines) a.args.items) (record { variables = held r.variables.items; memories = memories })).result

-- the words behind an operation, which changes them if it is a store of this cycle and its iteration runs
abbrev pub stored_by : Shapes → TimedBody → Flow → TimedOp → (ℕ → ℕ → ℕ) → ℕ → ℕ → ℕ
stored_by shapes b f o memories = if starts b f o then (performed shapes b f o memories).words.memories else memories
