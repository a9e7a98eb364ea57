use Rattle.std.proofs.Common.{◌≡◌, ◌+◌, drop, map}
use Rattle.ir_core.specs.Bodies.{op_of, operations}
use Rattle.flat_programs.specs.Memory.Contents.{dims_in}
use Rattle.flat_programs.specs.Machine.Held.{shapes}
use Rattle.flat_programs.specs.Machine.States.{results_of, words_of, Keeps, Stays, ArraysThere}
use Rattle.flat_programs.proofs.machine.state.State.perform_all.Given as goal

abbrev pub invariant-loop-op : goal.invariant-loop-op
invariant-loop-op l =
    (l.self.position ≡ l.initial.self.position + l.op-index) × Keeps l.initial.self l.self × Stays l.initial.self l.self
    × (ArraysThere l.part (dims_in l.initial.self.memories) →
    operations (shapes l.widths (dims_in l.initial.self.memories)) (map op_of l.ops) (map op_of (drop l.op-index l.part)) (results_of l.self) (words_of l.self)
    ≡ operations (shapes l.widths (dims_in l.initial.self.memories)) (map op_of l.ops) (map op_of l.part) (results_of l.initial.self) (words_of l.initial.self))
