-- What lists of words hold, as a run of blocks has it.
use Rattle.std.specs.Prelude.{ℕ, ◌<◌, List, length, get_or, Option, Some, None, Result, Ok, Err}
use Rattle.hls_base.specs.declared.number.ArrayId.{ArrayId}
use Rattle.hls_base.specs.Valued.{Valued, is, faulty}
use Rattle.ir_core.specs.Bodies.{Words, Shapes}
use Rattle.ir_core.specs.FlatRuns.{Going, to, ends}
use Rattle.flat_programs.specs.declared.machine.operands.Target.{Target}
use Rattle.flat_programs.specs.declared.machine.operands.Target.TheVariants as target
use Rattle.flat_programs.specs.declared.machine.effects.Broken.{Broken}

abbrev pub held : List ℕ → ℕ → ℕ
held xs i = get_or xs i 0

abbrev pub holding : List ℕ → (ℕ → ℕ → ℕ) → Words
holding variables memories = record { variables = held variables; memories = memories }

abbrev pub shapes : List ℕ → List (List ℕ) → Shapes
shapes widths dims = record { widths = widths; dims = dims }

-- the memory that an operation names is there
abbrev pub IsThere : Option ArrayId → List (List ℕ) → Type 0
IsThere None dims = Unit {0}
IsThere (Some array) dims = array.0 < length dims

-- what was found, or the fault
abbrev pub found : {A B : Type 0} → Result B Broken → A → Valued A
found (Ok _) x = is x
found (Err f) x = faulty f.rule f.place

abbrev pub shown : Target → Going
shown (target.Node node) = to node.0
shown (target.End word) = ends word
