-- What is taken along where a block or loop is left, and where control goes.
use Rattle.std.specs.Prelude.{ℕ, ◌<◌, ◌==◌, not, if◌then◌else◌, List, [], ◌∷◌}
use Rattle.std.specs.Option.{option_map}
use Rattle.hls_base.specs.declared.number.NodeId.{NodeId}
use Rattle.ir_core.specs.Bodies.{with_word}
use Rattle.ir_core.specs.FlatRuns.{Going, to, ends}
use Rattle.clock_machine.specs.declared.lines.program.Assignment.{Assignment}
use Rattle.clock_machine.specs.declared.lines.program.Case.{Case}
use Rattle.clock_machine.specs.declared.lines.program.Line.{Line}
use Rattle.clock_machine.specs.declared.lines.program.Read.{Read}
use Rattle.clock_machine.specs.declared.lines.program.Way.{Way}
use Rattle.clock_machine.specs.declared.lines.program.Way.TheVariants as way
use Rattle.clock_machine.specs.declared.lines.registers.Registers.{Registers}
use Rattle.clock_machine.specs.Lines.Registers.{ReadIsWithin}
use Rattle.clock_machine.specs.Acts.{ReadIsWithinIf}

abbrev pub AssignmentsAreWithin : Registers → List Line → List Assignment → Type 0
AssignmentsAreWithin r lines [] = Unit {0}
AssignmentsAreWithin r lines (x ∷ xs) = ReadIsWithin r lines x.value × AssignmentsAreWithin r lines xs

-- each variable that takes a value is there
abbrev pub AssignmentsAreThere : List Assignment → ℕ → Type 0
AssignmentsAreThere [] count = Unit {0}
AssignmentsAreThere (x ∷ xs) count = (x.variable < count) × AssignmentsAreThere xs count

-- the variables take these words
abbrev pub with_words : List Assignment → List ℕ → (ℕ → ℕ) → ℕ → ℕ
with_words (x ∷ xs) (w ∷ ws) variables = with_words xs ws (with_word variables x.variable w)
with_words _ _ variables = variables

-- the variables take their values, all from those before
abbrev pub assigned : (Read → ℕ) → List Assignment → (ℕ → ℕ) → ℕ → ℕ
assigned read [] variables = variables
assigned read (x ∷ xs) variables = assigned read xs (with_word variables x.variable (read x.value))

abbrev pub CasesAreWithin : Registers → List Line → List Case → Type 0
CasesAreWithin r lines [] = Unit {0}
CasesAreWithin r lines (x ∷ xs) = ReadIsWithin r lines x.test × CasesAreWithin r lines xs

-- the node of the first case that holds, else the other one
abbrev pub chosen_in : (Read → ℕ) → List Case → NodeId → NodeId
chosen_in read [] other = other
chosen_in read (x ∷ xs) other = if not (read x.test == 0) then x.to else chosen_in read xs other

abbrev pub WayIsWithin : Registers → List Line → Way → Type 0
WayIsWithin r lines (way.Choose cases other) = CasesAreWithin r lines cases.items
WayIsWithin r lines (way.Return value) = ReadIsWithinIf r lines value

-- where control goes from a block
abbrev pub going_in : (Read → ℕ) → Way → Going
going_in read (way.Choose cases other) = to (chosen_in read cases.items other).0
going_in read (way.Return value) = ends (option_map read value)
