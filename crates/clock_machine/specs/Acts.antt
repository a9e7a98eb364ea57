-- What an operation does that starts in a cycle.
use Rattle.std.specs.Prelude.{ℕ, ◌<◌, ◌==◌, nat_lt, not, Bool, true, false, ◌&&◌, ◌||◌, List, [], ◌∷◌, length, Option, Some, None}
use Rattle.hls_base.specs.declared.number.ArrayId.{ArrayId}
use Rattle.ir_core.specs.declared.body.OpKind.{OpKind}
use Rattle.ir_core.specs.declared.body.OpKind.TheVariants as o
use Rattle.ir_core.specs.Bodies.{OpTree, Shapes}
use Rattle.clock_machine.specs.declared.lines.program.Action.{Action}
use Rattle.clock_machine.specs.declared.lines.program.Line.{Line}
use Rattle.clock_machine.specs.declared.lines.program.Read.{Read}
use Rattle.clock_machine.specs.declared.lines.registers.Registers.{Registers}
use Rattle.clock_machine.specs.Lines.Registers.{ReadIsWithin, word_read}

abbrev pub shapes : List ℕ → List (List ℕ) → Shapes
shapes widths dims = record { widths = widths; dims = dims }

-- the operation of an action; what it reads stands apart
abbrev pub op_in : Action → OpTree
op_in a = record { kind = a.kind; signed = a.signed; bits = a.bits; args = []; array = a.array; guard = None; flag = None }

-- the memory that an operation names is there
abbrev pub IsThere : Option ArrayId → List (List ℕ) → Type 0
IsThere None dims = Unit {0}
IsThere (Some array) dims = array.0 < length dims

abbrev pub ReadsAreWithin : Registers → List Line → List Read → Type 0
ReadsAreWithin r lines [] = Unit {0}
ReadsAreWithin r lines (x ∷ xs) = ReadIsWithin r lines x × ReadsAreWithin r lines xs

abbrev pub ReadIsWithinIf : Registers → List Line → Option Read → Type 0
ReadIsWithinIf r lines None = Unit {0}
ReadIsWithinIf r lines (Some x) = ReadIsWithin r lines x

abbrev pub is_store : OpKind → Bool
is_store o.Store = true
is_store _ = false

-- Whether an operation's iteration runs, where so many of the last ones were found not to run: only of a store does it matter.
abbrev pub is_open : ℕ → Action → Bool
is_open failed action = not (is_store action.kind) || not (nat_lt action.gate failed)

abbrev pub guard_holds : Registers → List Line → Option Read → Bool
guard_holds r lines None = true
guard_holds r lines (Some x) = not (word_read r lines x == 0)

abbrev pub allows : Registers → List Line → ℕ → Action → Bool
allows r lines failed action = is_open failed action && guard_holds r lines action.guard
