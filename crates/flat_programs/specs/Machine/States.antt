-- What the state of a machine shows of a run.
use Rattle.std.specs.Prelude.{◌≡◌, ℕ, ◌<◌, ◌≤◌, List, [], ◌∷◌, length, take, Result, Ok, Err}
use Rattle.ir_core.specs.declared.body.Body.{Body}
use Rattle.ir_core.specs.declared.body.Op.{Op}
use Rattle.ir_core.specs.declared.body.Out.{Out}
use Rattle.ir_core.specs.declared.stamp.Untimed.{Untimed}
use Rattle.ir_core.specs.Bodies.{Words, Ranged}
use Rattle.flat_programs.specs.Memory.Contents.{dims_in, words_in}
use Rattle.ir_core.specs.declared.machine.Halt.TheVariants as halt
use Rattle.flat_programs.specs.declared.machine.effects.Broken.{Broken}
use Rattle.flat_programs.specs.declared.machine.state.State.{State}
use Rattle.flat_programs.specs.Machine.Held.{holding, IsThere}
use Rattle.flat_programs.specs.Machine.Sizes.{HasArgs}

-- the results of the operations that are done
abbrev pub results_of : State → List ℕ
results_of s = take s.position s.results.items

abbrev pub words_of : State → Words
words_of s = holding s.variables.items (words_in s.memories)

abbrev pub ranged_of : State → Ranged
ranged_of s = record { results = results_of s; words = words_of s }

-- buffers, variables and memories keep their sizes, and the rest of the state stays
pub record Keeps (old new : State) : Type 0 where
  pub variables : length new.variables.items ≡ length old.variables.items
  pub results : length new.results.items ≡ length old.results.items
  pub args : length new.args.items ≡ length old.args.items
  pub fresh : length new.fresh.items ≡ length old.fresh.items
  pub dims : dims_in new.memories ≡ dims_in old.memories

pub record Stays (old new : State) : Type 0 where
  pub node : new.node ≡ old.node
  pub halt : new.halt ≡ old.halt
  pub returned : new.returned ≡ old.returned

-- ---- programs whose numbers name what is there

abbrev pub VariablesThere : List Out → ℕ → Type 0
VariablesThere [] count = Unit {0}
VariablesThere (x ∷ xs) count = (x.variable.0 < count) × VariablesThere xs count

abbrev pub ArraysThere : List (Op Untimed) → List (List ℕ) → Type 0
ArraysThere [] dims = Unit {0}
ArraysThere (op ∷ ops) dims = IsThere op.array dims × ArraysThere ops dims

-- ---- buffers that are long enough

abbrev pub FitsBody : State → Body Untimed → Type 0
FitsBody s b = (length b.ops.items ≤ length s.results.items) × (length b.outs.items ≤ length s.fresh.items) × HasArgs b.ops.items (length s.args.items)

abbrev pub IsThereIn : State → Body Untimed → Type 0
IsThereIn s b = VariablesThere b.outs.items (length s.variables.items) × ArraysThere b.ops.items (dims_in s.memories)

-- ---- halting

abbrev pub settled : Result (Unit {0}) Broken → State → State
settled (Ok _) s = s
settled (Err broken) s = record s { halt = halt.Undefined broken.rule broken.place }
