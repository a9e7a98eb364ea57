-- A machine that stands before the first edge of a run.
use Rattle.std.specs.Prelude.{◌≡◌, ℕ, ◌<◌, List, [], ◌∷◌, length}
use Rattle.hls_base.specs.declared.number.Kept.{Kept}
use Rattle.hls_base.specs.declared.number.VarId.{VarId}
use Rattle.ir_core.specs.declared.cfg.Frame.{Frame}
use Rattle.ir_core.specs.Bodies.{Words}
use Rattle.flat_programs.specs.Memory.Contents.{words_in}
use Rattle.clock_machine.specs.Lines.Registers.{held}
use Rattle.clock_machine.specs.declared.state.State.{State}
use Rattle.clock_machine.specs.declared.state.Position.TheVariants as position

-- what the variables and memories of a state hold
abbrev pub words_of : State → Words
words_of s = record { variables = held s.registers.variables.items; memories = words_in s.memories }

abbrev pub KeptThere : List Kept → ℕ → Type 0
KeptThere [] count = Unit {0}
KeptThere (x ∷ xs) count = (x.variable.0 < count) × KeptThere xs count

abbrev pub ParametersThere : List VarId → ℕ → Type 0
ParametersThere [] count = Unit {0}
ParametersThere (x ∷ xs) count = (x.0 < count) × ParametersThere xs count

-- the parameters and the scalars that stay are variables of the program
pub record IsNamed (frame : Frame) : Type 0 where
  pub kept : KeptThere frame.kept.items (length frame.variables.items)
  pub params : ParametersThere frame.params.items (length frame.variables.items)

-- before the first edge, with these contents
pub record IsStarting (t : Words) (s : State) : Type 0 where
  pub position : s.position ≡ position.Start
  pub words : words_of s ≡ t
